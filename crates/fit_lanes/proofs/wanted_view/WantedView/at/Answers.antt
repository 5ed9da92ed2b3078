-- What is wanted on the problem's grid, of what is asked.
use Rattle.std.proofs.Common.{true, false, subst}
use Rattle.std.specs.Prelude.{MatchOption}
use Rattle.solid_model.specs.Panels.{GridParts, coordinates_of}
use Rattle.further_views.specs.Further.{AskedRuns}
use Rattle.fit_lanes.specs.Wanted.{AreWantedBytes, AreNeverDrawn}
use Rattle.fit_lanes.proofs.wanted_view.WantedView.at.Goals as goal

pub invariant_of-result : goal.invariant_of-result
invariant_of-result c =
    let right = c.args.right in let up = c.args.up in (
      subst (λ (a : AskedRuns). MatchOption c.in_ok-level.level (AreNeverDrawn (coordinates_of c.args.problem.now.grid) a.layer a.runs right up false)
          (λ v. AreWantedBytes (coordinates_of c.args.problem.now.grid) a.layer a.runs right up false v.items)) c.asked.view_is
          (subst (λ (g : GridParts). MatchOption c.in_ok-level.level (AreNeverDrawn (coordinates_of g) c.asked.inside.layer c.asked.inside.lines right up false)
          (λ v. AreWantedBytes (coordinates_of g) c.asked.inside.layer c.asked.inside.lines right up false v.items)) c.grid-grid.ensures.grid c.in_ok-level.ensures),
      subst (λ (a : AskedRuns). MatchOption c.in_ok-upright.upright (AreNeverDrawn (coordinates_of c.args.problem.now.grid) a.layer a.runs right up true)
          (λ v. AreWantedBytes (coordinates_of c.args.problem.now.grid) a.layer a.runs right up true v.items)) c.asked.view_is
          (subst (λ (g : GridParts). MatchOption c.in_ok-upright.upright (AreNeverDrawn (coordinates_of g) c.asked.inside.layer c.asked.inside.lines right up true)
          (λ v. AreWantedBytes (coordinates_of g) c.asked.inside.layer c.asked.inside.lines right up true v.items)) c.grid-grid.ensures.grid c.in_ok-upright.ensures),
    )
