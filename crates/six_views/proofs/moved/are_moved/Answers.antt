-- Where a run isn't moved the lists differ there.
use Rattle.std.proofs.Common.{List, get_or, pos, w64, SFits, ap, ◌∙◌, arith, rules}
use Rattle.std.proofs.lemmas.Bool.{false≢true, both_ways}
use Rattle.std.proofs.lemmas.Int.{to_z-of_z}
use Rattle.std.proofs.lemmas.List.{get_or-map}
use Rattle.solid_model.specs.declared.runs.Run.{Run}
use Rattle.solid_model.specs.declared.segment.Style.TheVariants.{Blank}
use Rattle.six_views.specs.MovedRuns.{moved_run}
use Rattle.six_views.proofs.moved.are_moved.Goals as goal

-- what stands beyond a list of runs
abbrev no_run : Run
no_run = record { at = pos 0; from = pos 0; to = pos 0; style = Blank }

pub returns-then-not-is_moved : goal.returns-then-not-is_moved
returns-then-not-is_moved c =
    let across : SFits w64 c.args.across = search rules in
    let along : SFits w64 c.args.along = search rules in
    let told = rw (to_z-of_z w64 c.args.across across, to_z-of_z w64 c.args.along along) at c.is_moved.ensures in (
      (λ f. absurd (false≢true f)),
      (λ e. absurd (both_ways c.is_moved.result c.if-not-is_moved.true (told.1
          (ap (λ (rs : List Run). get_or rs c.loop-place.place no_run) e
          ∙ get_or-map (moved_run c.args.across c.args.along) c.args.shown.now c.loop-place.place no_run no_run (omega arith))))),
    )
