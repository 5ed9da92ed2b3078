-- Both kinds tell what is wanted where each does.
use Rattle.std.proofs.Common.{sym, subst}
use Rattle.fit_lanes.specs.Wanted.{TellsPlaced, WantedParts}
use Rattle.fit_lanes.proofs.AllTold.{told_both}
use Rattle.fit_lanes.proofs.wanted_view.WantedView.is_told.Goals as goal

pub returns : goal.returns
returns c =
    let own : WantedParts = record {
      asked = record { problem = c.self.inside.problem.now; asked = c.self.inside.asked.now };
      right = c.self.inside.right;
      up = c.self.inside.up;
    } in
    subst (λ (w : WantedParts). TellsPlaced w c.args.level.now c.args.upright.now c.both.result) c.self.view_is
    (subst (TellsPlaced own c.args.level.now c.args.upright.now) (sym c.both.ensures)
    (told_both (λ v. v.items) own c.self.inside.level c.self.inside.upright c.self.invariant.0 c.self.invariant.1 c.args.level.now c.args.upright.now
    c.are_wanted-level_told.result c.are_wanted-upright_told.result c.are_wanted-level_told.ensures c.are_wanted-upright_told.ensures))
