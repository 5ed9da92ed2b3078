-- The columns beside the line tell it.
use Rattle.std.proofs.Common.{◌↔◌, IsTrue, List, subst}
use Rattle.line_demands.specs.declared.known.KnownColumn.{KnownColumn}
use Rattle.solid_model.specs.Decisions.{decided_by, PartialParts}
use Rattle.line_demands.specs.Lines.{IsMetBy}
use Rattle.line_demands.proofs.KeptState.{is_beside, meet_told}
use Rattle.line_demands.proofs.partial.Partial.can_meet.Goals as goal
use Rattle.solid_model.specs.Demands.{CanBeMet}

pub returns : goal.returns
returns c =
    let self = c.self.inside in
    let b = c.beside_of-beside.result in
    let told = c.beside_of-beside.ensures in
    subst (λ (v : PartialParts). IsTrue c.can_be_met.result ↔ CanBeMet v.problem (decided_by v.decisions) c.args.line) c.self.view_is
    (meet_told self.problem.now c.grid.ensures.kept self.spans.items self.touched.items self.sides.items self.decisions.items self.columns.items self.met.items self.heights.items self.broken.items _ _ _ c.self.invariant.0
    b c.args.line c.can_be_met.result
    (is_beside self.problem.now c.grid.result.now b c.args.line c.grid.ensures.grid told.line told.cell told.style told.after told.before told.inside_after told.inside_before)
    told.line (subst (λ (cs : List KnownColumn). IsTrue c.can_be_met.result ↔ IsMetBy cs b) c.as_slice.ensures.value c.can_be_met.ensures))
