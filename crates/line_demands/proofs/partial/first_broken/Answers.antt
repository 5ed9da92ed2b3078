-- The least of the broken lines.
use Rattle.std.proofs.Common.{Some, None, sym, subst, arith}
use Rattle.line_demands.specs.declared.lines.Beside.{Beside}
use Rattle.line_demands.specs.Broken.{TellsBroken}
use Rattle.solid_model.specs.Decisions.{decided_by, PartialParts}
use Rattle.line_demands.specs.Lines.{IsLeast}
use Rattle.line_demands.proofs.KeptState.{broken_there, first_some, first_none}
use Rattle.line_demands.proofs.partial.first_broken.Goals as goal

pub index-requires : goal.index-requires
index-requires c =
    let self = c.state.inside in
    let least : IsLeast self.broken.items (Some c.in-Some.number) = subst (λ bs. IsLeast bs (Some c.in-Some.number)) c.as_slice.ensures.value c.in-Some.ensures in
    let there = broken_there self.problem.now c.state.invariant.4 self.spans.items self.touched.items self.sides.items self.decisions.items self.columns.items self.met.items self.heights.items self.broken.items _ _ _ c.state.invariant.0 c.in-Some.number least.there in
    omega (arith, there, self.sides.ok.0)

pub returns-in-Some : goal.returns-in-Some
returns-in-Some c =
    let self = c.state.inside in
    let least : IsLeast self.broken.items (Some c.in-Some.number) = subst (λ bs. IsLeast bs (Some c.in-Some.number)) c.as_slice.ensures.value c.in-Some.ensures in
    subst (λ (v : PartialParts). TellsBroken v.problem (decided_by v.decisions) (Some c.index.result.now.line)) c.state.view_is
    (subst (λ (b : Beside). TellsBroken self.problem.now (decided_by self.decisions.items) (Some b.line)) (sym c.index.ensures)
    (first_some self.problem.now c.state.invariant.4 self.spans.items self.touched.items self.sides.items self.decisions.items self.columns.items self.met.items self.heights.items self.broken.items _ _ _ c.state.invariant.0 c.in-Some.number c.index.result.now least))

pub returns-in-None : goal.returns-in-None
returns-in-None c =
    let self = c.state.inside in
    let least : IsLeast self.broken.items None = subst (λ bs. IsLeast bs None) c.as_slice.ensures.value c.in-None.ensures in
    subst (λ (v : PartialParts). TellsBroken v.problem (decided_by v.decisions) None) c.state.view_is
    (first_none self.problem.now c.state.invariant.4 self.spans.items self.touched.items self.sides.items self.decisions.items self.columns.items self.met.items self.heights.items self.broken.items _ _ _ c.state.invariant.0 least)
