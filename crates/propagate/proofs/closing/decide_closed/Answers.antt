-- The lines that touch the block are looked at.
use Rattle.std.proofs.Common.{◌≡◌, inl, List, IsTrue, refl, sym, subst, arith}
use Rattle.propagate.specs.declared.closing.Closed.{Closed}
use Rattle.propagate.specs.declared.closing.Closed.TheVariants.{Stable, Conflict}
use Rattle.propagate.specs.Closing.{IsHandled, TellsClosed}
use Rattle.propagate.proofs.Chains.{grows_self, closed_stable, closed_conflict}
use Rattle.propagate.proofs.Handled.{handled_on}
use Rattle.propagate.proofs.closing.decide_closed.Goals as goal
use Rattle.solid_model.specs.declared.decision.Decision.{Decision}
use Rattle.solid_model.specs.declared.line_id.LineId.{LineId}
use Rattle.solid_model.specs.Blocks.{ProblemParts, IsBlocksOf}
use Rattle.solid_model.specs.Decisions.{PartialParts}
use Rattle.solid_model.specs.Demands.{has_line}

-- what closing tells where the decision is taken
as_taken : (taken was : PartialParts) → taken ≡ was → (new : List Decision) (closed : Closed) → TellsClosed taken.problem taken.decisions new closed → TellsClosed was.problem was.decisions new closed
as_taken taken was is new closed = subst (λ (v : PartialParts). TellsClosed v.problem v.decisions new closed) is

pub returns-in-Some-clause-closed : goal.returns-in-Some-clause-closed
returns-in-Some-clause-closed c =
    let taken = c.decide.new.self in
    as_taken taken _ c.decide.ensures.decided taken.decisions (Conflict c.in-Some.line) (closed_conflict taken.problem taken.decisions taken.decisions c.in-Some.line (grows_self taken.problem taken.decisions) c.in-Some.ensures.some)

pub settle_from-requires-clause-handled : goal.settle_from-requires-clause-handled
settle_from-requires-clause-handled c =
    let p = c.args.partial.now.problem in
    let ds = c.args.partial.now.decisions in
    let d : Decision = record { block = c.args.block; full = c.args.full } in
    let blocks = c.known.ensures.blocks in
    subst (λ (v : PartialParts). (l : LineId) → IsTrue (has_line v.problem.grid l) → IsHandled v.problem v.decisions c.decided-from.result l) (sym c.decide.ensures.decided)
    (λ l has. handled_on p blocks ds d c.requires.open c.decided-from.result (omega (arith, c.decided-from.ensures.count)) l (inl (c.requires.calm l has)))

pub returns-in-Some-settle_from-clause-closed : goal.returns-in-Some-settle_from-clause-closed
returns-in-Some-settle_from-clause-closed c =
    let taken = c.decide.new.self in
    let new = c.settle_from.new.partial.decisions in
    as_taken taken _ c.decide.ensures.decided new (Conflict c.in-Some-settle_from.line) (closed_conflict taken.problem taken.decisions new c.in-Some-settle_from.line c.settle_from.ensures.grows c.in-Some-settle_from.ensures.lost)

pub returns-in-None-clause-closed : goal.returns-in-None-clause-closed
returns-in-None-clause-closed c =
    let taken = c.decide.new.self in
    let new = c.settle_from.new.partial.decisions in
    as_taken taken _ c.decide.ensures.decided new Stable (closed_stable taken.problem taken.decisions new c.settle_from.ensures.grows (c.in-None.ensures.met refl) (c.in-None.ensures.done refl))
