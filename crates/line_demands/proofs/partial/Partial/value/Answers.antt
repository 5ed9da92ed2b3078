-- The table tells it.
use Rattle.std.proofs.Common.{◌<◌, get_or, ap, sym, ◌∙◌, arith}
use Rattle.solid_model.specs.Decisions.{PartialParts, decided_by}
use Rattle.line_demands.proofs.Deciding.{none_above}
use Rattle.line_demands.proofs.partial.Partial.value.Goals as goal

pub returns-then-number-len : goal.returns-then-number-len
returns-then-number-len c =
    let self = c.self.inside in
    let p = self.problem.now in
    let count = c.self.invariant.1.count in
    let l : c.args.block < p.blocks.count = omega (arith, c.if-number-len.true, c.from-number.ensures, self.values.ok.0, count, c.len.ensures) in
    c.index.ensures ∙ ap (λ n. get_or self.values.items n c.index.result.now) c.from-number.ensures ∙ c.self.invariant.1.each c.args.block c.index.result.now l
    ∙ ap (λ (v : PartialParts). decided_by v.decisions c.args.block) c.self.view_is

pub returns-else-number-len : goal.returns-else-number-len
returns-else-number-len c =
    let self = c.self.inside in
    let p = self.problem.now in
    let count = c.self.invariant.1.count in
    sym (none_above p.blocks.count self.decisions.items c.args.block c.self.invariant.0.decided (omega (arith, c.if-number-len.false, c.from-number.ensures, self.values.ok.0, count, c.len.ensures)))
    ∙ ap (λ (v : PartialParts). decided_by v.decisions c.args.block) c.self.view_is
