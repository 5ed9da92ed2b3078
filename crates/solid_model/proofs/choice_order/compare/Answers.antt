-- The first difference decides.
use Rattle.std.proofs.Common.{sym, ◌∙◌}
use Rattle.solid_model.proofs.ComparedChoices.{within, one_choice, full_first, empty_first}
use Rattle.solid_model.proofs.choice_order.compare.Goals as goal

pub returns-then-same-len : goal.returns-then-same-len
returns-then-same-len c =
    let are = one_choice c.args.a.now c.args.b.now c.requires c.shared-same.result c.shared-same.ensures (c.if-same-len.true ∙ c.len.ensures) in
    record { less = are.less; equal = are.equal; greater = are.greater }

pub get-requires : goal.get-requires
get-requires c = within c.args.a.now c.args.b.now c.requires c.shared-same.result c.shared-same.ensures (λ e. c.if-same-len.false (e ∙ sym c.len.ensures))

pub returns-then-get : goal.returns-then-get
returns-then-get c =
    let are = full_first c.args.a.now c.args.b.now c.requires c.shared-same.result c.shared-same.ensures (λ e. c.if-same-len.false (e ∙ sym c.len.ensures)) (sym c.get.ensures ∙ c.if-get.true) in
    record { less = are.less; equal = are.equal; greater = are.greater }

pub returns-else-get : goal.returns-else-get
returns-else-get c =
    let are = empty_first c.args.a.now c.args.b.now c.requires c.shared-same.result c.shared-same.ensures (λ e. c.if-same-len.false (e ∙ sym c.len.ensures)) (sym c.get.ensures ∙ c.if-get.false) in
    record { less = are.less; equal = are.equal; greater = are.greater }
