-- The digits that a point moved to the right doesn't pass are all 0, or the magnitude isn't whole.
use Rattle.std.proofs.Common.{◌∙◌, ◌*◌, ◌^◌, subst, refl, ap, arith}
use Rattle.std.specs.Str.Parse.{AllDigits}
use Rattle.dxf_groups.specs.NumeralParts.{capped}
use Rattle.std.proofs.lemmas.Bool.{false≢true}
use Rattle.dxf_groups.proofs.NumeralDigits.{digits_parts}
use Rattle.dxf_groups.proofs.NumeralScale.{right_whole, right_broken}
use Rattle.dxf_groups.proofs.numerals.moved_right.Goals as goal

pub are_zeros-requires : goal.are_zeros-requires
are_zeros-requires c =
    (digits_parts c.split_at.result.0.now c.split_at.result.1.now
    (subst (AllDigits 10) c.split_at.ensures.by_index.0 c.requires.after)).1

pub number_after-number-requires : goal.number_after-number-requires
number_after-number-requires c =
    (digits_parts c.split_at.result.0.now c.split_at.result.1.now
    (subst (AllDigits 10) c.split_at.ensures.by_index.0 c.requires.after)).0

pub returns-then-are_zeros : goal.returns-then-are_zeros
returns-then-are_zeros c = λ n kept.
    let split = c.split_at.ensures in
    right_whole c.args.before.now c.args.after.now c.split_at.result.0.now c.split_at.result.1.now
    c.args.by n split.by_index.0 (split.front_len ∙ c.min.ensures) kept (omega arith)
    c.requires.after
    c.number_after.result c.number_after-number.result c.with_zeros.result
    (c.if-are_zeros.ensures.0 refl) c.number_after.ensures c.number_after-number.ensures
    (c.with_zeros.ensures
    ∙ ap (λ e. capped (c.number_after-number.result * 10 ^ e)) c.saturating_sub.ensures)

pub returns-else-are_zeros : goal.returns-else-are_zeros
returns-else-are_zeros c = λ n kept.
    let split = c.split_at.ensures in
    right_broken c.args.before.now c.args.after.now c.split_at.result.0.now c.split_at.result.1.now
    c.args.by n split.by_index.0 (split.front_len ∙ c.min.ensures) kept (omega arith)
    c.requires.after
    (λ none. false≢true (c.if-are_zeros.ensures.1 none))
