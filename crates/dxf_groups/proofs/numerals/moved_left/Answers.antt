-- The digits that pass a point moved to the left are all 0, or the magnitude isn't whole.
use Rattle.std.proofs.Common.{◌∙◌, subst, refl, arith}
use Rattle.std.specs.Str.Parse.{AllDigits}
use Rattle.std.proofs.lemmas.Bool.{false≢true}
use Rattle.dxf_groups.proofs.NumeralDigits.{digits_parts}
use Rattle.dxf_groups.proofs.NumeralScale.{left_whole, left_broken}
use Rattle.dxf_groups.proofs.numerals.moved_left.Goals as goal
use Rattle.dxf_groups.proofs.numerals.moved_left.Goals.{else-are_zeros-via-then-are_zeros+else-are_zeros-2, else-are_zeros-via-else-are_zeros}

pub are_zeros-requires : goal.are_zeros-requires
are_zeros-requires c =
    (digits_parts c.split_at.result.0.now c.split_at.result.1.now
    (subst (AllDigits 10) c.split_at.ensures.by_index.0 c.requires.before)).1

pub number_after-requires : goal.number_after-requires
number_after-requires c =
    (digits_parts c.split_at.result.0.now c.split_at.result.1.now
    (subst (AllDigits 10) c.split_at.ensures.by_index.0 c.requires.before)).0

pub returns-then-are_zeros-2 : goal.returns-then-are_zeros-2
returns-then-are_zeros-2 c = λ n kept.
    let split = c.split_at.ensures in
    left_whole c.args.before.now c.args.after.now c.split_at.result.0.now c.split_at.result.1.now
    c.args.by n split.by_index.0 (split.front_len ∙ c.saturating_sub.ensures) kept (omega arith)
    c.requires.before c.requires.after
    c.number_after.result (c.if-are_zeros.ensures.0 refl) (c.if-are_zeros-2.ensures.0 refl)
    c.number_after.ensures

pub returns-else-are_zeros : goal.returns-else-are_zeros
returns-else-are_zeros c = λ n kept.
    let split = c.split_at.ensures in
    left_broken c.args.before.now c.args.after.now c.split_at.result.0.now c.split_at.result.1.now
    c.args.by n split.by_index.0 (split.front_len ∙ c.saturating_sub.ensures) kept (omega arith)
    c.requires.before c.requires.after
    (λ none_before none_after. elim c.else-are_zeros.branch [
      | else-are_zeros-via-then-are_zeros+else-are_zeros-2 w ↦
          false≢true (w.if-are_zeros-2.ensures.1 none_after)
      | else-are_zeros-via-else-are_zeros w ↦ false≢true (w.if-are_zeros.ensures.1 none_before)
    ])
