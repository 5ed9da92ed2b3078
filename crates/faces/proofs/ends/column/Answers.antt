-- One bit more; and all of them.
use Rattle.std.proofs.Common.{◌+◌, ℕ, get_or, sym, subst, ◌∙◌, arith}
use Rattle.lemmas.specs.Bits.{is_set}
use Rattle.lemmas.proofs.FilledWords.{IsFilledBy, filled_none, fill_clear, fill_set, filled_whole}
use Rattle.faces.proofs.ends.column.Goals as goal
use Rattle.faces.proofs.ends.column.Goals.{then-has_bit, else-has_bit}

pub loop-place-init : goal.loop-place-init
loop-place-init c = filled_none (λ k. is_set (get_or c.args.rows.now k 0) c.args.number)

pub loop-place-preserved : goal.loop-place-preserved
loop-place-preserved c =
    let bits = λ (k : ℕ). is_set (get_or c.args.rows.now k 0) c.args.number in
    let place = c.loop-place.place in
    elim c.if-has_bit.branch [
      | then-has_bit w ↦ subst (λ n. IsFilledBy bits n (place + 1)) (sym w.found-is)
          (fill_set bits c.loop-place.found place c.loop-place.invariant (omega (arith, c.loop-place-test.true)) (sym c.has_bit.ensures ∙ w.if-has_bit.true))
      | else-has_bit w ↦ subst (λ n. IsFilledBy bits n (place + 1)) (sym w.found-is)
          (fill_clear bits c.loop-place.found place c.loop-place.invariant (sym c.has_bit.ensures ∙ w.if-has_bit.false))
    ]

pub returns : goal.returns
returns c = filled_whole (λ k. is_set (get_or c.args.rows.now k 0) c.args.number) c.loop-place.found c.loop-place.place c.loop-place.invariant
    (λ k beyond within. absurd (omega (arith, beyond, within, c.loop-place-test.false)))
