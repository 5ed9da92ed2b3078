-- One bit more.
use Rattle.std.proofs.Common.{ℕ, Bool, false, get_or, ◌+◌, sym, subst, ◌∙◌, arith}
use Rattle.lemmas.proofs.FilledWords.{IsFilledBy, fill_clear, fill_set}
use Rattle.solid_model.proofs.prefix.word_of.Goals as goal
use Rattle.solid_model.proofs.prefix.word_of.Goals.{then-value_at, else-value_at}

pub loop-bit-preserved : goal.loop-bit-preserved
loop-bit-preserved c =
    let bits : ℕ → Bool = λ k. get_or c.args.values.now (c.args.from + k) false in
    let bit = c.loop-bit.bit in
    let word = c.loop-bit.word in
    elim c.if-value_at.branch [
      | then-value_at w ↦ subst (λ n. IsFilledBy bits n (bit + 1)) (sym w.word-is)
          (fill_set bits word bit c.loop-bit.invariant (omega arith) (sym c.value_at.ensures ∙ w.if-value_at.true))
      | else-value_at w ↦ subst (λ n. IsFilledBy bits n (bit + 1)) (sym w.word-is)
          (fill_clear bits word bit c.loop-bit.invariant (sym c.value_at.ensures ∙ w.if-value_at.false))
    ]
