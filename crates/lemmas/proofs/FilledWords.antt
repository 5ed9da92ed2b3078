-- A word that is filled bit by bit.
use Rattle.std.proofs.Common.{◌≡◌, ◌≢◌, inl, inr, Bool, true, false, ◌==◌, ℕ, ◌+◌, ◌*◌, ◌%◌, ◌^◌, ◌<◌, ◌≤◌, bit_or, w64, ap, sym, subst, ◌∙◌, arith}
use Rattle.std.proofs.lemmas.Bool.{cases_lt, eq-eqb}
use Rattle.std.proofs.lemmas.Nat.Bits.{bit_at-zero, bit_at_set_same, bit_at_set_other}
use Rattle.lemmas.specs.Bits.{is_set}

-- its first n bits are these, and no other is set
pub record IsFilledBy (bits : ℕ → Bool) (word n : ℕ) : Type 0 where
  pub below : (k : ℕ) → k < n → is_set word k ≡ bits k
  pub above : (k : ℕ) → n ≤ k → is_set word k ≡ false

-- none so far
pub filled_none : (bits : ℕ → Bool) → IsFilledBy bits 0 0
filled_none bits = record { below = λ k l. absurd (omega arith); above = λ k l. ap (λ b. b == 1) (bit_at-zero k) }

-- a bit that isn't set leaves the word as it is
pub fill_clear : (bits : ℕ → Bool) (word n : ℕ) → IsFilledBy bits word n → bits n ≡ false → IsFilledBy bits word (n + 1)
fill_clear bits word n filled none = record {
  below = λ k l. elim (cases_lt k n) as (λ _. is_set word k ≡ bits k) [
    | inl earlier ↦ filled.below k earlier
    | inr later ↦ (let here : n ≡ k = omega arith in subst (λ m. is_set word m ≡ bits m) here (filled.above n (omega arith) ∙ sym none))
  ];
  above = λ k l. filled.above k (omega arith);
}

-- one that is, is set
pub fill_set : (bits : ℕ → Bool) (word n : ℕ) → IsFilledBy bits word n → n < 64 → bits n ≡ true
    → IsFilledBy bits (bit_or word (1 * 2 ^ n % 2 ^ 64)) (n + 1)
fill_set bits word n filled within full = record {
  below = λ k l. elim (cases_lt k n) as (λ _. is_set after k ≡ bits k) [
    | inl earlier ↦ other k (omega arith) ∙ filled.below k earlier
    | inr later ↦ (let here : n ≡ k = omega arith in
        subst (λ m. is_set after m ≡ bits m) here (eq-eqb _ 1 (bit_at_set_same w64 word n within) ∙ sym full))
  ];
  above = λ k l. other k (omega arith) ∙ filled.above k (omega arith);
}
  where
    after : ℕ
    after = bit_or word (1 * 2 ^ n % 2 ^ 64)

    other : (k : ℕ) → k ≢ n → is_set after k ≡ is_set word k
    other k apart = ap (λ b. b == 1) (bit_at_set_other w64 word n within k apart)

-- where no farther bit is one of these, all are set
pub filled_whole : (bits : ℕ → Bool) (word n : ℕ) → IsFilledBy bits word n → ((k : ℕ) → n ≤ k → k < 64 → bits k ≡ false)
    → (k : ℕ) → k < 64 → is_set word k ≡ bits k
filled_whole bits word n filled none k within = elim (cases_lt k n) as (λ _. is_set word k ≡ bits k) [
  | inl earlier ↦ filled.below k earlier
  | inr later ↦ filled.above k later ∙ sym (none k later within)
]
