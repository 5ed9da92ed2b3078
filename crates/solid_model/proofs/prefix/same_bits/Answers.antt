-- Up to the lowest bit of the exclusive or.
use Rattle.std.proofs.Common.{◌≡◌, ◌<◌, ◌^◌, ℕ, bit_xor, w64, inl, inr, arith}
use Rattle.std.proofs.lemmas.Bool.{cases_lt}
use Rattle.std.proofs.lemmas.Nat.{xor_lt, and_le_l, and_le_r}
use Rattle.std.proofs.lemmas.Nat.Bits.{bit_at-trailing_zeros}
use Rattle.std.specs.Int.{trailing_zeros, bit_at}
use Rattle.std.specs.Int.Bits.{xor_add_and}
use Rattle.lemmas.proofs.BitChanges.{bit_alike, bit_apart}
use Rattle.solid_model.proofs.prefix.same_bits.Goals as goal

-- of words that differ, the exclusive or isn't 0
some_bit : (a b : ℕ) → (a ≡ b → ⊥) → 0 < bit_xor a b
some_bit a b apart = elim (cases_lt 0 (bit_xor a b)) as (λ _. 0 < bit_xor a b) [
  | inl l ↦ l
  | inr none ↦ absurd (apart (omega (arith, xor_add_and a b, and_le_l a b, and_le_r a b)))
]

-- its lowest bit
lowest : (a b : ℕ) → a < 2 ^ 64 → b < 2 ^ 64 → (a ≡ b → ⊥)
    → (trailing_zeros w64 (bit_xor a b) < 64) × (bit_at (bit_xor a b) (trailing_zeros w64 (bit_xor a b)) ≡ 1)
    × ((i : ℕ) → i < trailing_zeros w64 (bit_xor a b) → bit_at (bit_xor a b) i ≡ 0)
lowest a b l m apart = bit_at-trailing_zeros w64 (bit_xor a b) (some_bit a b apart) (xor_lt 64 a b l m)

pub returns-clause-within : goal.returns-clause-within
returns-clause-within c = (lowest c.args.left c.args.right (omega arith) (omega arith) c.requires).0

pub returns-clause-same : goal.returns-clause-same
returns-clause-same c k l = bit_alike c.args.left c.args.right k ((lowest c.args.left c.args.right (omega arith) (omega arith) c.requires).2 k l)

pub returns-clause-differ : goal.returns-clause-differ
returns-clause-differ c = bit_apart c.args.left c.args.right _ (lowest c.args.left c.args.right (omega arith) (omega arith) c.requires).1
