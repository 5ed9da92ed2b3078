-- Numbers one after another.
use Rattle.std.proofs.Common.{inl, inr, ℕ, zero, suc, ◌+◌, ◌<◌, ◌≤◌, arith}
use Rattle.std.specs.List.{range_with_len}
use Rattle.std.proofs.lemmas.Bool.{cases_lt}
use Rattle.lemmas.specs.Lists.{Member, Ascends}
use Rattle.lemmas.proofs.Lists.{each-from}

-- n numbers from a on are those from a to before its n-th next one
pub member-range : (n a k : ℕ) → a ≤ k → k < a + n → Member (range_with_len a n) k
member-range zero a k from to = absurd (omega arith)
member-range (suc n) a k from to = elim (cases_lt a k) as (λ _. Member (range_with_len a (suc n)) k) [
  | inl l ↦ inr (member-range n (a + 1) k (omega arith) (omega arith))
  | inr l ↦ inl (omega arith)
]

-- and no others
pub member-from_range : (n a k : ℕ) → Member (range_with_len a n) k → (a ≤ k) × (k < a + n)
member-from_range zero a k m = absurd m
member-from_range (suc n) a k (inl e) = (omega arith, omega arith)
member-from_range (suc n) a k (inr m) = let r = member-from_range n (a + 1) k m in (omega (arith, r.0), omega (arith, r.1))

-- they ascend
pub ascends-range : (n a : ℕ) → Ascends ◌<◌ (range_with_len a n)
ascends-range zero a = tt
ascends-range (suc n) a =
    (each-from (λ k. a < k) (range_with_len (a + 1) n) (λ k m. let r = member-from_range n (a + 1) k m in omega (arith, r.0)), ascends-range n (a + 1))
