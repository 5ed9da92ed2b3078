-- Finitely many questions can't all but be decided: it can't be that one of them isn't.
use Rattle.std.proofs.Common.{◌≡◌, ◌⊎◌, inl, inr, ℕ, zero, suc, ◌<◌, subst, arith}
use Rattle.std.proofs.lemmas.Bool.{cases_lt}

-- P holds or doesn't
abbrev pub IsDecided : Type 0 → Type 0
IsDecided P = P ⊎ (P → ⊥)

-- it can't be that neither is so
pub never_undecided : (P : Type 0) → (IsDecided P → ⊥) → ⊥
never_undecided P none = none (inr (λ p. none (inl p)))

-- what is below the next number is below this one, or it
pub below_next : (p n : ℕ) → p < suc n → (p < n) ⊎ (n ≡ p)
below_next p n l = elim (cases_lt p n) as (λ _. (p < n) ⊎ (n ≡ p)) [ inl less ↦ inl less | inr least ↦ inr (omega arith) ]

-- what holds below a number, and of it, holds below the next one
pub holds_below_next : (Q : ℕ → Type 0) (n : ℕ) → ((k : ℕ) → k < n → Q k) → Q n → (k : ℕ) → k < suc n → Q k
holds_below_next Q n below here k l = elim (below_next k n l) as (λ _. Q k) [ inl less ↦ below k less | inr e ↦ subst Q e here ]

-- where it can't be that Q fails of any number, it can't be that it fails of one of the first n
pub never_none : (Q : ℕ → Type 0) → ((k : ℕ) → (Q k → ⊥) → ⊥) → (n : ℕ) → (((k : ℕ) → k < n → Q k) → ⊥) → ⊥
never_none Q some zero none = none (λ k l. absurd (omega arith))
never_none Q some (suc n) none = never_none Q some n (λ below. some n (λ here. none (holds_below_next Q n below here)))

-- of the first n, of which each is decided, some has the property, or none
pub some_or_none : (P : ℕ → Type 0) (n : ℕ) → ((k : ℕ) → k < n → IsDecided (P k)) → ((k : ℕ) × (k < n) × P k) ⊎ ((k : ℕ) → k < n → P k → ⊥)
some_or_none P zero decided = inr (λ k l p. absurd (omega arith))
some_or_none P (suc n) decided = by (some_or_none P n (λ k l. decided k (omega arith))) (decided n (omega arith))
  where
    by : ((k : ℕ) × (k < n) × P k) ⊎ ((k : ℕ) → k < n → P k → ⊥) → IsDecided (P n) → ((k : ℕ) × (k < suc n) × P k) ⊎ ((k : ℕ) → k < suc n → P k → ⊥)
    by (inl (k, l, p)) here = inl (k, omega arith, p)
    by (inr none) (inl p) = inl (n, omega arith, p)
    by (inr none) (inr not_here) = inr (holds_below_next (λ k. P k → ⊥) n none not_here)
