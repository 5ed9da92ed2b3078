-- What is made of what is decided is decided.
use Rattle.std.proofs.Common.{◌≡◌, ◌↔◌, inl, inr, Bool, true, false, refl}
use Rattle.std.proofs.lemmas.Bool.{false≢true}
use Rattle.lemmas.proofs.Decisions.{IsDecided}

-- both
pub both_decided : (P Q : Type 0) → IsDecided P → IsDecided Q → IsDecided (P × Q)
both_decided P Q (inl p) (inl q) = inl (p, q)
both_decided P Q (inl p) (inr none) = inr (λ h. none h.1)
both_decided P Q (inr none) q = inr (λ h. none h.0)

-- what stands or falls with it
pub as_decided : (P Q : Type 0) → (P → Q) → (Q → P) → IsDecided P → IsDecided Q
as_decided P Q to from (inl p) = inl (to p)
as_decided P Q to from (inr none) = inr (λ q. none (from q))

-- a test passes, or doesn't
pub test_decided : (b : Bool) → IsDecided (b ≡ true)
test_decided true = inl refl
test_decided false = inr (λ e. false≢true e)

-- a test that passes where it holds
abbrev pub told : (P : Type 0) → IsDecided P → Bool
told P (inl p) = true
told P (inr none) = false

pub told_is : (P : Type 0) (d : IsDecided P) → (told P d ≡ true) ↔ P
told_is P (inl p) = ((λ e. p), (λ q. refl))
told_is P (inr none) = ((λ e. absurd (false≢true e)), (λ q. absurd (none q)))
