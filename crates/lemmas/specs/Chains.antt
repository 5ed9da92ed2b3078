-- Chains of steps.
use Rattle.std.specs.Prelude.{◌≡◌, ℕ, zero, suc}

-- so many steps lead from a to b
abbrev pub Chain : {A : Type 0} → (A → A → Type 0) → ℕ → A → A → Type 0
Chain step zero a b = a ≡ b
Chain {A} step (suc n) a b = (c : A) × Chain step n a c × step c b

-- some chain of steps leads from a to b
abbrev pub Reaches : {A : Type 0} → (A → A → Type 0) → A → A → Type 0
Reaches step a b = (n : ℕ) × Chain step n a b
