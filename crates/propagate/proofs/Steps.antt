-- The lines before one, and all of them.
use Rattle.std.proofs.Common.{◌≡◌, ◌⊎◌, inl, inr, false, ℕ, zero, suc, ◌+◌, List, [], ◌∷◌, ◌++◌, take, drop, slice_get, Some, ap, sym, subst, ◌∙◌, arith}
use Rattle.std.proofs.lemmas.Option.{none-some, same_Some}
use Rattle.solid_model.specs.declared.frame.View.TheVariants.{Front}
use Rattle.solid_model.specs.declared.line_id.LineId.{LineId}
use Rattle.lemmas.specs.Lists.{Member}

-- a line to look for where there is none
pub no_line : LineId
no_line = record { view = Front; upright = false; at = 0; cell = 0 }

pub place_parts : {A : Type 0} (xs : List A) (k : ℕ) (x : A) → slice_get xs k ≡ Some x → xs ≡ take k xs ++ x ∷ drop (suc k) xs
place_parts [] k x e = absurd (none-some x e)
place_parts (y ∷ xs) zero x e = ap (λ z. z ∷ xs) (same_Some y x e)
place_parts (y ∷ xs) (suc k) x e = ap (λ zs. y ∷ zs) (place_parts xs k x e)

pub member_take : {A : Type 0} (xs : List A) (k : ℕ) (x m : A) → slice_get xs k ≡ Some x → Member (take (k + 1) xs) m → Member (take k xs) m ⊎ (x ≡ m)
member_take {A} xs k x m e h = (let next : k + 1 ≡ suc k = omega arith in at xs k e (subst (λ n. Member (take n xs) m) next h))
  where
    at : (xs : List A) (k : ℕ) → slice_get xs k ≡ Some x → Member (take (suc k) xs) m → Member (take k xs) m ⊎ (x ≡ m)
    at [] k e h = absurd (none-some x e)
    at (y ∷ xs) zero e (inl f) = inr (sym (same_Some y x e) ∙ f)
    at (y ∷ xs) zero e (inr h) = absurd h
    at (y ∷ xs) (suc k) e (inl f) = inl (inl f)
    at (y ∷ xs) (suc k) e (inr h) = elim (at xs k e h) as (λ _. Member (y ∷ take k xs) m ⊎ (x ≡ m)) [ inl n ↦ inl (inr n) | inr n ↦ inr n ]
