-- The first piece of a frontier, after a report too.
use Rattle.std.proofs.Common.{◌≡◌, ℕ, ◌==◌, List, [], ◌∷◌, ◌++◌, refl}
use Rattle.std.proofs.lemmas.Bool.{cond_both}
use Rattle.lemmas.specs.Lists.{Each}
use Rattle.search_core.specs.Frontier.{first_or, passed}

-- the first one of a list is what all of it are, and what stands for it is
pub each-first : (P : ℕ → Type 0) (other : ℕ) (ks : List ℕ) → P other → Each P ks → P (first_or other ks)
each-first P other [] h all = h
each-first P other (k ∷ ks) h all = all.0

-- those that aren't passed over are what all are
pub each-passed : (P : ℕ → Type 0) (count : ℕ → ℕ) (ks : List ℕ) → Each P ks → Each P (passed count ks)
each-passed P count [] all = all
each-passed P count (k ∷ ks) all = cond_both (count k == 0) (passed count ks) (k ∷ ks) (Each P) (λ e. each-passed P count ks all.1) (λ e. all)

-- the first of two lists is the first of the one, or else of the other, whatever stands for it then
pub first-of_both : (other : ℕ) (ks js : List ℕ) → first_or (first_or (first_or other js) ks) (ks ++ js) ≡ first_or (first_or other js) ks
first-of_both other [] [] = refl
first-of_both other [] (j ∷ js) = refl
first-of_both other (k ∷ ks) js = refl
