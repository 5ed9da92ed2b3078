-- Tests: when two are the same, and tests of all members of a list.
use Rattle.std.proofs.Common.{◌≡◌, inl, inr, Bool, true, false, List, [], ◌∷◌, refl, sym, subst}
use Rattle.std.specs.List.{list_all}
use Rattle.std.proofs.lemmas.Bool.{and_parts, and_from}
use Rattle.lemmas.specs.Lists.{Member}

-- two tests that imply one another are the same
pub same_tests : (x y : Bool) → (x ≡ true → y ≡ true) → (y ≡ true → x ≡ true) → x ≡ y
same_tests true y to from = sym (to refl)
same_tests false true to from = from refl
same_tests false false to from = refl

-- what all members pass each of them passes
pub passes_all : {A : Type 0} (test : A → Bool) (xs : List A) (x : A) → list_all test xs ≡ true → Member xs x → test x ≡ true
passes_all test [] x e m = absurd m
passes_all test (y ∷ xs) x e (inl h) = subst (λ z. test z ≡ true) h (and_parts (test y) (list_all test xs) e).0
passes_all test (y ∷ xs) x e (inr m) = passes_all test xs x (and_parts (test y) (list_all test xs) e).1 m

-- and what each of them passes all pass
pub all_passing : {A : Type 0} (test : A → Bool) (xs : List A) → ((x : A) → Member xs x → test x ≡ true) → list_all test xs ≡ true
all_passing test [] each = refl
all_passing test (x ∷ xs) each = and_from _ _ (each x (inl refl)) (all_passing test xs (λ y m. each y (inr m)))
