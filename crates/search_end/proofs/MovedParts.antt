-- Lists that stand one behind another, in another order.
use Rattle.std.proofs.Common.{ℕ, zero, suc, ◌<◌, List, [], ◌∷◌, ◌++◌, length, get_or, set, IsPermutation, sym, subst, append_assoc, arith}
use Rattle.std.specs.List.{flat_map, swap}
use Rattle.std.proofs.lemmas.List.Edits.{swap_is}
use Rattle.std.proofs.lemmas.List.Sorted.{IsPermutation-refl, IsPermutation-trans, IsPermutation-sym, IsPermutation-keeps, IsPermutation-append_left, IsPermutation-append_right, IsPermutation-append_comm}

-- the first two parts change places
past : {B : Type 0} (a b rest : List B) → IsPermutation (a ++ (b ++ rest)) (b ++ (a ++ rest))
past a b rest =
    subst (λ l. IsPermutation l (b ++ (a ++ rest))) (append_assoc a b rest)
    (subst (IsPermutation ((a ++ b) ++ rest)) (append_assoc b a rest)
    (IsPermutation-append_left rest (a ++ b) (b ++ a) (IsPermutation-append_comm a b)))

module _ {A B : Type 0} (f : A → List B) where
  -- a part gives way to another one
  part_for : (xs : List A) (k : ℕ) (y d : A) → k < length xs → IsPermutation (f (get_or xs k d) ++ flat_map f (set xs k y)) (f y ++ flat_map f xs)
  part_for [] k y d l = absurd (omega (arith, l))
  part_for (x ∷ xs) zero y d l = past (f x) (f y) (flat_map f xs)
  part_for (x ∷ xs) (suc k) y d l =
      IsPermutation-trans _ _ _ (past (f (get_or xs k d)) (f x) (flat_map f (set xs k y)))
      (IsPermutation-trans _ _ _ (IsPermutation-append_right (f x) _ _ (part_for xs k y d (omega (arith, l)))) (past (f x) (f y) (flat_map f xs)))

  -- two parts change places
  parts_swapped : (xs : List A) (i j : ℕ) (d : A) → i < length xs → j < length xs
      → IsPermutation (flat_map f xs) (flat_map f (set (set xs i (get_or xs j d)) j (get_or xs i d)))
  parts_swapped [] i j d l m = absurd (omega (arith, l))
  parts_swapped (x ∷ xs) zero zero d l m = IsPermutation-refl (f x ++ flat_map f xs)
  parts_swapped (x ∷ xs) zero (suc k) d l m = IsPermutation-sym _ _ (part_for xs k x d (omega (arith, m)))
  parts_swapped (x ∷ xs) (suc k) zero d l m = IsPermutation-sym _ _ (part_for xs k x d (omega (arith, l)))
  parts_swapped (x ∷ xs) (suc i) (suc j) d l m =
      IsPermutation-append_right (f x) _ _ (parts_swapped xs i j d (omega (arith, l)) (omega (arith, m)))

  -- parts in any order have the same members
  pub parts_moved : (xs ys : List A) → IsPermutation xs ys → IsPermutation (flat_map f xs) (flat_map f ys)
  parts_moved xs ys = IsPermutation-keeps xs (λ l. IsPermutation (flat_map f xs) (flat_map f l)) (IsPermutation-refl (flat_map f xs)) step ys
    where
      step : (l : List A) (i j : ℕ) → i < length l → j < length l → IsPermutation (flat_map f xs) (flat_map f l) → IsPermutation (flat_map f xs) (flat_map f (swap l i j))
      step [] i j p q h = absurd (omega (arith, p))
      step (d ∷ l) i j p q h =
          IsPermutation-trans _ _ _ h
          (subst (λ m. IsPermutation (flat_map f (d ∷ l)) (flat_map f m)) (swap_is (d ∷ l) i j d p q) (parts_swapped (d ∷ l) i j d p q))
