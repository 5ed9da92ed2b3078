-- Lists whose members are changed one by one.
use Rattle.std.proofs.Common.{◌≡◌, ℕ, zero, suc, ◌+◌, ◌<◌, List, [], ◌∷◌, length, map, get_or, set, add-one, refl, sym, ap, subst, ◌∙◌, arith}
use Rattle.lemmas.specs.Lists.{Each}
use Rattle.lemmas.proofs.ListPlaces.{member-at}
use Rattle.lemmas.proofs.Lists.{each-at}

-- the first so many members are changed
abbrev pub mapped : {A : Type 0} → (A → A) → ℕ → List A → List A
mapped f zero xs = xs
mapped f (suc i) [] = []
mapped f (suc i) (x ∷ xs) = f x ∷ mapped f i xs

length-mapped : {A : Type 0} (f : A → A) (i : ℕ) (xs : List A) → length (mapped f i xs) ≡ length xs
length-mapped f zero xs = refl
length-mapped f (suc i) [] = refl
length-mapped f (suc i) (x ∷ xs) = ap suc (length-mapped f i xs)

-- the next one is as it was
mapped-at : {A : Type 0} (f : A → A) (i : ℕ) (xs : List A) (d : A) → get_or (mapped f i xs) i d ≡ get_or xs i d
mapped-at f zero xs d = refl
mapped-at f (suc i) [] d = refl
mapped-at f (suc i) (x ∷ xs) d = mapped-at f i xs d

-- one more
mapped-suc : {A : Type 0} (f : A → A) (i : ℕ) (xs : List A) (d : A) → i < length xs → set (mapped f i xs) i (f (get_or xs i d)) ≡ mapped f (suc i) xs
mapped-suc f i [] d l = absurd (omega arith)
mapped-suc f zero (x ∷ xs) d l = refl
mapped-suc f (suc i) (x ∷ xs) d l = ap (λ ys. f x ∷ ys) (mapped-suc f i xs d (omega arith))

mapped-all : {A : Type 0} (f : A → A) (xs : List A) → mapped f (length xs) xs ≡ map f xs
mapped-all f [] = refl
mapped-all f (x ∷ xs) = ap (λ ys. f x ∷ ys) (mapped-all f xs)

module _ {A : Type 0} (f : A → A) (xs ys : List A) (i : ℕ) (so_far : ys ≡ mapped f i xs) where
  -- what holds of each holds of the next one
  pub mapped-next_holds : (P : A → Type 0) (d : A) → i < length ys → Each P xs → P (get_or ys i d)
  mapped-next_holds P d l h =
      let less : i < length xs = subst (λ n. i < n) (ap length so_far ∙ length-mapped f i xs) l in
      subst P (sym (ap (λ zs. get_or zs i d) so_far ∙ mapped-at f i xs d)) (each-at P xs (get_or xs i d) h (member-at xs i d less))

  -- it is changed
  pub mapped-next : (d y : A) → i < length ys → y ≡ f (get_or ys i d) → set ys i y ≡ mapped f (i + 1) xs
  mapped-next d y l e =
      let less : i < length xs = subst (λ n. i < n) (ap length so_far ∙ length-mapped f i xs) l in
      (λ t. set (so_far t) i ((e ∙ ap f (ap (λ zs. get_or zs i d) so_far ∙ mapped-at f i xs d)) t))
      ∙ mapped-suc f i xs d less ∙ ap (λ n. mapped f n xs) (sym (add-one i))

  -- and at the end all are
  pub mapped-end : i ≡ length xs → ys ≡ map f xs
  mapped-end e = so_far ∙ ap (λ n. mapped f n xs) e ∙ mapped-all f xs
