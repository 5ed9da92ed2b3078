-- Lists without repeats, in which each member differs from those that follow it.
use Rattle.std.proofs.Common.{◌≡◌, ◌≢◌, inl, inr, ℕ, ◌+◌, ◌≤◌, List, [], ◌∷◌, length, refl, ap, sym, ◌∙◌, arith}
use Rattle.std.specs.List.{sum_by}
use Rattle.std.proofs.lemmas.List.Sums.{sum_by-cons}
use Rattle.lemmas.specs.Lists.{Member, Ascends}
use Rattle.lemmas.proofs.Lists.{IsWithin, each-at, each-weaker}

-- what ascends by a relation ascends by a weaker one too
pub ascends-weaker : {A : Type 0} (R S : A → A → Type 0) (xs : List A) → ((x y : A) → R x y → S x y) → Ascends R xs → Ascends S xs
ascends-weaker R S [] weaken h = tt
ascends-weaker R S (x ∷ xs) weaken h = (each-weaker (R x) (S x) xs (weaken x) h.0, ascends-weaker R S xs weaken h.1)

-- what is left of a list without a member has all others, and the rest of the sum
record HasOthers {A : Type 0} (f : A → ℕ) (ys : List A) (x : A) : Type 0 where
  rest : List A
  one_less : sum_by f ys ≡ f x + sum_by f rest
  others : (y : A) → x ≢ y → Member ys y → Member rest y

without_one : {A : Type 0} (f : A → ℕ) (ys : List A) (x : A) → Member ys x → HasOthers f ys x
without_one f [] x k = absurd k
without_one f (z ∷ ys) x (inl e) = record {
  rest = ys;
  one_less = sum_by-cons f z ys ∙ ap (λ v. f v + sum_by f ys) e;
  others = λ y differ k. elim k as (λ _. Member ys y) [ inl g ↦ absurd (differ (sym e ∙ g)) | inr l ↦ l ];
}
without_one f (z ∷ ys) x (inr k) =
    let less = without_one f ys x k in
    let all = sum_by-cons f z ys in
    let left = sum_by-cons f z less.rest in
    record {
      rest = z ∷ less.rest;
      one_less = omega (arith, all, left, less.one_less);
      others = λ y differ l. elim l as (λ _. Member (z ∷ less.rest) y) [ inl g ↦ inl g | inr m ↦ inr (less.others y differ m) ];
    }

-- a list without repeats sums up to no more than one that has all its members
pub no_more : {A : Type 0} (f : A → ℕ) (xs ys : List A) → Ascends ◌≢◌ xs → IsWithin xs ys → sum_by f xs ≤ sum_by f ys
no_more f [] ys once within = omega arith
no_more f (x ∷ xs) ys once within =
    let less = without_one f ys x (within x (inl refl)) in
    let rest = no_more f xs less.rest once.1 (λ y k. less.others y (each-at (λ z. x ≢ z) xs y once.0 k) (within y (inr k))) in
    let head = sum_by-cons f x xs in
    omega (arith, less.one_less, rest, head)

-- so two lists without repeats that have the same members sum up to the same
pub same_sum : {A : Type 0} (f : A → ℕ) (xs ys : List A) → Ascends ◌≢◌ xs → Ascends ◌≢◌ ys → IsWithin xs ys → IsWithin ys xs
    → sum_by f xs ≡ sum_by f ys
same_sum f xs ys once once_too there back =
    let p = no_more f xs ys once there in
    let q = no_more f ys xs once_too back in
    omega (arith, p, q)

-- where each member counts as 1, the sum is the length
counted : {A : Type 0} (xs : List A) → sum_by (λ (_ : A). 1) xs ≡ length xs
counted [] = refl
counted (x ∷ xs) = let head = sum_by-cons (λ _. 1) x xs in let rest = counted xs in omega (arith, head, rest)

-- a list without repeats is no longer than one that has all its members
pub no_longer : {A : Type 0} (xs ys : List A) → Ascends ◌≢◌ xs → IsWithin xs ys → length xs ≤ length ys
no_longer xs ys once within =
    let fewer = no_more (λ _. 1) xs ys once within in
    let p = counted xs in
    let q = counted ys in
    omega (arith, fewer, p, q)

-- two lists without repeats that have the same members are equally long
pub equally_long : {A : Type 0} (xs ys : List A) → Ascends ◌≢◌ xs → Ascends ◌≢◌ ys → IsWithin xs ys → IsWithin ys xs → length xs ≡ length ys
equally_long xs ys once once_too there back =
    let p = no_longer xs ys once there in
    let q = no_longer ys xs once_too back in
    omega (arith, p, q)
