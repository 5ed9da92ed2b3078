-- Lists: permutations, repeats and sums.
use Rattle.std.proofs.Common.{◌≡◌, ◌≢◌, Bool, false, ℕ, ◌+◌, List, [], ◌∷◌, ◌++◌, take, drop, sum, IsPermutation, sym, subst, append_assoc, take-append-drop}
use Rattle.std.specs.Bool.{Decides}
use Rattle.std.specs.List.{IsDistinct}
use Rattle.std.proofs.lemmas.Bool.{false_from_ne_true}
use Rattle.std.proofs.lemmas.Bool.Decides.{same_from_decides, not_from_Decides, Decides-like}
use Rattle.std.proofs.lemmas.List.Sorted.{IsPermutation-trans, IsPermutation-append, IsPermutation-append_left, IsPermutation-append_right, IsPermutation-append_comm, Contains-permutation}
use Rattle.std.proofs.lemmas.List.Sums.{sum_by-append}
use Rattle.std.proofs.lemmas.Map.Keys.{IsDistinct-head, IsDistinct-tail, IsDistinct-cons, IsDistinct-IsPermutation}
use Rattle.lemmas.specs.Lists.{Member, Each, Ascends}
use Rattle.lemmas.proofs.ListPlaces.{contains-member, member-contains}
use Rattle.lemmas.proofs.Lists.{each-append_left, each-weaker, ascends-append_left}

-- the sum of two lists
pub sum-append : (xs ys : List ℕ) → sum (xs ++ ys) ≡ sum xs + sum ys
sum-append xs ys = sum_by-append (λ x. x) xs ys

module _ {A : Type 0} where
  -- what holds of each member holds of each of the first
  pub each-take : (P : A → Type 0) (n : ℕ) (xs : List A) → Each P xs → Each P (take n xs)
  each-take P n xs h = each-append_left P (take n xs) (drop n xs) (subst (Each P) (sym (take-append-drop n xs)) h)

  -- the first of an ascending list ascend
  pub ascends-take : (R : A → A → Type 0) (n : ℕ) (xs : List A) → Ascends R xs → Ascends R (take n xs)
  ascends-take R n xs h = ascends-append_left R (take n xs) (drop n xs) (subst (Ascends R) (sym (take-append-drop n xs)) h)

  -- a member is one in any order
  pub member-permutation : (xs ys : List A) (x : A) → IsPermutation xs ys → Member xs x → Member ys x
  member-permutation xs ys x h k = contains-member ys x (Contains-permutation xs ys x h (member-contains xs x k))

  -- what stands between two parts gives way to what it is made of: the new members go behind the old ones, what is left to the end
  pub put_apart : (old new front back left one : List A) → IsPermutation one (new ++ left)
      → IsPermutation (old ++ (front ++ (one ++ back))) ((old ++ new) ++ ((front ++ back) ++ left))
  put_apart old new front back left one h =
      let opened = IsPermutation-append_right front (one ++ back) ((new ++ left) ++ back) (IsPermutation-append_left back one (new ++ left) h) in
      let turned = IsPermutation-append (front ++ new) (new ++ front) (left ++ back) (back ++ left) (IsPermutation-append_comm front new) (IsPermutation-append_comm left back) in
      let before : front ++ ((new ++ left) ++ back) ≡ (front ++ new) ++ (left ++ back) = simp append_assoc in
      let after : (old ++ new) ++ ((front ++ back) ++ left) ≡ old ++ ((new ++ front) ++ (back ++ left)) = simp append_assoc in
      subst (IsPermutation (old ++ (front ++ (one ++ back)))) (sym after)
      (IsPermutation-append_right old (front ++ (one ++ back)) ((new ++ front) ++ (back ++ left))
      (IsPermutation-trans (front ++ (one ++ back)) (front ++ ((new ++ left) ++ back)) ((new ++ front) ++ (back ++ left)) opened
      (subst (λ l. IsPermutation l ((new ++ front) ++ (back ++ left))) (sym before) turned)))

  -- ---- lists without repeats, where a test tells whether two members are the same

  module _ (same : A → A → Bool) (decides : (x y : A) → Decides (same x y) (x ≡ y)) where
    -- such a list is what std calls distinct,
    distinct-from_once : (xs : List A) → Ascends ◌≢◌ xs → IsDistinct same xs
    unfolding IsDistinct
    distinct-from_once [] h = tt
    distinct-from_once (x ∷ xs) h =
        IsDistinct-cons same x xs (each-weaker (λ y. x ≢ y) (λ y. same x y ≡ false) xs (λ y d. false_from_ne_true (same x y) (λ e. d ((decides x y).0 e))) h.0)
        (distinct-from_once xs h.1)

    -- and the other way round,
    once-from_distinct : (xs : List A) → IsDistinct same xs → Ascends ◌≢◌ xs
    once-from_distinct [] h = tt
    once-from_distinct (x ∷ xs) h = (
      each-weaker (λ y. same x y ≡ false) (λ y. x ≢ y) xs (λ y e. not_from_Decides (same x y) (decides x y) e) (IsDistinct-head same x xs h),
      once-from_distinct xs (IsDistinct-tail same x xs h),
    )

    -- so in any order it has no repeat
    pub once-permutation : (xs ys : List A) → IsPermutation xs ys → Ascends ◌≢◌ xs → Ascends ◌≢◌ ys
    once-permutation xs ys h once =
        let flips = λ (x y : A). same_from_decides (same x y) (same y x) (decides x y) (Decides-like (same y x) sym sym (decides y x)) in
        once-from_distinct ys (IsDistinct-IsPermutation same flips xs ys h (distinct-from_once xs once))
