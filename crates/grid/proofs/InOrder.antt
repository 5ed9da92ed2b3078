-- Integers that are sorted, and kept where they differ from the last one kept, ascend.
use Rattle.std.proofs.Common.{◌≡◌, ◌↔◌, Less, List, [], ◌∷◌, ℤ, ◌<ℤ◌, IsPermutation, refl, sym, subst}
use Rattle.std.specs.Ordering.{int_eq, int_cmp, eq_by_cmp, MatchOrdering}
use Rattle.std.specs.List.{dedup, Contains}
use Rattle.std.specs.List.Retain.{IsFiltered, DiffersFromLast}
use Rattle.std.specs.List.Sorted.{IsSorted, IsStrictlySortedBy}
use Rattle.std.proofs.lemmas.Cmp.{int_eq_equiv, int_cmp_total, int_ranked}
use Rattle.std.proofs.lemmas.Bool.Decides.{Decides-int_eq}
use Rattle.std.proofs.lemmas.List.Filters.{dedup_is}
use Rattle.std.proofs.lemmas.List.Kept.{IsStrictlySortedBy-dedup, Contains-dedup, Contains-from_dedup}
use Rattle.std.proofs.lemmas.List.Sorted.{Contains-permutation, IsPermutation-sym}
use Rattle.lemmas.specs.Lists.{Member, Ascends}
use Rattle.lemmas.proofs.Lists.{each-weaker}
use Rattle.lemmas.proofs.ListPlaces.{contains-member, member-contains}

-- one integer is less than another where their comparison says so
less : (x y : ℤ) → int_cmp x y ≡ Less → x <ℤ y
less x y e = subst (λ o. MatchOrdering o (x <ℤ y) (x ≡ y) (y <ℤ x)) e (int_ranked x y _ refl)

-- what is strictly sorted ascends
ascends-strictly : (zs : List ℤ) → IsStrictlySortedBy int_cmp zs → Ascends ◌<ℤ◌ zs
unfolding IsStrictlySortedBy
ascends-strictly [] h = tt
ascends-strictly (z ∷ zs) h = (each-weaker (λ y. int_cmp z y ≡ Less) (λ y. z <ℤ y) zs (less z) h.0, ascends-strictly zs h.1)

-- two integers tie just where they are one
ties : (x y : ℤ) → int_eq x y ≡ eq_by_cmp int_cmp x y
ties x y = refl

-- so what is kept of a sorted list ascends
pub ascends-kept : (zs kept : List ℤ) → IsSorted int_cmp zs → IsFiltered (DiffersFromLast int_eq) [] zs kept → Ascends ◌<ℤ◌ kept
ascends-kept zs kept sorted filtered =
    subst (Ascends ◌<ℤ◌) (sym (dedup_is int_eq zs kept filtered)) (ascends-strictly (dedup int_eq zs) (IsStrictlySortedBy-dedup int_cmp_total ties zs sorted))

-- and has the members of any list of which this is a rearrangement
pub same_members : (positions zs kept : List ℤ) → IsPermutation positions zs → IsFiltered (DiffersFromLast int_eq) [] zs kept
    → (z : ℤ) → Member kept z ↔ Member positions z
same_members positions zs kept moved filtered z = (
  λ k. contains-member positions z (Contains-permutation zs positions z (IsPermutation-sym positions zs moved)
      (Contains-from_dedup int_eq zs z (subst (λ ys. Contains ys z) (dedup_is int_eq zs kept filtered) (member-contains kept z k)))),
  λ k. contains-member kept z (subst (λ ys. Contains ys z) (sym (dedup_is int_eq zs kept filtered))
      (Contains-dedup int_eq_equiv (λ x y e. (Decides-int_eq x y).0 e) zs z (Contains-permutation positions zs z moved (member-contains positions z k)))),
)
