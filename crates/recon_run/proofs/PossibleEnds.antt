-- A search can end so that it lists choices which were told before, as many as the limit of solids at most.
use Rattle.std.proofs.Common.{◌≡◌, ◌≢◌, ◌⊎◌, inl, inr, ⊎_elim, refl, Bool, true, false, not, ℕ, ◌+◌, ◌-◌, ◌<◌, ◌≤◌, List, [], ◌∷◌, ◌++◌, length, take, drop, filter, IsPermutation, sym, ap, subst, ◌∙◌, append_assoc, length-append, take-append-drop, arith}
use Rattle.std.specs.Set.{is_member}
use Rattle.std.proofs.lemmas.Bool.{both_ways, cases_lt}
use Rattle.std.proofs.lemmas.List.{length-take-le, take_all}
use Rattle.std.proofs.lemmas.List.Sorted.{length_permutation, IsPermutation-refl, IsPermutation-sym, IsPermutation-trans, IsPermutation-cons, IsPermutation-middle}
use Rattle.std.proofs.lemmas.Map.Made.{is_member-Decides}
use Rattle.lemmas.specs.Truth.{same_values}
use Rattle.lemmas.proofs.Permutations.{member-permutation, once-permutation}
use Rattle.lemmas.proofs.Truth.{Decides-same_values}
use Rattle.solid_model.specs.declared.ended.EndKind.{EndKind}
use Rattle.solid_model.specs.declared.ended.EndKind.TheVariants.{Whole, CutNodes, CutSolids}
use Rattle.solid_model.specs.Choices.{ChoicePrecedes}
use Rattle.lemmas.specs.Lists.{Member, Each, Ascends}
use Rattle.solid_model.specs.Search.{SearchLimits}
use Rattle.solid_model.specs.SearchEnds.{AreSomeOf, EndsAs}
use Rattle.solid_model.specs.Tree.{PrefixTest, live_count, live_below}
use Rattle.solid_model.proofs.ComparedChoices.{precedes_one_way}
use Rattle.lemmas.proofs.ListPlaces.{contains-member, member-contains}
use Rattle.lemmas.proofs.Lists.{IsWithin, each-at, each-from, ascends-append, ascends-append_left, ascends-filter, member-append, member-append_left, member-append_right, member-filter, member-from_filter, same_ascending}
use Rattle.lemmas.proofs.WithoutRepeats.{ascends-weaker, equally_long}

-- where a member stands: behind a front and before the rest
between : {A : Type 0} (ys : List A) (x : A) → Member ys x → (front : List A) × (rest : List A) × (ys ≡ front ++ x ∷ rest)
between [] x k = absurd k
between (y ∷ ys) x (inl e) = ([], ys, ap (λ z. z ∷ ys) e)
between (y ∷ ys) x (inr k) = let b = between ys x k in (y ∷ b.0, b.1, ap (λ zs. y ∷ zs) b.2)

-- in the stated order none stands twice
pub ordered_once : (xs : List (List Bool)) → Ascends ChoicePrecedes xs → Ascends ◌≢◌ xs
ordered_once xs = ascends-weaker ChoicePrecedes ◌≢◌ xs (λ x y before same. precedes_one_way x y before
    (subst (λ z. ChoicePrecedes z x) same (subst (ChoicePrecedes x) (sym same) before)))

-- of two lists without repeats that have the same members, one is the other in another order
pub rearranged : (xs ys : List (List Bool)) → Ascends ◌≢◌ xs → Ascends ◌≢◌ ys → IsWithin xs ys → IsWithin ys xs → IsPermutation xs ys
rearranged [] [] once once_too there back = IsPermutation-refl []
rearranged [] (y ∷ ys) once once_too there back = absurd (back y (inl refl))
rearranged (x ∷ xs) ys once once_too there back =
    let (front, rest, is) = between ys x (there x (inl refl)) in
    let moved : IsPermutation ys (x ∷ (front ++ rest)) = subst (λ zs. IsPermutation zs (x ∷ (front ++ rest))) (sym is) (IsPermutation-middle front x rest) in
    let apart = once-permutation same_values Decides-same_values ys (x ∷ (front ++ rest)) moved once_too in
    let others : IsWithin xs (front ++ rest) = λ y k. ⊎_elim
    (λ e. absurd (each-at (λ z. x ≢ z) xs y once.0 k e))
    (λ m. m) (member-permutation ys (x ∷ (front ++ rest)) y moved (there y (inr k))) in
    let back_too : IsWithin (front ++ rest) xs = λ y k. ⊎_elim
    (λ e. absurd (each-at (λ z. x ≢ z) (front ++ rest) y apart.0 k e))
    (λ m. m) (back y (member-permutation (x ∷ (front ++ rest)) ys y (IsPermutation-sym ys (x ∷ (front ++ rest)) moved) (inr k))) in
    IsPermutation-trans (x ∷ xs) (x ∷ (front ++ rest)) ys
    (IsPermutation-cons x xs (front ++ rest) (rearranged xs (front ++ rest) once.1 apart.1 others back_too))
    (IsPermutation-sym ys (x ∷ (front ++ rest)) moved)

-- a choice is one of a list
abbrev is_among : List (List Bool) → List Bool → Bool
is_among = is_member same_values

among : (xs : List (List Bool)) (x : List Bool) → Member xs x → is_among xs x ≡ true
among xs x k = (is_member-Decides Decides-same_values xs x).1 (member-contains xs x k)

from_among : (xs : List (List Bool)) (x : List Bool) → is_among xs x ≡ true → Member xs x
from_among xs x e = contains-member xs x ((is_member-Decides Decides-same_values xs x).0 e)

-- an end of a search, which lists these choices and more
pub record CanList (live : PrefixTest) (n : ℕ) (limits : SearchLimits) (told : List (List Bool)) : Type 0 where
  pub kind : EndKind
  pub opened : ℕ
  pub choices : List (List Bool)
  pub ends : EndsAs live n limits kind opened choices
  pub some : AreSomeOf live n choices
  pub more : List (List Bool)
  pub listed : IsPermutation (told ++ more) choices

module _ (live : PrefixTest) (n : ℕ) (limits : SearchLimits) (ordered : Ascends ChoicePrecedes (live_below live n []))
    (told : List (List Bool)) (each : Each (Member (live_below live n [])) told) (once : Ascends ◌≢◌ told) (few : length told ≤ limits.solids) where
  abbrev all : List (List Bool)
  all = live_below live n []

  abbrev is_new : List Bool → Bool
  is_new x = not (is_among told x)

  abbrev others : List (List Bool)
  others = filter is_new all

  abbrev more : List (List Bool)
  more = take (limits.solids - length told) others

  abbrev list : List (List Bool)
  list = told ++ more

  all_once : Ascends ◌≢◌ all
  all_once = ordered_once all ordered

  new_apart : (x : List Bool) → Member others x → Member told x → ⊥
  new_apart x k told_it = both_ways (is_new x) (ap not (among told x told_it)) (member-from_filter is_new all x k).1

  -- what was told and whatever else there is
  whole_once : Ascends ◌≢◌ (told ++ others)
  whole_once = ascends-append ◌≢◌ told others once (ascends-filter is_new ◌≢◌ all all_once)
      (each-from (λ x. Each (λ y. x ≢ y) others) told (λ x k. each-from (λ y. x ≢ y) others (λ y m e. new_apart y m (subst (Member told) e k))))

  whole_in : IsWithin (told ++ others) all
  whole_in x k = elim (member-append told others x k) as (λ _. Member all x) [
    | inl t ↦ each-at (Member all) told x each t
    | inr m ↦ (member-from_filter is_new all x m).0
  ]

  in_whole : IsWithin all (told ++ others)
  in_whole x k = at (is_among told x) refl
    where
      at : (b : Bool) → is_among told x ≡ b → Member (told ++ others) x
      at true e = member-append_left told others x (from_among told x e)
      at false e = member-append_right told others x (member-filter is_new all x k (ap not e))

  counts : length all ≡ length told + length others
  counts = equally_long all (told ++ others) all_once whole_once in_whole whole_in ∙ length-append told others

  -- the first of it, as many as there is room for
  parts : list ++ drop (limits.solids - length told) others ≡ told ++ others
  parts = simp append_assoc (ap (λ xs. told ++ xs) (take-append-drop (limits.solids - length told) others))

  list_once : Ascends ◌≢◌ list
  list_once = ascends-append_left ◌≢◌ list (drop (limits.solids - length told) others) (subst (Ascends ◌≢◌) (sym parts) whole_once)

  list_in : IsWithin list all
  list_in x k = whole_in x (subst (λ xs. Member xs x) parts (member-append_left list (drop (limits.solids - length told) others) x k))

  -- in the stated order
  abbrev sorted : List (List Bool)
  sorted = filter (is_among list) all

  to_sorted : IsWithin list sorted
  to_sorted x k = member-filter (is_among list) all x (list_in x k) (among list x k)

  from_sorted : IsWithin sorted list
  from_sorted x k = from_among list x (member-from_filter (is_among list) all x k).1

  moved : IsPermutation list sorted
  moved = rearranged list sorted list_once (ascends-filter (is_among list) ◌≢◌ all all_once) to_sorted from_sorted

  some : AreSomeOf live n sorted
  some = record {
    listed = each-from (Member all) sorted (λ x k. (member-from_filter (is_among list) all x k).0);
    ordered = ascends-filter (is_among list) ChoicePrecedes all ordered;
  }

  long : length sorted ≡ length told + length more
  long = length_permutation list sorted moved ∙ length-append told more

  -- all of it, where there is room
  room : length all ≤ limits.solids → more ≡ others
  room fits = take_all (limits.solids - length told) others (omega (arith, counts, fits))

  full : limits.solids ≤ length all → length sorted ≡ limits.solids
  full many = long ∙ (let l = length-take-le (limits.solids - length told) others (omega (arith, counts, many)) in omega (arith, l, few))

  within : length sorted ≤ limits.solids
  within = at (cases_lt limits.solids (length all))
    where
      at : (limits.solids < length all) ⊎ (length all ≤ limits.solids) → length sorted ≤ limits.solids
      at (inl many) = omega (arith, full (omega (arith, many)))
      at (inr fits) = omega (arith, long, ap length (room fits), counts, fits)

  all_sorted : length all ≤ limits.solids → sorted ≡ all
  all_sorted fits = same_ascending ChoicePrecedes precedes_one_way sorted all (ascends-filter (is_among list) ChoicePrecedes all ordered) ordered
      (λ x k. (member-from_filter (is_among list) all x k).0)
      (λ x k. to_sorted x (subst (λ xs. Member (told ++ xs) x) (sym (room fits)) (in_whole x k)))

  -- so it lists what was told, and more
  pub can_list : CanList live n limits told
  can_list = at (cases_lt limits.nodes (live_count live n [])) (cases_lt limits.solids (length all))
    where
      lists : (kind : EndKind) → EndsAs live n limits kind (live_count live n []) sorted → CanList live n limits told
      lists kind ends = record { kind = kind; opened = live_count live n []; choices = sorted; ends = ends; some = some; more = more; listed = moved }

      at : (limits.nodes < live_count live n []) ⊎ (live_count live n [] ≤ limits.nodes) → (limits.solids < length all) ⊎ (length all ≤ limits.solids) → CanList live n limits told
      at (inl many) solids = lists CutNodes (many, omega arith, some, within)
      at (inr few_nodes) (inl many) = lists CutSolids (many, omega arith, some, full (omega (arith, many)))
      at (inr few_nodes) (inr fits) = lists Whole (few_nodes, fits, refl, all_sorted fits)
