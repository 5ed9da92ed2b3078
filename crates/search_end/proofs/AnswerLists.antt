-- What was handed out, with what was found besides, is listed as an answer.
use Rattle.std.proofs.Common.{◌≡◌, ◌≢◌, ◌⊎◌, inl, inr, Bool, true, false, ℕ, ◌+◌, ◌-◌, ◌≤◌, ◌<◌, ◌||◌, List, [], ◌∷◌, ◌++◌, length, take, drop, filter, not, Some, IsPermutation, refl, sym, ◌∙◌, ap, subst, length-take, length-drop, arith}
use Rattle.std.specs.List.{list_any}
use Rattle.std.proofs.lemmas.Bool.{both_ways, cases_lt}
use Rattle.std.proofs.lemmas.List.{take_all}
use Rattle.std.proofs.lemmas.List.Elements.{filter-append}
use Rattle.std.proofs.Math.Seq.{take-append-add, drop-append_seam}
use Rattle.std.proofs.lemmas.List.Sorted.{length_permutation, IsPermutation-sym}
use Rattle.solid_model.specs.declared.ended.EndKind.{EndKind}
use Rattle.solid_model.specs.declared.ended.EndKind.TheVariants.{Whole, CutNodes, CutSolids}
use Rattle.solid_model.specs.Choices.{ChoicePrecedes}
use Rattle.lemmas.specs.Lists.{Member, Each, Ascends}
use Rattle.solid_model.specs.Search.{SearchLimits}
use Rattle.solid_model.specs.SearchEnds.{AreSomeOf, EndsAs}
use Rattle.solid_model.specs.Tree.{PrefixTest, live_from, is_whole, live_below}
use Rattle.lemmas.proofs.Lists.{each-at, each-from, each-append, each-filter, ascends-append, ascends-append_across, ascends-filter, member-filter, member-from_filter, member-append_left, member-append_right, same_ascending}
use Rattle.solid_model.proofs.Styles.{any_from_member}
use Rattle.solid_model.proofs.AllowedReports.{filter_none}
use Rattle.solid_model.proofs.ComparedChoices.{precedes_one_way}
use Rattle.lemmas.proofs.WithoutRepeats.{no_longer}
use Rattle.search_core.specs.Conserves.{EndsRightly, IsConserved}
use Rattle.search_core.specs.Core.{Core}
use Rattle.lemmas.specs.Truth.{same_values}
use Rattle.lemmas.proofs.Permutations.{each-take, ascends-take, member-permutation}
use Rattle.lemmas.proofs.Truth.{Decides-same_values}
use Rattle.search_tree.proofs.SearchEnds.{some_found}
use Rattle.search_end.specs.Answers.{is_new, new_ones}

-- one that isn't new is
pub not_new : (handed : List (List Bool)) (x : List Bool) → list_any (same_values x) handed ≡ true → Member handed x
not_new [] x e = absurd (both_ways false refl e)
not_new (y ∷ handed) x e = at (same_values x y) refl (not_new handed x)
  where
    at : (t : Bool) → same_values x y ≡ t → (list_any (same_values x) handed ≡ true → Member handed x) → Member (y ∷ handed) x
    at true s later = inl (sym ((Decides-same_values x y).0 s))
    at false s later = inr (later (subst (λ (b : Bool). (b || list_any (same_values x) handed) ≡ true) s e))

-- one that is among those isn't new, and one that isn't is
pub old_one : (handed : List (List Bool)) (x : List Bool) → Member handed x → is_new handed x ≡ false
old_one handed x k = ap not (any_from_member (same_values x) handed x k ((Decides-same_values x x).1 refl))

new_one : (handed : List (List Bool)) (x : List Bool) → (Member handed x → ⊥) → is_new handed x ≡ true
new_one handed x none = at (list_any (same_values x) handed) refl
  where
    at : (t : Bool) → list_any (same_values x) handed ≡ t → is_new handed x ≡ true
    at true e = absurd (none (not_new handed x e))
    at false e = ap not e

-- where all pass the test, all are kept
pub filter_all : {A : Type 0} (p : A → Bool) (xs : List A) → Each (λ x. p x ≡ true) xs → filter p xs ≡ xs
filter_all p [] h = refl
filter_all p (x ∷ xs) h = rw (h.0, filter_all p xs h.1) refl

-- of a list without repeats what follows its beginning is new to that
pub new_behind : (handed found : List (List Bool)) (rest : List (List Bool)) → found ≡ handed ++ rest → Ascends ◌≢◌ found → new_ones handed found ≡ drop (length handed) found
new_behind handed found rest e once =
    let across : Each (λ x. Each (λ y. x ≢ y) rest) handed = ascends-append_across ◌≢◌ handed rest (subst (Ascends ◌≢◌) e once) in
    let old : filter (is_new handed) handed ≡ [] = filter_none (is_new handed) handed (each-from (λ x. is_new handed x ≡ false) handed (old_one handed)) in
    let new : filter (is_new handed) rest ≡ rest = filter_all (is_new handed) rest (each-from (λ x. is_new handed x ≡ true) rest (λ x k.
    new_one handed x (λ m. each-at (λ y. x ≢ y) rest x (each-at (λ y. Each (λ z. y ≢ z) rest) handed x across m) k refl))) in
    ap (new_ones handed) e ∙ filter-append (is_new handed) handed rest ∙ ap (λ l. l ++ filter (is_new handed) rest) old ∙ new
    ∙ sym (ap (drop (length handed)) e ∙ drop-append_seam handed rest)

-- a part that goes on to the end is all that follows
pub part_whole : (n : ℕ) (xs : List (List Bool)) → take (length xs - n) (drop n xs) ≡ drop n xs
part_whole n xs = take_all _ (drop n xs) (omega (arith, length-drop n xs))

-- the first of two lists, as many as there is room for
pub take_behind : {A : Type 0} (n : ℕ) (xs ys : List A) → length xs ≤ n → xs ++ take (n - length xs) ys ≡ take n (xs ++ ys)
take_behind n xs ys h = let room : length xs + (n - length xs) ≡ n = omega arith in
    sym (take-append-add xs ys (n - length xs)) ∙ ap (λ (k : ℕ). take k (xs ++ ys)) room

-- all choices of n blocks are in the stated order
all_ascend : (live : PrefixTest) (n : ℕ) → Ascends ChoicePrecedes (live_below live n [])
all_ascend live n = subst (λ xs. Ascends ChoicePrecedes (filter (is_whole n) xs)) (take_all (length (live_from live n [])) (live_from live n []) (omega arith))
    (some_found live n (length (live_from live n []))).ordered

module _ (live : PrefixTest) (n : ℕ) (limits : SearchLimits) (c : Core) (kept : IsConserved live n limits c)
    (handed : List (List Bool)) (each : Each (Member (live_below live n [])) handed) (once : Ascends ◌≢◌ handed) where
  abbrev all : List (List Bool)
  all = live_below live n []

  abbrev whole : List (List Bool)
  whole = handed ++ new_ones handed c.found

  whole_each : Each (Member all) whole
  whole_each = each-append (Member all) handed (new_ones handed c.found) each (each-filter (is_new handed) (Member all) c.found kept.listed)

  whole_once : Ascends ◌≢◌ whole
  whole_once = ascends-append ◌≢◌ handed (new_ones handed c.found) once (ascends-filter (is_new handed) ◌≢◌ c.found kept.once)
      (each-from (λ x. Each (λ y. x ≢ y) (new_ones handed c.found)) handed (λ x k. each-from (λ y. x ≢ y) (new_ones handed c.found) (λ y m e.
      both_ways (is_new handed y) (old_one handed y (subst (Member handed) e k)) (member-from_filter (is_new handed) c.found y m).1)))

  found_in : (x : List Bool) → Member c.found x → Member whole x
  found_in x k = at (list_any (same_values x) handed) refl
    where
      at : (t : Bool) → list_any (same_values x) handed ≡ t → Member whole x
      at true e = member-append_left handed (new_ones handed c.found) x (not_new handed x e)
      at false e = member-append_right handed (new_ones handed c.found) x (member-filter (is_new handed) c.found x k (ap not e))

  few_whole : length whole ≤ length all
  few_whole = no_longer whole all whole_once (λ x k. each-at (Member all) whole x whole_each k)

  many_whole : length c.found ≤ length whole
  many_whole = no_longer c.found whole kept.once found_in

  module _ (list : List (List Bool)) (is : list ≡ take limits.solids whole) where
    pub list_each : Each (Member all) list
    list_each = subst (Each (Member all)) (sym is) (each-take (Member all) limits.solids whole whole_each)

    pub list_once : Ascends ◌≢◌ list
    list_once = subst (Ascends ◌≢◌) (sym is) (ascends-take ◌≢◌ limits.solids whole whole_once)

    pub list_few : length list ≤ limits.solids
    list_few = omega (arith, ap length is, length-take limits.solids whole)

    list_full : limits.solids ≤ length whole → length list ≡ limits.solids
    list_full h = omega (arith, ap length is, length-take limits.solids whole, h)

    list_whole : length whole ≤ limits.solids → list ≡ whole
    list_whole h = is ∙ take_all limits.solids whole h

    pub covers : Each (Member list) c.found ⊎ (length list ≡ limits.solids)
    covers = at (cases_lt limits.solids (length whole))
      where
        at : (limits.solids < length whole) ⊎ (length whole ≤ limits.solids) → Each (Member list) c.found ⊎ (length list ≡ limits.solids)
        at (inl more) = inr (list_full (omega (arith, more)))
        at (inr few) = inl (each-from (Member list) c.found (λ x k. subst (λ l. Member l x) (sym (list_whole few)) (found_in x k)))

    module _ (sorted : List (List Bool)) (moved : IsPermutation list sorted) (ordered : Ascends ChoicePrecedes sorted) where
      some : AreSomeOf live n sorted
      some = record {
        listed = each-from (Member all) sorted (λ x k. each-at (Member all) list x list_each (member-permutation sorted list x (IsPermutation-sym list sorted moved) k));
        ordered = ordered;
      }

      pub ends : (kind : EndKind) → EndsRightly live n limits c (Some kind) → EndsAs live n limits kind c.opened sorted
      ends Whole (tree, opened, shared, few) =
          let fits : length all ≤ limits.solids = omega (arith, length_permutation all c.found shared, kept.few) in
          let same = list_whole (omega (arith, few_whole, fits)) in (
            omega (arith, opened, few),
            fits,
            opened,
            same_ascending ChoicePrecedes precedes_one_way sorted all ordered (all_ascend live n)
                (λ x k. each-at (Member all) sorted x some.listed k)
                (λ x k. member-permutation list sorted x moved (subst (λ l. Member l x) (sym same) (found_in x (member-permutation all c.found x shared k)))),
          )
      ends CutNodes (tree, past) = (past, kept.opened, some, omega (arith, length_permutation list sorted moved, list_few))
      ends CutSolids (many, past) = (past, kept.opened, some, length_permutation list sorted moved ∙ list_full (omega (arith, many, many_whole)))
