-- Lists of different choices that are put together.
use Rattle.std.proofs.Common.{◌≡◌, ◌≢◌, ◌⊎◌, inl, inr, Bool, true, false, ℕ, ◌-◌, ◌≤◌, ◌<◌, List, ◌++◌, length, take, not, refl, sym, ◌∙◌, ap, subst, length-take, arith}
use Rattle.std.specs.List.{list_any}
use Rattle.std.proofs.lemmas.Bool.{both_ways, cases_lt}
use Rattle.std.proofs.lemmas.List.{take_all}
use Rattle.lemmas.specs.Lists.{Member, Each, Ascends}
use Rattle.lemmas.specs.Truth.{same_values}
use Rattle.lemmas.proofs.Lists.{each-from, each-append, each-filter, ascends-append, ascends-filter, member-filter, member-from_filter, member-append_left, member-append_right}
use Rattle.lemmas.proofs.Permutations.{each-take, ascends-take}
use Rattle.search_end.specs.Answers.{is_new, new_ones}
use Rattle.search_end.proofs.AnswerLists.{not_new, old_one, take_behind}

module _ (first list : List (List Bool)) where
  abbrev both : List (List Bool)
  both = first ++ new_ones first list

  -- all of the second stand there
  both_have : (x : List Bool) → Member list x → Member both x
  both_have x k = at (list_any (same_values x) first) refl
    where
      at : (t : Bool) → list_any (same_values x) first ≡ t → Member both x
      at true e = member-append_left first (new_ones first list) x (not_new first x e)
      at false e = member-append_right first (new_ones first list) x (member-filter (is_new first) list x k (ap not e))

  -- none twice
  both_once : Ascends ◌≢◌ first → Ascends ◌≢◌ list → Ascends ◌≢◌ both
  both_once once others = ascends-append ◌≢◌ first (new_ones first list) once (ascends-filter (is_new first) ◌≢◌ list others)
      (each-from (λ x. Each (λ y. x ≢ y) (new_ones first list)) first (λ x k. each-from (λ y. x ≢ y) (new_ones first list) (λ y m e.
      both_ways (is_new first y) (old_one first y (subst (Member first) e k)) (member-from_filter (is_new first) list y m).1)))

  module _ (most : ℕ) (few : length first ≤ most) (all : List (List Bool)) (is : all ≡ first ++ take (most - length first) (new_ones first list)) where
    part : all ≡ take most both
    part = is ∙ take_behind most first (new_ones first list) few

    pub joined_few : length all ≤ most
    joined_few = omega (arith, ap length part, length-take most both)

    pub joined_once : Ascends ◌≢◌ first → Ascends ◌≢◌ list → Ascends ◌≢◌ all
    joined_once once others = subst (Ascends ◌≢◌) (sym part) (ascends-take ◌≢◌ most both (both_once once others))

    pub joined_each : (P : List Bool → Type 0) → Each P first → Each P list → Each P all
    joined_each P each others = subst (Each P) (sym part) (each-take P most both (each-append P first (new_ones first list) each (each-filter (is_new first) P list others)))

    -- each of the second stands there, or there are as many as there may be
    pub joined_covers : Each (Member all) list ⊎ (length all ≡ most)
    joined_covers = at (cases_lt most (length both))
      where
        at : (most < length both) ⊎ (length both ≤ most) → Each (Member all) list ⊎ (length all ≡ most)
        at (inl more) = inr (omega (arith, ap length part, length-take most both, more))
        at (inr fits) = inl (each-from (Member all) list (λ x k. subst (λ l. Member l x) (sym (part ∙ take_all most both fits)) (both_have x k)))
