-- Choices that begin with given values: with one more value they are those that have it full, and then those that have it empty.
use Rattle.std.proofs.Common.{◌≡◌, ◌⊎◌, inl, inr, ℕ, zero, suc, ◌+◌, ◌<◌, Bool, true, false, List, [], ◌∷◌, ◌++◌, length, refl, sym, ◌∙◌, ap, subst, append_assoc, arith}
use Rattle.std.proofs.lemmas.List.{append-nil, length-append}
use Rattle.solid_model.specs.Choices.{ChoicePrecedes, AreChoicesThat}
use Rattle.solid_model.proofs.PrefixTree.{BeginsWith, begins_without}
use Rattle.lemmas.specs.Lists.{Member, Each}
use Rattle.lemmas.proofs.Lists.{member-append_left, member-append_right, each-weaker, each-append, ascends-append}

-- a choice that is longer than the values with which it begins has a value more, full or empty
one_value_more : (chosen choice : List Bool) → length chosen < length choice → BeginsWith chosen choice
    → BeginsWith (chosen ++ true ∷ []) choice ⊎ BeginsWith (chosen ++ false ∷ []) choice
one_value_more chosen choice more ([], e) = absurd (let same : length choice ≡ length chosen = ap length (e ∙ append-nil chosen) in omega arith)
one_value_more chosen choice more (true ∷ rest, e) = inl (rest, e ∙ sym (append_assoc chosen (true ∷ []) rest))
one_value_more chosen choice more (false ∷ rest, e) = inr (rest, e ∙ sym (append_assoc chosen (false ∷ []) rest))

-- a choice that is no longer has only these
no_value_more : (chosen choice : List Bool) → length choice ≡ length chosen → BeginsWith chosen choice → chosen ≡ choice
no_value_more chosen choice same ([], e) = sym (e ∙ append-nil chosen)
no_value_more chosen choice same (value ∷ rest, e) =
    absurd (let longer : length choice ≡ length chosen + length (value ∷ rest) = ap length e ∙ length-append chosen (value ∷ rest) in omega arith)

-- full comes before empty
full_first : (chosen full empty : List Bool) → ChoicePrecedes (chosen ++ true ∷ full) (chosen ++ false ∷ empty)
full_first [] full empty = inl (refl, refl)
full_first (value ∷ chosen) full empty = inr (refl, full_first chosen full empty)

full_precedes : (chosen full empty : List Bool) → BeginsWith (chosen ++ true ∷ []) full → BeginsWith (chosen ++ false ∷ []) empty → ChoicePrecedes full empty
full_precedes chosen full empty (rest, e) (others, f) =
    subst (λ x. ChoicePrecedes x empty) (sym (e ∙ append_assoc chosen (true ∷ []) rest))
    (subst (ChoicePrecedes (chosen ++ true ∷ rest)) (sym (f ∙ append_assoc chosen (false ∷ []) others)) (full_first chosen rest others))

module _ (P : List Bool → Type 0) where
  -- the choices that begin so
  abbrev pub From : List Bool → List Bool → Type 0
  From chosen choice = BeginsWith chosen choice × P choice

  -- those that have the next value full, and then those that have it empty, are all
  pub choices-both : (chosen : List Bool) (n : ℕ) (full empty : List (List Bool)) → length chosen < n
      → AreChoicesThat (From (chosen ++ true ∷ [])) n full → AreChoicesThat (From (chosen ++ false ∷ [])) n empty → AreChoicesThat (From chosen) n (full ++ empty)
  choices-both chosen n full empty more h k = record {
    each = each-append (Found chosen) full empty (each-weaker (Found (chosen ++ true ∷ [])) (Found chosen) full (found true) h.each)
        (each-weaker (Found (chosen ++ false ∷ [])) (Found chosen) empty (found false) k.each);
    ordered = ascends-append ChoicePrecedes full empty h.ordered k.ordered
        (each-weaker (Found (chosen ++ true ∷ [])) (λ x. Each (ChoicePrecedes x) empty) full
        (λ x f. each-weaker (Found (chosen ++ false ∷ [])) (ChoicePrecedes x) empty (λ y g. full_precedes chosen x y f.1.0 g.1.0) k.each) h.each);
    complete = λ choice long from. at choice long from.1 (one_value_more chosen choice (omega arith) from.0);
  }
    where
      Found : List Bool → List Bool → Type 0
      Found begin choice = (length choice ≡ n) × From begin choice

      found : (value : Bool) (choice : List Bool) → Found (chosen ++ value ∷ []) choice → Found chosen choice
      found value choice f = (f.0, (begins_without chosen (value ∷ []) choice f.1.0, f.1.1))

      at : (choice : List Bool) → length choice ≡ n → P choice → BeginsWith (chosen ++ true ∷ []) choice ⊎ BeginsWith (chosen ++ false ∷ []) choice
          → Member (full ++ empty) choice
      at choice long holds (inl begins) = member-append_left full empty choice (h.complete choice long (begins, holds))
      at choice long holds (inr begins) = member-append_right full empty choice (k.complete choice long (begins, holds))

  -- where all values are given there is this choice alone, if it has the property
  pub choices-one : (choice : List Bool) → P choice → AreChoicesThat (From choice) (length choice) (choice ∷ [])
  choices-one choice holds = record {
    each = ((refl, (([], sym (append-nil choice)), holds)), tt);
    ordered = (tt, tt);
    complete = λ other long from. inl (no_value_more choice other long from.0);
  }

  -- and none, if it doesn't
  pub choices-none : (choice : List Bool) → (P choice → ⊥) → AreChoicesThat (From choice) (length choice) []
  choices-none choice fails = record {
    each = tt;
    ordered = tt;
    complete = λ other long from. fails (subst P (sym (no_value_more choice other long from.0)) from.1);
  }

  -- every choice begins with no value
  pub choices-all : (n : ℕ) (choices : List (List Bool)) → AreChoicesThat (From []) n choices → AreChoicesThat P n choices
  choices-all n choices h = record {
    each = each-weaker (λ x. (length x ≡ n) × From [] x) (λ x. (length x ≡ n) × P x) choices (λ x f. (f.0, f.1.1)) h.each;
    ordered = h.ordered;
    complete = λ choice long holds. h.complete choice long ((choice, refl), holds);
  }

  -- it can't be that there is no list of the choices that begin so
  some_from : (d : ℕ) (chosen : List Bool) (n : ℕ) → length chosen + d ≡ n → ((choices : List (List Bool)) → AreChoicesThat (From chosen) n choices → ⊥) → ⊥
  some_from zero chosen n whole never =
      let Those = λ (m : ℕ) (choices : List (List Bool)). AreChoicesThat (From chosen) m choices in
      let same : length chosen ≡ n = omega (arith, whole) in
      let no : P chosen → ⊥ = λ holds. never (chosen ∷ []) (subst (λ m. Those m (chosen ∷ [])) same (choices-one chosen holds)) in
      never [] (subst (λ m. Those m []) same (choices-none chosen no))
  some_from (suc d) chosen n whole never =
      some_from d (chosen ++ true ∷ []) n (omega (arith, whole, length-append chosen (true ∷ []))) (λ full h.
      some_from d (chosen ++ false ∷ []) n (omega (arith, whole, length-append chosen (false ∷ []))) (λ empty k.
      never (full ++ empty) (choices-both chosen n full empty (omega (arith, whole)) h k)))

  -- or of all choices
  pub some_choices : (n : ℕ) → ((choices : List (List Bool)) → AreChoicesThat P n choices → ⊥) → ⊥
  some_choices n never = some_from n [] n (omega arith) (λ choices h. never choices (choices-all n choices h))
