-- All matching choices are all matching solids, where each matching solid is the union that a choice fills, and choices come in
-- the order of their unions. They are one list, where what a choice fills determines it.
use Rattle.std.proofs.Common.{◌≡◌, inl, inr, Bool, ℕ, suc, List, [], ◌∷◌, length, map, Option, ◌<ℤ◌, refl, ap, ap₂, sym, subst, ◌∙◌}
use Rattle.std.proofs.lemmas.List.{length-map}
use Rattle.solid_model.specs.declared.cell.Axis.{Axis}
use Rattle.solid_model.specs.declared.cell.Cell.{Cell}
use Rattle.solid_model.specs.declared.segment.Segment.{Segment}
use Rattle.solid_model.specs.declared.segment.Style.{Style}
use Rattle.solid_model.specs.Cells.{is_full, SameCells}
use Rattle.solid_model.specs.Choices.{ChoicePrecedes, AreChoicesThat, is_chosen, cells_of_choice, IsMatchingChoice, AreSolidsOfChoices}
use Rattle.solid_model.specs.Frames.{frame_of}
use Rattle.solid_model.specs.Grid.{Coordinates, grid_cell_count, IsUnionOf}
use Rattle.lemmas.specs.Lists.{Member, Each, Ascends}
use Rattle.solid_model.specs.Matching.{Matches, AreSolidsOf, AreSomeSolidsOf}
use Rattle.solid_model.specs.Orders.{IsInStatedForm, SolidPrecedes}
use Rattle.solid_model.proofs.CellOrder.{stated_form}
use Rattle.solid_model.proofs.ChosenSolids.{one_union, chosen_at_corners}
use Rattle.solid_model.proofs.Corners.{corners}
use Rattle.solid_model.proofs.Fullness.{solid_with, full_cell_of}
use Rattle.solid_model.proofs.Styles.{same_drawing}

-- a list of the same cells matches too
pub same_matches : (drawing : Segment → Style) (s t : List Cell) → SameCells s t → Matches drawing s → Matches drawing t
same_matches drawing s t same matches =
    let first = full_cell_of s matches.0 in (
      solid_with t first.0 (sym (same first.0) ∙ first.1),
      λ g shows. same_drawing (frame_of g.view) (is_full s) (is_full t) same g (drawing g) (matches.1 g shows),
    )

module _ (drawing : Segment → Style) (coordinates : Coordinates) (ascends : (a : Axis) → Ascends ◌<ℤ◌ (coordinates a)) (items : List (Option ℕ)) (n : ℕ) where
  abbrev Is : List Bool → Type 0
  Is choice = (length choice ≡ n) × IsMatchingChoice drawing coordinates items choice

  -- the solid of a matching choice, in the stated form
  record IsStatedSolid (choice : List Bool) (s : List Cell) : Type 0 where
    filled : IsUnionOf coordinates (cells_of_choice items choice) (is_full s)
    matching : Matches drawing s × IsInStatedForm s

  stated_solid : (choice : List Bool) → Is choice → (s : List Cell) × IsStatedSolid choice s
  stated_solid choice h =
      let s = h.1.0 in
      let union = h.1.1 in
      let form = stated_form s in (
        form.0,
        record {
          filled = record {
            inside = λ m c at. sym (form.2 c) ∙ union.inside m c at;
            outside = λ c none. sym (form.2 c) ∙ union.outside c none;
          };
          matching = (same_matches drawing s form.0 form.2 h.1.2, form.1);
        },
      )

  abbrev solids : (choices : List (List Bool)) → Each Is choices → List (List Cell)
  solids [] h = []
  solids (choice ∷ choices) h = (stated_solid choice h.0).0 ∷ solids choices h.1

  solids-filled : (choices : List (List Bool)) (h : Each Is choices) → AreSolidsOfChoices coordinates items n choices (solids choices h)
  solids-filled [] h = tt
  solids-filled (choice ∷ choices) h = (h.0.0, (stated_solid choice h.0).1.filled, solids-filled choices h.1)

  solids-matching : (choices : List (List Bool)) (h : Each Is choices) → Each (λ s. Matches drawing s × IsInStatedForm s) (solids choices h)
  solids-matching [] h = tt
  solids-matching (choice ∷ choices) h = ((stated_solid choice h.0).1.matching, solids-matching choices h.1)

  -- a choice that is listed has its solid in the list
  solids-member : (choices : List (List Bool)) (h : Each Is choices) (choice : List Bool) (s : List Cell) → Member choices choice
      → IsUnionOf coordinates (cells_of_choice items choice) (is_full s) → (t : List Cell) × Member (solids choices h) t × SameCells s t
  solids-member [] h choice s k union = absurd k
  solids-member (first ∷ choices) h choice s (inl e) union =
      let own = stated_solid first h.0 in (
        own.0,
        inl refl,
        one_union coordinates ascends (cells_of_choice items first) (is_full s) (is_full own.0)
            (subst (λ c. IsUnionOf coordinates (cells_of_choice items c) (is_full s)) (sym e) union) own.1.filled,
      )
  solids-member (first ∷ choices) h choice s (inr k) union = let rest = solids-member choices h.1 choice s k union in (rest.0, inr rest.1, rest.2)

  module _ (in_order : (choice other : List Bool) (s t : List Cell) → length choice ≡ n → length other ≡ n → ChoicePrecedes choice other
      → IsUnionOf coordinates (cells_of_choice items choice) (is_full s) → IsUnionOf coordinates (cells_of_choice items other) (is_full t) → SolidPrecedes s t) where
    solid-before : (choice : List Bool) (s : List Cell) → length choice ≡ n → IsUnionOf coordinates (cells_of_choice items choice) (is_full s)
        → (choices : List (List Bool)) (h : Each Is choices) → Each (ChoicePrecedes choice) choices → Each (SolidPrecedes s) (solids choices h)
    solid-before choice s long union [] h before = tt
    solid-before choice s long union (other ∷ choices) h before =
        let own = stated_solid other h.0 in
        (in_order choice other s own.0 long h.0.0 before.0 union own.1.filled, solid-before choice s long union choices h.1 before.1)

    solids-ordered : (choices : List (List Bool)) (h : Each Is choices) → Ascends ChoicePrecedes choices → Ascends SolidPrecedes (solids choices h)
    solids-ordered [] h ordered = tt
    solids-ordered (choice ∷ choices) h ordered =
        let own = stated_solid choice h.0 in
        (solid-before choice own.0 h.0.0 own.1.filled choices h.1 ordered.0, solids-ordered choices h.1 ordered.1)

    -- so some matching choices are some matching solids,
    pub some_solids : (choices : List (List Bool)) → Each Is choices → Ascends ChoicePrecedes choices
        → (ss : List (List Cell)) × AreSomeSolidsOf drawing ss × AreSolidsOfChoices coordinates items n choices ss
    some_solids choices each ordered = (
      solids choices each,
      record { matching = solids-matching choices each; ordered = solids-ordered choices each ordered },
      solids-filled choices each,
    )

    -- and all of them are all
    pub all_solids : ((s : List Cell) → Matches drawing s → (choice : List Bool) × (length choice ≡ n) × IsUnionOf coordinates (cells_of_choice items choice) (is_full s))
        → (choices : List (List Bool)) → AreChoicesThat (IsMatchingChoice drawing coordinates items) n choices
        → (ss : List (List Cell)) × AreSolidsOf drawing ss × AreSolidsOfChoices coordinates items n choices ss
    all_solids found choices are = (
      solids choices are.each,
      record {
        matching = solids-matching choices are.each;
        ordered = solids-ordered choices are.each are.ordered;
        complete = λ s matches.
            let choice = found s matches in
            solids-member choices are.each choice.0 s (are.complete choice.0 choice.1 (s, choice.2, matches)) choice.2;
      },
      solids-filled choices are.each,
    )

-- choices fill as many solids
pub as_many : (coordinates : Coordinates) (items : List (Option ℕ)) (n : ℕ) (choices : List (List Bool)) (ss : List (List Cell))
    → AreSolidsOfChoices coordinates items n choices ss → length choices ≡ length ss
as_many coordinates items n [] [] filled = refl
as_many coordinates items n [] (s ∷ ss) filled = absurd filled
as_many coordinates items n (choice ∷ choices) [] filled = absurd filled
as_many coordinates items n (choice ∷ choices) (s ∷ ss) filled = ap suc (as_many coordinates items n choices ss filled.2)

-- Where the grid cells that it fills determine a choice, the choices that fill these solids are one list.
module _ (coordinates : Coordinates) (ascends : (a : Axis) → Ascends ◌<ℤ◌ (coordinates a)) (items : List (Option ℕ)) (n : ℕ)
    (listed : length items ≡ grid_cell_count coordinates)
    (determined : (choice other : List Bool) → length choice ≡ n → length other ≡ n
    → cells_of_choice items choice ≡ cells_of_choice items other → choice ≡ other) where
  -- what a choice fills is what its solid fills at the corners of the grid cells
  at_corners : (choice : List Bool) (s : List Cell) → IsUnionOf coordinates (cells_of_choice items choice) (is_full s)
      → cells_of_choice items choice ≡ map (is_full s) (corners coordinates ascends)
  at_corners choice s union =
      chosen_at_corners coordinates ascends (cells_of_choice items choice) (is_full s) union (length-map items (is_chosen choice) ∙ listed)

  -- they are one list
  pub choices_of_solids : (choices others : List (List Bool)) (ss : List (List Cell))
      → AreSolidsOfChoices coordinates items n choices ss → AreSolidsOfChoices coordinates items n others ss → choices ≡ others
  choices_of_solids [] [] [] h k = refl
  choices_of_solids [] (other ∷ others) [] h k = absurd k
  choices_of_solids [] others (s ∷ ss) h k = absurd h
  choices_of_solids (choice ∷ choices) others [] h k = absurd h
  choices_of_solids (choice ∷ choices) [] (s ∷ ss) h k = absurd k
  choices_of_solids (choice ∷ choices) (other ∷ others) (s ∷ ss) h k =
      ap₂ ◌∷◌ (determined choice other h.0 k.0 (at_corners choice s h.1 ∙ sym (at_corners other s k.1))) (choices_of_solids choices others ss h.2 k.2)
