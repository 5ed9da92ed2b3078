-- Choices of items, each of which is some of the grid's cells, as blocks are. A choice is what a search lists, and not yet a
-- solid; so what is said of choices is said of any items.
use Rattle.std.specs.Prelude.{◌≡◌, ◌⊎◌, Bool, true, false, ℕ, List, [], ◌∷◌, length, map, slice_index_or, Option, Some, None}
use Rattle.solid_model.specs.declared.cell.Cell.{Cell}
use Rattle.solid_model.specs.declared.segment.Segment.{Segment}
use Rattle.solid_model.specs.declared.segment.Style.{Style}
use Rattle.solid_model.specs.Cells.{is_full}
use Rattle.solid_model.specs.Grid.{Coordinates, IsUnionOf}
use Rattle.lemmas.specs.Lists.{Member, Each, Ascends}
use Rattle.solid_model.specs.Matching.{Matches}

-- The stated order of choices, which say for each item whether it is full: the one that is full at the first item at which
-- they differ comes first.
abbrev pub ChoicePrecedes : List Bool → List Bool → Type 0
ChoicePrecedes (x ∷ xs) (y ∷ ys) = ((x ≡ true) × (y ≡ false)) ⊎ ((x ≡ y) × ChoicePrecedes xs ys)
ChoicePrecedes _ _ = ⊥

-- all choices of n items that have a property, each once, in the stated order
pub record AreChoicesThat (P : List Bool → Type 0) (n : ℕ) (choices : List (List Bool)) : Type 0 where
  pub each : Each (λ choice. (length choice ≡ n) × P choice) choices
  pub ordered : Ascends ChoicePrecedes choices
  pub complete : (choice : List Bool) → length choice ≡ n → P choice → Member choices choice

-- a grid cell is full where its item is; one that belongs to none is empty
abbrev pub is_chosen : List Bool → Option ℕ → Bool
is_chosen choice None = false
is_chosen choice (Some item) = slice_index_or choice item false

-- the grid cells that a choice fills, where each belongs to an item or to none
abbrev pub cells_of_choice : List (Option ℕ) → List Bool → List Bool
cells_of_choice items choice = map (is_chosen choice) items

-- the solid that a choice fills matches the drawing
abbrev pub IsMatchingChoice : (Segment → Style) → Coordinates → List (Option ℕ) → List Bool → Type 0
IsMatchingChoice drawing coordinates items choice =
    (s : List Cell) × IsUnionOf coordinates (cells_of_choice items choice) (is_full s) × Matches drawing s

-- the solids that these choices of n items fill, one for each
abbrev pub AreSolidsOfChoices : Coordinates → List (Option ℕ) → ℕ → List (List Bool) → List (List Cell) → Type 0
AreSolidsOfChoices coordinates items n [] [] = Unit {0}
AreSolidsOfChoices coordinates items n (choice ∷ choices) (s ∷ solids) =
    (length choice ≡ n) × IsUnionOf coordinates (cells_of_choice items choice) (is_full s) × AreSolidsOfChoices coordinates items n choices solids
AreSolidsOfChoices coordinates items n _ _ = ⊥
