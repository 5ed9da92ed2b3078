-- All choices of a grid's blocks that match a drawing are all solids that match it, in order.
use Rattle.std.proofs.Common.{◌≡◌, true, Bool, false, ℕ, ◌<◌, List, length, map, get_or, Option, None, ◌<ℤ◌, ap, sym, subst, ◌∙◌}
use Rattle.std.proofs.lemmas.List.{length-map}
use Rattle.std.proofs.lemmas.Option.{none-some}
use Rattle.solid_model.specs.declared.cell.Axis.{Axis}
use Rattle.solid_model.specs.declared.cell.Cell.{Cell}
use Rattle.solid_model.specs.declared.segment.Segment.{Segment}
use Rattle.solid_model.specs.declared.segment.Style.{Style}
use Rattle.solid_model.specs.Blocks.{IsOutside, AreBlocksOf}
use Rattle.solid_model.specs.Cells.{is_full}
use Rattle.solid_model.specs.Choices.{ChoicePrecedes, AreChoicesThat, cells_of_choice, IsMatchingChoice, AreSolidsOfChoices}
use Rattle.solid_model.specs.Grid.{LiesInGridCell, IsUnionOf}
use Rattle.lemmas.specs.Lists.{Each, Ascends}
use Rattle.solid_model.specs.Matching.{Matches, AreSolidsOf, AreSomeSolidsOf}
use Rattle.solid_model.specs.Orders.{SolidPrecedes}
use Rattle.solid_model.specs.Panels.{GridParts, coordinates_of, IsGridOf}
use Rattle.solid_model.specs.WalledBoxes.{is_within, number_at}
use Rattle.solid_model.specs.VirtualFaces.{IsVirtual}
use Rattle.solid_model.specs.GridBox.{grid_sizes, grid_cell_of}
use Rattle.solid_model.proofs.BoxPlaces.{cell_of_place, cell_of_place-within, cell_of_place-there}
use Rattle.solid_model.proofs.ChosenSolids.{union_precedes, matching_union}
use Rattle.solid_model.proofs.ConstantOnBlocks.{same_in_joined, empty_in_outside}
use Rattle.solid_model.proofs.Corners.{corners, corner_of, corner_lies, length-corners, within-is_grid_cell}
use Rattle.solid_model.proofs.ItemOrder.{AreInOrder, enclosed_in_order, length-cells_of_choice, cells_precede, one_choice, IsConstant, choice_of_cells}
use Rattle.solid_model.proofs.SolidsOfChoices.{all_solids, some_solids, choices_of_solids}

-- blocks are numbered by their first cells
blocks_in_order : (g : GridParts) (blocks : List (Option ℕ)) (count : ℕ) → AreBlocksOf g blocks count → AreInOrder blocks count
blocks_in_order g = enclosed_in_order (grid_sizes g) (IsVirtual g)

module _ (drawing : Segment → Style) (g : GridParts) (grid : IsGridOf drawing g)
    (blocks : List (Option ℕ)) (count : ℕ) (are : AreBlocksOf g blocks count) where
  ascends : (a : Axis) → Ascends ◌<ℤ◌ (coordinates_of g a)
  ascends a = (grid.coordinates a).ordered

  -- ---- the grid cell at a place

  module _ (p : ℕ) (p_in : p < length blocks) where
    -- the cell,
    abbrev cell : Cell
    cell = cell_of_place (grid_sizes g) p

    cell_within : is_within (grid_sizes g) cell ≡ true
    cell_within = cell_of_place-within (grid_sizes g) p (subst (λ c. p < c) are.listed p_in)

    -- its block,
    its_block : number_at (grid_sizes g) blocks cell ≡ get_or blocks p None
    its_block = ap (λ q. get_or blocks q None) (cell_of_place-there (grid_sizes g) p)

    -- and its least unit cell, which lies in it
    abbrev corner : Cell
    corner = corner_of (coordinates_of g) ascends (grid_cell_of cell)

    corner_there : LiesInGridCell (coordinates_of g) (grid_cell_of cell) corner
    corner_there = corner_lies (coordinates_of g) ascends (grid_cell_of cell) (within-is_grid_cell (coordinates_of g) ascends cell cell_within)

  -- ---- a matching solid

  module _ (s : List Cell) (matches : Matches drawing s) where
    -- the grid cells that it fills
    abbrev filled : List Bool
    filled = map (is_full s) (corners (coordinates_of g) ascends)

    its_union : IsUnionOf (coordinates_of g) filled (is_full s)
    its_union = matching_union drawing grid.sees (coordinates_of g) grid.coordinates s matches

    filled_there : (p : ℕ) (p_in : p < length blocks) → get_or filled p false ≡ is_full s (corner p p_in)
    filled_there p p_in =
        ap (λ q. get_or filled q false) (sym (cell_of_place-there (grid_sizes g) p))
        ∙ sym (its_union.inside (grid_cell_of (cell p p_in)) (corner p p_in) (corner_there p p_in))

    -- are the same throughout each block, and none outside
    constant : IsConstant blocks filled
    constant = record {
      listed = length-map (corners (coordinates_of g) ascends) (is_full s) ∙ length-corners (coordinates_of g) ascends ∙ sym are.listed;
      same = λ p q k p_in q_in e f.
          let n_in = cell_within p p_in in let m_in = cell_within q q_in in
          let stays = λ (out : IsOutside g (cell p p_in)). none-some k (sym ((are.outside (cell p p_in) n_in).1 out) ∙ its_block p p_in ∙ e) in
          let chain = (are.joined (cell p p_in) (cell q q_in) n_in m_in stays).0 (its_block p p_in ∙ e ∙ sym f ∙ sym (its_block q q_in)) in
          filled_there p p_in
          ∙ same_in_joined drawing g grid s matches (cell p p_in) (cell q q_in) (corner p p_in) (corner q q_in) n_in m_in chain
          (corner_there p p_in) (corner_there q q_in)
          ∙ sym (filled_there q q_in);
      empty = λ p p_in e.
          let n_in = cell_within p p_in in
          let out = (are.outside (cell p p_in) n_in).0 (its_block p p_in ∙ e) in
          filled_there p p_in ∙ empty_in_outside drawing g grid s matches (cell p p_in) (corner p p_in) n_in out (corner_there p p_in);
    }

    -- so it is the union that some choice of blocks fills
    found : (choice : List Bool) × (length choice ≡ count) × IsUnionOf (coordinates_of g) (cells_of_choice blocks choice) (is_full s)
    found =
        let (choice, long, is) = choice_of_cells blocks count (blocks_in_order g blocks count are) filled constant in
        (choice, long, subst (λ cells. IsUnionOf (coordinates_of g) cells (is_full s)) (sym is) its_union)

  -- ---- all of them

  -- choices of blocks come in the order of their solids
  in_order : (choice other : List Bool) (s t : List Cell) → length choice ≡ count → length other ≡ count → ChoicePrecedes choice other
      → IsUnionOf (coordinates_of g) (cells_of_choice blocks choice) (is_full s)
      → IsUnionOf (coordinates_of g) (cells_of_choice blocks other) (is_full t) → SolidPrecedes s t
  in_order choice other s t long long_too precedes union union_too =
      union_precedes (coordinates_of g) ascends (cells_of_choice blocks choice) (cells_of_choice blocks other) (is_full s) (is_full t) union union_too
      (length-cells_of_choice blocks choice ∙ are.listed) (length-cells_of_choice blocks other ∙ are.listed)
      (cells_precede blocks count (blocks_in_order g blocks count are) choice other long precedes)

  -- All choices of blocks that match a drawing are all solids that match it.
  pub all_solids_of_blocks : (choices : List (List Bool)) → AreChoicesThat (IsMatchingChoice drawing (coordinates_of g) blocks) count choices
      → (ss : List (List Cell)) × AreSolidsOf drawing ss × AreSolidsOfChoices (coordinates_of g) blocks count choices ss
  all_solids_of_blocks = all_solids drawing (coordinates_of g) ascends blocks count in_order found

  -- And some of those choices, in order, are some of those solids.
  pub some_solids_of_blocks : (choices : List (List Bool)) → Each (λ choice. (length choice ≡ count) × IsMatchingChoice drawing (coordinates_of g) blocks choice) choices
      → Ascends ChoicePrecedes choices
      → (ss : List (List Cell)) × AreSomeSolidsOf drawing ss × AreSolidsOfChoices (coordinates_of g) blocks count choices ss
  some_solids_of_blocks = some_solids drawing (coordinates_of g) ascends blocks count in_order

-- The choices of blocks that fill given solids are one list.
pub one_list_of_block_choices : (g : GridParts) → ((a : Axis) → Ascends ◌<ℤ◌ (coordinates_of g a)) → (blocks : List (Option ℕ)) (count : ℕ)
    → AreBlocksOf g blocks count → (choices others : List (List Bool)) (ss : List (List Cell))
    → AreSolidsOfChoices (coordinates_of g) blocks count choices ss → AreSolidsOfChoices (coordinates_of g) blocks count others ss → choices ≡ others
one_list_of_block_choices g ascends blocks count are =
    choices_of_solids (coordinates_of g) ascends blocks count are.listed (one_choice blocks count (blocks_in_order g blocks count are))
