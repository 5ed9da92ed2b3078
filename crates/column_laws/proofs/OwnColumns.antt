-- The columns beside a line that a choice fills are columns of chosen grid cells.
use Rattle.std.proofs.Common.{◌≡◌, Bool, true, false, ◌&&◌, ℕ, ◌+◌, ◌-◌, ◌<◌, List, slice_index_or, ℤ, pos, negsuc, ◌-ℤ◌, ◌≤ℤ◌, ◌<ℤ◌, None, if◌then◌else◌, inl, inr, refl, ap, sym, subst, ◌∙◌, arith}
use Rattle.std.proofs.lemmas.Bool.{cases_lt, lt-ltb, le-ltb, false_from_ne_true}
use Rattle.std.proofs.lemmas.Int.{ints}
use Rattle.std.proofs.lemmas.List.{get_or-map}
use Rattle.solid_model.specs.declared.cell.Axis.TheVariants.{X, Y, Z}
use Rattle.solid_model.specs.declared.cell.Cell.{Cell}
use Rattle.solid_model.specs.declared.frame.View.{View}
use Rattle.solid_model.specs.declared.frame.View.TheVariants.{Front, Top, Side}
use Rattle.solid_model.specs.Blocks.{BlockNumbers, IsBlocksOf}
use Rattle.solid_model.specs.Cells.{cell_at}
use Rattle.solid_model.specs.Choices.{is_chosen, cells_of_choice}
use Rattle.solid_model.specs.Demands.{coordinate_on, box_cell_in}
use Rattle.solid_model.specs.Frames.{frame_of, across}
use Rattle.solid_model.specs.Grid.{GridCell}
use Rattle.solid_model.specs.Panels.{GridParts}
use Rattle.solid_model.specs.WalledBoxes.{Sizes, is_below, is_within, box_place, number_at}
use Rattle.solid_model.specs.GridBox.{grid_sizes, axis_along, axis_across}
use Rattle.solid_model.proofs.BoxCells.{within-below}
use Rattle.solid_model.proofs.BoxPlaces.{within_box, place_there}
use Rattle.column_laws.proofs.MetLines.{outside_at_depth}
use Rattle.solid_model.proofs.Views.{views_are_frames, stands_forward, across_along, coordinates_at}
use Rattle.solid_model.specs.GridPlaces.{grid_cell_in}
use Rattle.solid_model.specs.Segments.{across_of, along_of}
use Rattle.column_laws.specs.GridColumns.{grid_column}
use Rattle.column_laws.proofs.Prefixes.{is_filled, block_on_grid}

-- ---- one cell, told in both ways

-- a coordinate backward is a number
number_back : (size k : ℕ) → k < size → (pos size -ℤ pos 1) -ℤ pos k ≡ pos (size - (k + 1))
number_back size k l = omega (arith, ints)

-- the grid cell that stands at places along and across the lines of a kind
abbrev numbers_in : View → Bool → Sizes → ℕ → ℕ → ℕ → GridCell
numbers_in v upright sizes i j k = grid_cell_in (frame_of v) sizes (across_of upright j i) (along_of upright j i) k

abbrev cell_with : GridCell → Cell
cell_with n = cell_at (n X) (n Y) (n Z)

one_cell_of : (v : View) (upright : Bool) (sizes : Sizes) (i j k : ℕ) → k < sizes (frame_of v).away.axis
    → box_cell_in sizes (frame_of v) upright (pos i) (pos j) (pos k) ≡ cell_with (numbers_in v upright sizes i j k)
one_cell_of Front true sizes i j k l = refl
one_cell_of Front false sizes i j k l = refl
one_cell_of Top true sizes i j k l = λ t. record { x = pos j; y = pos i; z = number_back (sizes Z) k l t }
one_cell_of Top false sizes i j k l = λ t. record { x = pos i; y = pos j; z = number_back (sizes Z) k l t }
one_cell_of Side true sizes i j k l = λ t. record { x = number_back (sizes X) k l t; y = pos j; z = pos i }
one_cell_of Side false sizes i j k l = λ t. record { x = number_back (sizes X) k l t; y = pos i; z = pos j }

-- it is one of the box
record AreInBox (sizes : Sizes) (n : GridCell) : Type 0 where
  x : n X < sizes X
  y : n Y < sizes Y
  z : n Z < sizes Z

in_box : (v : View) (upright : Bool) (sizes : Sizes) (i j k : ℕ) → i < sizes (axis_along v upright) → j < sizes (axis_across v upright)
    → k < sizes (frame_of v).away.axis → AreInBox sizes (numbers_in v upright sizes i j k)
in_box Front true sizes i j k l m h = record { x = m; y = h; z = l }
in_box Front false sizes i j k l m h = record { x = l; y = h; z = m }
in_box Top true sizes i j k l m h = record { x = m; y = l; z = omega arith }
in_box Top false sizes i j k l m h = record { x = l; y = m; z = omega arith }
in_box Side true sizes i j k l m h = record { x = omega arith; y = m; z = l }
in_box Side false sizes i j k l m h = record { x = omega arith; y = l; z = m }

-- ---- outside the box

-- a cell that stands beside all lines, or at no depth, is outside
outside_across : (v : View) (upright : Bool) (sizes : Sizes) (i j k : ℤ) → (is_below (sizes (axis_across v upright)) j ≡ true → ⊥)
    → is_within sizes (box_cell_in sizes (frame_of v) upright i j k) ≡ false
outside_across v upright sizes i j k out = false_from_ne_true _ (λ within. out (subst (λ z. is_below (sizes (axis_across v upright)) z ≡ true)
    ((coordinates_at _ (coordinate_on (sizes (axis_across v upright)) (across (frame_of v) upright) j) _ _ _ _ (across_along (frame_of v) (views_are_frames v) upright)).second
    ∙ ap (λ b. if b then j else ((pos (sizes (axis_across v upright)) -ℤ pos 1) -ℤ j)) (stands_forward v upright))
    (within-below sizes (box_cell_in sizes (frame_of v) upright i j k) within (axis_across v upright))))

-- ---- columns

module _ (g : GridParts) (b : BlockNumbers) (is : IsBlocksOf g b) (choice : List Bool) (v : View) (upright : Bool) (i : ℕ) where
  -- the column that the choice fills at a place across the lines
  abbrev pub own_column : ℤ → ℤ → Bool
  own_column j k = is_filled b choice (box_cell_in (grid_sizes g) (frame_of v) upright (pos i) j k)

  filled_outside : (n : Cell) → is_within (grid_sizes g) n ≡ false → is_filled b choice n ≡ false
  filled_outside n out = ap (is_chosen choice) (block_on_grid g b is n ∙ ap (λ w. if w then number_at (grid_sizes g) b.numbers n else None) out)

  -- beside all lines it is empty
  pub own_beside : (j k : ℤ) → (is_below (grid_sizes g (axis_across v upright)) j ≡ true → ⊥) → own_column j k ≡ false
  own_beside j k out = filled_outside (box_cell_in (grid_sizes g) (frame_of v) upright (pos i) j k) (outside_across v upright (grid_sizes g) (pos i) j k out)

  abbrev chosen : List Bool
  chosen = cells_of_choice b.numbers choice

  abbrev chosen_at : GridCell → Bool
  chosen_at n = slice_index_or chosen (box_place (grid_sizes g) (cell_with n)) false

  -- the choice fills what is chosen at the place of a grid cell
  filled_at : (n : GridCell) → AreInBox (grid_sizes g) n → is_filled b choice (cell_with n) ≡ chosen_at n
  filled_at n at =
      let place : ℕ = box_place (grid_sizes g) (cell_with n) in
      let there = subst (λ m. place < m) (sym is.blocks.listed) (place_there (grid_sizes g) (n X) (n Y) (n Z) at.x at.y at.z) in
      ap (is_chosen choice) (block_on_grid g b is (cell_with n)
      ∙ ap (λ w. if w then number_at (grid_sizes g) b.numbers (cell_with n) else None) (within_box (grid_sizes g) (n X) (n Y) (n Z) at.x at.y at.z))
      ∙ sym (get_or-map (is_chosen choice) b.numbers place None false there)

  -- and so it is at other depths than those of the box
  pub own_off : (j k : ℤ) → ((pos 0 ≤ℤ k) × (k <ℤ pos (grid_sizes g (frame_of v).away.axis)) → ⊥) → own_column j k ≡ false
  own_off j k out = filled_outside (box_cell_in (grid_sizes g) (frame_of v) upright (pos i) j k)
      (outside_at_depth (grid_sizes g) (frame_of v) (views_are_frames v) upright (pos i) j k out)

  -- at a place of the grid it is the column of grid cells there
  pub own_is_grid_column : (j : ℕ) → i < grid_sizes g (axis_along v upright) → j < grid_sizes g (axis_across v upright) → (k : ℤ)
      → own_column (pos j) k ≡ grid_column (frame_of v) (grid_sizes g) chosen (across_of upright j i) (along_of upright j i) k
  own_is_grid_column j l m (negsuc k) = own_off (pos j) (negsuc k) (λ r. let low = r.0 in omega (arith, ints))
  own_is_grid_column j l m (pos k) = elim (cases_lt k (grid_sizes g (frame_of v).away.axis))
      as (λ _. own_column (pos j) (pos k) ≡ grid_column (frame_of v) (grid_sizes g) chosen (across_of upright j i) (along_of upright j i) (pos k)) [
        | inl h ↦ ap (is_filled b choice) (one_cell_of v upright (grid_sizes g) i j k h)
            ∙ filled_at (numbers_in v upright (grid_sizes g) i j k) (in_box v upright (grid_sizes g) i j k l m h)
            ∙ ap (λ w. w && chosen_at (numbers_in v upright (grid_sizes g) i j k)) (sym (lt-ltb k (grid_sizes g (frame_of v).away.axis) h))
        | inr h ↦ own_off (pos j) (pos k) (λ r. let high = r.1 in omega (arith, ints))
            ∙ ap (λ w. w && chosen_at (numbers_in v upright (grid_sizes g) i j k)) (sym (le-ltb k (grid_sizes g (frame_of v).away.axis) h))
      ]
