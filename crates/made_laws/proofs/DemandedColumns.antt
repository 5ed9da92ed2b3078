-- The columns beside a line over a cube of a row: the blocks that they go through, and the cells of the solid itself.
use Rattle.std.proofs.Common.{◌≡◌, ⊎_elim, Bool, true, false, ℕ, ◌+◌, ◌-◌, ◌<◌, List, length, drop, Option, Some, None, if◌then◌else◌, ℤ, pos, ◌-ℤ◌, ap, sym, subst, ◌∙◌}
use Rattle.std.proofs.lemmas.List.{length-map, length-drop}
use Rattle.solid_model.specs.declared.cell.Axis.{Axis}
use Rattle.solid_model.specs.declared.cell.Axis.TheVariants.{X, Y, Z}
use Rattle.solid_model.specs.declared.cell.Cell.{Cell}
use Rattle.solid_model.specs.declared.frame.Direction.{Direction}
use Rattle.solid_model.specs.declared.frame.View.{View}
use Rattle.solid_model.specs.declared.frame.View.TheVariants.{Front, Top, Side}
use Rattle.solid_model.specs.Blocks.{ProblemParts, IsBlocksOf, block_at}
use Rattle.solid_model.specs.Cells.{coordinate}
use Rattle.solid_model.specs.Demands.{known_cell, known_in, coordinate_on, box_cell_in}
use Rattle.solid_model.specs.DrawnStyle.{solid_drawing}
use Rattle.solid_model.specs.Frames.{frame_of, along, across}
use Rattle.solid_model.specs.Panels.{coordinates_of, IsGridOf}
use Rattle.solid_model.specs.Runs.{IsDrawing}
use Rattle.solid_model.specs.GridBox.{grid_sizes}
use Rattle.solid_model.proofs.Views.{across_along, views_are_frames, HasCoordinates, coordinates_at, runs_forward, stands_forward}
use Rattle.drawing_maker.specs.declared.cube.Cube.{Cube}
use Rattle.drawing_maker.specs.declared.ticks.Part.{Part}
use Rattle.drawing_maker.specs.declared.ticks.Tick.{Tick}
use Rattle.drawing_maker.specs.Cubes.{cube_side, row_cells}
use Rattle.made_laws.specs.RowBlocks.{cubelet_block, row_block_count, block_where, blocks_in_row}
use Rattle.drawing_maker.specs.Rows.{row_ticks, coordinates_of_ticks}
use Rattle.made_laws.proofs.DemandedBlocks.{block_is_told, block_of_cubelet, no_block_between, blocks_before_are}
use Rattle.made_laws.proofs.DemandedLines.{AreKnownEqual}
use Rattle.made_laws.proofs.DemandedCubes.{cubelet_in}
use Rattle.made_laws.proofs.DemandedPlaces.{around, is_member, ticks_before, part_here, IsOff, part_or_off}
use Rattle.drawing_maker.proofs.Rows.{IsRow}
use Rattle.drawing_maker.proofs.Cubelets.{place_along}
use Rattle.drawing_maker.proofs.RowTicks.{part_at}

-- ---- the problem of a row

-- a row of cubes, its grid and its blocks
pub record IsProblemOf (ps : List Cube) (q : ProblemParts) : Type 0 where
  pub row : IsRow ps
  pub drawing : IsDrawing (solid_drawing (row_cells ps))
  pub grid : IsGridOf (solid_drawing (row_cells ps)) q.grid
  pub coordinates : (a : Axis) → coordinates_of q.grid a ≡ coordinates_of_ticks (row_ticks ps)
  pub blocks : IsBlocksOf q.grid q.blocks
  pub numbers : q.blocks.numbers ≡ blocks_in_row ps (drop 1 (row_ticks ps))
  pub count : q.blocks.count ≡ row_block_count ps

module _ (ps : List Cube) (q : ProblemParts) (is : IsProblemOf ps q) where
  -- the grid has as many cells in a row along each axis as the row of cubes has gaps
  pub sizes_are : (a : Axis) → grid_sizes q.grid a ≡ length (drop 1 (row_ticks ps))
  sizes_are a = ap (λ zs. length zs - 1) (is.coordinates a) ∙ ap (λ n. n - 1) (length-map (row_ticks ps) (λ (s : Tick). pos s.at)) ∙ sym (length-drop 1 (row_ticks ps))

  -- what the row holds along each axis where a cell lies
  abbrev pub held : Cell → Axis → Option Part
  held c a = part_at ps (coordinate a c)

  pub block_held : (c : Cell) → block_at q.blocks c ≡ block_where ps (held c X) (held c Y) (held c Z)
  block_held = block_is_told ps q.blocks (λ a. is.blocks.sized a ∙ sizes_are a) is.numbers

-- ---- a column over a cube

-- the axes of a view
abbrev pub right_axis : View → Axis
right_axis v = (along (frame_of v) false).axis

abbrev pub up_axis : View → Axis
up_axis v = (across (frame_of v) false).axis

abbrev pub away_axis : View → Axis
away_axis v = (frame_of v).away.axis

-- what holds of the three places of a cubelet that a view shows holds along each axis
pub by_view : (P : Axis → ℕ → Type 0) (v : View) (right up k : ℕ) → P (right_axis v) right → P (up_axis v) up → P (away_axis v) k
    → (a : Axis) → P a (place_along a (cubelet_in v right up k))
by_view P Front right up k first second third X = first
by_view P Front right up k first second third Y = third
by_view P Front right up k first second third Z = second
by_view P Top right up k first second third X = first
by_view P Top right up k first second third Y = second
by_view P Top right up k first second third Z = third
by_view P Side right up k first second third X = third
by_view P Side right up k first second third Y = first
by_view P Side right up k first second third Z = second

-- ---- the blocks of a column

module _ (before : List Cube) (p : Cube) (behind : List Cube) (q : ProblemParts) (is : IsProblemOf (around before p behind) q)
    (v : View) (right : ℕ) (in_cube : right < cube_side p.kind) where
  abbrev row_around : List Cube
  row_around = around before p behind

  -- the place of the column's cells to the right
  abbrev pub right_place : ℕ
  right_place = ticks_before before p behind + right

  -- the coordinate of a depth
  abbrev depth : ℤ → ℤ
  depth k = coordinate_on (grid_sizes q.grid (away_axis v)) (frame_of v).away k

  -- the cell of the column at a place upwards
  abbrev pub column_cell : ℤ → ℤ → Cell
  column_cell j k = box_cell_in (grid_sizes q.grid) (frame_of v) false (pos right_place) j k

  forward_on : (count : ℕ) (d : Direction) (z : ℤ) → d.forward ≡ true → coordinate_on count d z ≡ z
  forward_on count d z e = ap (λ b. if b then z else ((pos count -ℤ pos 1) -ℤ z)) e

  column_at_is : (j k : ℤ) → HasCoordinates (right_axis v) (up_axis v) (away_axis v) (pos right_place) j (depth k) (column_cell j k)
  column_at_is j k =
      let at = coordinates_at (coordinate_on (grid_sizes q.grid (right_axis v)) (along (frame_of v) false) (pos right_place))
      (coordinate_on (grid_sizes q.grid (up_axis v)) (across (frame_of v) false) j) (depth k) _ _ _ (across_along (frame_of v) (views_are_frames v) false) in
      record {
        first = at.first ∙ forward_on (grid_sizes q.grid (right_axis v)) (along (frame_of v) false) (pos right_place) (runs_forward v false);
        second = at.second ∙ forward_on (grid_sizes q.grid (up_axis v)) (across (frame_of v) false) j (stands_forward v false);
        third = at.third;
      }

  -- a part of the cube
  abbrev part_of : ℕ → Part
  part_of place = record { cube = p; place = place }

  held_right : (j k : ℤ) → held row_around q is (column_cell j k) (right_axis v) ≡ Some (part_of right)
  held_right j k = ap (part_at row_around) (column_at_is j k).first ∙ part_here before p behind right in_cube

  -- how many blocks stand before the cube
  abbrev pub offset : ℕ
  offset = row_block_count before

  -- where it lies in the cube along all axes, it is a block of the cube
  block_in_cube : (j k : ℤ) (up m : ℕ) → part_at row_around j ≡ Some (part_of up) → part_at row_around (depth k) ≡ Some (part_of m)
      → block_at q.blocks (column_cell j k) ≡ Some (offset + cubelet_block p.kind (cubelet_in v right up m))
  block_in_cube j k up m at_up at_depth =
      let parts = by_view (λ a place. held row_around q is (column_cell j k) a ≡ Some (part_of place)) v right up m (held_right j k)
      (ap (part_at row_around) (column_at_is j k).second ∙ at_up) (ap (part_at row_around) (column_at_is j k).third ∙ at_depth) in
      block_held row_around q is (column_cell j k)
      ∙ block_of_cubelet row_around p (cubelet_in v right up m) _ _ _ (parts X) (parts Y) (parts Z)
      ∙ ap (λ n. Some (n + cubelet_block p.kind (cubelet_in v right up m))) (blocks_before_are before p behind is.row)

  -- where it lies off the cube upwards, or in depth, it has none
  no_block_up : (j k : ℤ) → IsOff p (part_at row_around j) → block_at q.blocks (column_cell j k) ≡ None
  no_block_up j k off = block_held row_around q is (column_cell j k)
      ∙ no_block_between row_around p (held row_around q is (column_cell j k)) (right_axis v) (up_axis v) right (held_right j k)
      (subst (λ z. IsOff p (part_at row_around z)) (sym (column_at_is j k).second) off)

  no_block_away : (j k : ℤ) → IsOff p (part_at row_around (depth k)) → block_at q.blocks (column_cell j k) ≡ None
  no_block_away j k off = block_held row_around q is (column_cell j k)
      ∙ no_block_between row_around p (held row_around q is (column_cell j k)) (right_axis v) (away_axis v) right (held_right j k)
      (subst (λ z. IsOff p (part_at row_around z)) (sym (column_at_is j k).third) off)

  -- ---- what is known of it

  module _ (known : ℕ → Option Bool) where
    -- what is known of the column
    abbrev pub known_there : ℤ → ℤ → Option Bool
    known_there j k = known_cell q.blocks known (column_cell j k)

    -- in all its parts that lie in the cube it is known to have a value
    abbrev pub Says : ℤ → Bool → Type 0
    Says j value = (k : ℤ) (m : ℕ) → m < cube_side p.kind → part_at row_around (depth k) ≡ Some (part_of m) → known_there j k ≡ Some value

    -- by the blocks of its cubelets,
    pub says_by_cubelets : (up : ℕ) (value : Bool) → up < cube_side p.kind
        → ((m : ℕ) → m < cube_side p.kind → known (offset + cubelet_block p.kind (cubelet_in v right up m)) ≡ Some value)
        → Says (pos (ticks_before before p behind + up)) value
    says_by_cubelets up value l each k m few at =
        ap (known_in known) (block_in_cube (pos (ticks_before before p behind + up)) k up m (part_here before p behind up l) at) ∙ each m few

    -- or since it stands off the cube
    pub says_off : (j : ℤ) → IsOff p (part_at row_around j) → Says j false
    says_off j off k m few at = ap (known_in known) (no_block_up j k off)

    -- Two columns with one value are known to be equal: elsewhere they are empty.
    pub known_equal : (j i : ℤ) (value : Bool) → Says j value → Says i value → AreKnownEqual (known_there j) (known_there i)
    known_equal j i value says also k = ⊎_elim {C = (value : Bool) × (known_there j k ≡ Some value) × (known_there i k ≡ Some value)}
        (λ h. (value, says k h.place h.few h.is, also k h.place h.few h.is))
        (λ off. (false, ap (known_in known) (no_block_away j k off), ap (known_in known) (no_block_away i k off)))
        (part_or_off row_around is.row p (is_member before p behind) (depth k))
