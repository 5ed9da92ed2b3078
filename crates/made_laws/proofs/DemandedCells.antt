-- The cells of a row's solid beside a line over one of its cubes, and so which blocks of the cube a live prefix can't decide:
-- that of its full cells as empty, or all voids of a column as full.
use Rattle.std.proofs.Common.{◌≡◌, ◌≢◌, Bool, true, false, not, ℕ, suc, ◌+◌, ◌*◌, ◌<◌, List, length, Some, None, if◌then◌else◌, ℤ, pos, ◌-ℤ◌, ap, sym, subst, ◌∙◌, arith}
use Rattle.std.proofs.lemmas.Bool.{both_ways}
use Rattle.std.proofs.lemmas.Int.{ints}
use Rattle.std.proofs.lemmas.List.{length-map, length-drop}
use Rattle.solid_model.specs.declared.cell.Cell.{Cell}
use Rattle.solid_model.specs.declared.frame.View.{View}
use Rattle.solid_model.specs.Blocks.{ProblemParts}
use Rattle.solid_model.specs.Cells.{coordinate, is_full}
use Rattle.solid_model.specs.Columns.{cell_in}
use Rattle.solid_model.specs.Demands.{said_by}
use Rattle.solid_model.specs.Forcing.{IsLive}
use Rattle.solid_model.specs.Frames.{frame_of, along, across, cell_on}
use Rattle.solid_model.specs.Panels.{coordinates_of}
use Rattle.solid_model.specs.GridBox.{grid_sizes}
use Rattle.solid_model.proofs.Gaps.{member}
use Rattle.lemmas.proofs.Lists.{each-at}
use Rattle.solid_model.proofs.Views.{across_along, views_are_frames, HasCoordinates, coordinates_at, runs_forward, stands_forward, forward_cell, cell_on_twice}
use Rattle.drawing_maker.specs.declared.cube.Kind.{Kind}
use Rattle.drawing_maker.specs.declared.cube.Cube.{Cube}
use Rattle.drawing_maker.specs.declared.ticks.Tick.{Tick}
use Rattle.drawing_maker.specs.Cubes.{Cubelet, cube_side, is_void, row_cells}
use Rattle.made_laws.specs.RowBlocks.{void_cubelets, cubelet_place, cubelet_block, row_block_count}
use Rattle.drawing_maker.specs.Rows.{row_ticks}
use Rattle.made_laws.proofs.DemandedColumns.{IsProblemOf, right_axis, up_axis, away_axis, by_view, Says, says_by_cubelets, says_off, known_equal, sizes_are}
use Rattle.made_laws.proofs.DemandedLines.{not_known_equal}
use Rattle.made_laws.proofs.DemandedCubes.{cubelet_in}
use Rattle.made_laws.proofs.DemandedPlaces.{around, is_member, ticks_before, IsOff, coordinate_here, long_enough, none_behind}
use Rattle.drawing_maker.proofs.Rows.{Spans, LiesInPart, part_spans}
use Rattle.drawing_maker.proofs.Cubelets.{full_in_cubelet, empty_beside}
use Rattle.drawing_maker.proofs.RowTicks.{part_at}

-- a cubelet that is no void is of the first block
first_block : (kind : Kind) (c : Cubelet) → is_void kind c ≡ false → cubelet_block kind c ≡ 0
first_block kind c e = ap (λ b. if b then 1 + cubelet_place (void_cubelets kind) c else 0) e

module _ (before : List Cube) (p : Cube) (behind : List Cube) (q : ProblemParts) (is : IsProblemOf (around before p behind) q)
    (v : View) (right up : ℕ) (in_right : right < cube_side p.kind) (in_up : up < cube_side p.kind) where
  abbrev row_around : List Cube
  row_around = around before p behind

  abbrev solid : List Cell
  solid = row_cells row_around

  -- the line between the column and the one beside it upwards
  abbrev line_place : ℕ
  line_place = ticks_before before p behind + suc up

  abbrev cell_place : ℕ
  cell_place = ticks_before before p behind + right

  on_line : line_place < length (coordinates_of q.grid (up_axis v))
  on_line = omega (arith, ap length (is.coordinates (up_axis v)), length-map (row_ticks row_around) (λ (s : Tick). pos s.at), long_enough before p behind)

  in_row : cell_place < grid_sizes q.grid (right_axis v)
  in_row = omega (arith, sizes_are row_around q is (right_axis v), length-drop 1 (row_ticks row_around), long_enough before p behind)

  sized : 0 < p.scale
  sized = each-at (λ r. 0 < r.scale) row_around p is.row.sized (is_member before p behind)

  -- ---- cells of the solid

  abbrev start : ℤ
  start = member (coordinates_of q.grid (right_axis v)) cell_place

  abbrev line : ℤ
  line = member (coordinates_of q.grid (up_axis v)) line_place

  start_is : start ≡ pos (p.origin + p.scale * right)
  start_is = ap (λ zs. member zs cell_place) (is.coordinates (right_axis v)) ∙ coordinate_here before p behind right (omega arith)

  line_is : line ≡ pos (p.origin + p.scale * suc up)
  line_is = ap (λ zs. member zs line_place) (is.coordinates (up_axis v)) ∙ coordinate_here before p behind (suc up) (omega arith)

  -- the depth at which a place of the cube begins
  abbrev depth_of : ℕ → ℤ
  depth_of m = cell_on (frame_of v).away (pos (p.origin + p.scale * m))

  -- the unit cell there
  abbrev unit_cell : ℤ → ℕ → Cell
  unit_cell j m = cell_in (frame_of v) false start j (depth_of m)

  unit_cell_is : (j : ℤ) (m : ℕ) → HasCoordinates (right_axis v) (up_axis v) (away_axis v) (pos (p.origin + p.scale * right)) j (pos (p.origin + p.scale * m)) (unit_cell j m)
  unit_cell_is j m =
      let at = coordinates_at (cell_on (along (frame_of v) false) start) (cell_on (across (frame_of v) false) j) (cell_on (frame_of v).away (depth_of m)) _ _ _
      (across_along (frame_of v) (views_are_frames v) false) in
      record {
        first = at.first ∙ forward_cell (along (frame_of v) false) start (runs_forward v false) ∙ start_is;
        second = at.second ∙ forward_cell (across (frame_of v) false) j (stands_forward v false);
        third = at.third ∙ cell_on_twice (frame_of v).away (pos (p.origin + p.scale * m));
      }

  begins_part : (m : ℕ) → LiesInPart p m (pos (p.origin + p.scale * m))
  begins_part m = let l = sized in (omega (arith, ints), omega (arith, ints))

  -- it is full unless it lies in a void
  unit_full : (j : ℤ) (place m : ℕ) → place < cube_side p.kind → m < cube_side p.kind → LiesInPart p place j
      → is_full solid (unit_cell j m) ≡ not (is_void p.kind (cubelet_in v right place m))
  unit_full j place m in_place in_depth at =
      let is_at = unit_cell_is j m in
      full_in_cubelet row_around is.row p (is_member before p behind) (cubelet_in v right place m)
      (by_view (λ a k. k < cube_side p.kind) v right place m in_right in_place in_depth) (unit_cell j m)
      (by_view (λ a k. LiesInPart p k (coordinate a (unit_cell j m))) v right place m
      (subst (LiesInPart p right) (sym is_at.first) (begins_part right)) (subst (LiesInPart p place) (sym is_at.second) at)
      (subst (LiesInPart p m) (sym is_at.third) (begins_part m)))

  before_line : LiesInPart p up (line -ℤ pos 1)
  before_line = let l = sized in let e = line_is in (omega (arith, ints), omega (arith, ints))

  at_line : LiesInPart p (suc up) line
  at_line = subst (LiesInPart p (suc up)) (sym line_is) (begins_part (suc up))

  -- beyond the cube it is empty
  empty_beyond : suc up ≡ cube_side p.kind → (m : ℕ) → is_full solid (unit_cell line m) ≡ false
  empty_beyond last m =
      let is_at = unit_cell_is line m in
      let ends : p.scale * suc up ≡ p.scale * cube_side p.kind = ap (λ n. p.scale * n) last in
      let e = line_is in
      let f = is_at.second in
      empty_beside row_around is.row p (is_member before p behind) (up_axis v) (right_axis v) (unit_cell line m)
      (subst (Spans p) (sym is_at.first) (part_spans p right (pos (p.origin + p.scale * right)) in_right (begins_part right)))
      (λ spans. let high = spans.1 in omega (arith, ints))

  -- ---- columns that can't be equal

  module _ (prefix : List Bool) (live : IsLive q prefix) where
    -- what the prefix says of a column
    abbrev HasValue : ℤ → Bool → Type 0
    HasValue = Says before p behind q is v right in_right (said_by prefix)

    -- where the solid's two columns differ somewhere, they don't have one value
    apart : (m : ℕ) → is_full solid (unit_cell line m) ≢ is_full solid (unit_cell (line -ℤ pos 1) m) → (value : Bool)
        → HasValue (pos line_place) value → HasValue (pos (ticks_before before p behind + up)) value → ⊥
    apart m differ value after prior =
        let e : pos (ticks_before before p behind + up) ≡ pos line_place -ℤ pos 1 = omega (arith, ints) in
        not_known_equal solid is.drawing q is.grid v line_place cell_place on_line in_row (depth_of m) differ prefix live
        (known_equal before p behind q is v right in_right (said_by prefix) (pos line_place) (pos line_place -ℤ pos 1) value after
        (subst (λ j. HasValue j value) e prior))

    -- what it says of the first block of the cube
    says_first : (place m : ℕ) (value : Bool) → said_by prefix (row_block_count before + 0) ≡ Some value → is_void p.kind (cubelet_in v right place m) ≡ false
        → said_by prefix (row_block_count before + cubelet_block p.kind (cubelet_in v right place m)) ≡ Some value
    says_first place m value said e = ap (λ n. said_by prefix (row_block_count before + n)) (first_block p.kind (cubelet_in v right place m) e) ∙ said

    -- the last column of the cube, in which no void lies: the first block isn't empty
    pub first_not_empty : suc up ≡ cube_side p.kind → ((m : ℕ) → m < cube_side p.kind → is_void p.kind (cubelet_in v right up m) ≡ false)
        → said_by prefix (row_block_count before + 0) ≡ Some false → ⊥
    first_not_empty last none said =
        let few : 0 < cube_side p.kind = omega arith in
        let full = unit_full (line -ℤ pos 1) up 0 in_up few before_line ∙ ap not (none 0 few) in
        let off : part_at row_around (pos line_place) ≡ None = ap (λ n. part_at row_around (pos (ticks_before before p behind + n))) last ∙ none_behind before p behind in
        apart 0 (λ e. both_ways (is_full solid (unit_cell line 0)) (empty_beyond last 0) (e ∙ full)) false
        (says_off before p behind q is v right in_right (said_by prefix) (pos line_place) (subst (IsOff p) (sym off) tt))
        (says_by_cubelets before p behind q is v right in_right (said_by prefix) up false in_up (λ m l. says_first up m false said (none m l)))

    -- a column with a void, beside one without: the blocks of the first one aren't all full
    pub voids_not_full : suc up < cube_side p.kind → is_void p.kind (cubelet_in v right up 1) ≡ true
        → ((m : ℕ) → m < cube_side p.kind → is_void p.kind (cubelet_in v right (suc up) m) ≡ false)
        → said_by prefix (row_block_count before + 0) ≡ Some true
        → ((m : ℕ) → m < cube_side p.kind → said_by prefix (row_block_count before + cubelet_block p.kind (cubelet_in v right up m)) ≡ Some true) → ⊥
    voids_not_full within void none said each =
        let few : 1 < cube_side p.kind = omega arith in
        let empty = unit_full (line -ℤ pos 1) up 1 in_up few before_line ∙ ap not void in
        let full = unit_full line (suc up) 1 within few at_line ∙ ap not (none 1 few) in
        apart 1 (λ e. both_ways (is_full solid (unit_cell (line -ℤ pos 1) 1)) empty (sym e ∙ full)) true
        (says_by_cubelets before p behind q is v right in_right (said_by prefix) (suc up) true within (λ m l. says_first (suc up) m true said (none m l)))
        (says_by_cubelets before p behind q is v right in_right (said_by prefix) up true in_up each)
