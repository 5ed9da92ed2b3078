-- The lines of the sheet of a union of grid cells: how many there are, and where they stand.
use Rattle.std.proofs.Common.{◌≡◌, inl, inr, ⊎_elim, Bool, true, false, ◌≤◌, List, map, ◌++◌, length, ℤ, pos, ◌≤ℤ◌, ◌<ℤ◌, IsTrue, refl, sym, subst, ◌∙◌, arith}
use Rattle.std.proofs.lemmas.Bool.{both_ways}
use Rattle.std.proofs.lemmas.Int.{ints}
use Rattle.std.proofs.lemmas.List.{length-append, length-map}
use Rattle.solid_model.specs.declared.cell.Axis.{Axis}
use Rattle.solid_model.specs.declared.cell.Axis.TheVariants.{X, Z}
use Rattle.solid_model.specs.declared.cell.Cell.{Cell}
use Rattle.solid_model.specs.declared.frame.View.{View}
use Rattle.solid_model.specs.declared.frame.View.TheVariants.{Front, Top, Side}
use Rattle.solid_model.specs.declared.runs.Run.{Run}
use Rattle.solid_model.specs.Cells.{coordinate, is_full}
use Rattle.solid_model.specs.DrawnStyle.{solid_drawing}
use Rattle.solid_model.specs.Grid.{Coordinates, IsUnionOf}
use Rattle.solid_model.specs.Line.{Line}
use Rattle.lemmas.specs.Lists.{Member, Each, Ascends}
use Rattle.solid_model.specs.Panels.{GridParts, coordinates_of, IsGrid}
use Rattle.solid_model.specs.Runs.{IsRun, DrawingRuns, runs_along, run_style}
use Rattle.solid_model.specs.PerView.{of_view}
use Rattle.solid_model.specs.Segments.{segment_at}
use Rattle.solid_model.proofs.InGrid.{between_members}
use Rattle.lemmas.proofs.Lists.{each-at, each-from}
use Rattle.solid_model.proofs.SomeGrid.{coordinate_near}
use Rattle.solid_model.proofs.UnionDrawing.{in_grid_or_not, union_on_grid}
use Rattle.solid_model.proofs.RunStyles.{in_runs}
use Rattle.redraw.specs.Files.{IsFarEnd, IsSheetOf, right_on_sheet, up_on_sheet, run_line, placed_lines, sheet_lines}
use Rattle.redraw.specs.Sheets.{IsNotNegative, IsDrawnLine}
use Rattle.redraw.proofs.RunsOnGrid.{begins_on_grid, few_runs}
use Rattle.redraw.proofs.SheetLines.{run_of_line}

-- ---- each line is straight and drawn

run_line_drawn : (v : View) (upright : Bool) (right up : ℤ) (r : Run) → IsRun r → IsDrawnLine (run_line v upright right up r)
run_line_drawn v true right up r is = record { straight = inl refl; drawn = is.1 }
run_line_drawn v false right up r is = record { straight = inr refl; drawn = is.1 }

-- what holds of the line of each run holds of each line of the sheet
each_line : (P : Line → Type 0) (far_x far_z : ℤ) (d : DrawingRuns)
    → ((v : View) (upright : Bool) (r : Run) → Member (runs_along upright (of_view v d)) r → P (run_line v upright (right_on_sheet far_x v) (up_on_sheet far_z v) r))
    → Each P (sheet_lines far_x far_z d)
each_line P far_x far_z d holds = each-from P (sheet_lines far_x far_z d) (λ l k.
    let of_run = run_of_line far_x far_z d l k in
    let m = of_run.2 in
    subst P m.is (holds of_run.0 of_run.1 m.run m.listed))

pub lines_drawn : (s : List Cell) (far_x far_z : ℤ) (d : DrawingRuns) → IsSheetOf s far_x far_z d → Each IsDrawnLine (sheet_lines far_x far_z d)
lines_drawn s far_x far_z d sheet = each_line IsDrawnLine far_x far_z d (λ v upright r k.
    run_line_drawn v upright (right_on_sheet far_x v) (up_on_sheet far_z v) r (each-at IsRun _ r (sheet.runs.runs v upright).0 k))

-- ---- none is negative

run_line_not_negative : (v : View) (upright : Bool) (right up : ℤ) (r : Run) → IsRun r → (pos 0 ≤ℤ right) → (pos 0 ≤ℤ up) → (pos 0 ≤ℤ r.from) → (pos 0 ≤ℤ r.at)
    → IsNotNegative (run_line v upright right up r)
run_line_not_negative v true right up r is h k from at =
    let long = is.0 in record { x0 = omega (arith, ints); y0 = omega (arith, ints); x1 = omega (arith, ints); y1 = omega (arith, ints) }
run_line_not_negative v false right up r is h k from at =
    let long = is.0 in record { x0 = omega (arith, ints); y0 = omega (arith, ints); x1 = omega (arith, ints); y1 = omega (arith, ints) }

-- nor is the place of a view on the sheet
place_not_negative : (far_x far_z : ℤ) (v : View) → pos 0 ≤ℤ far_x → pos 0 ≤ℤ far_z → (pos 0 ≤ℤ right_on_sheet far_x v) × (pos 0 ≤ℤ up_on_sheet far_z v)
place_not_negative far_x far_z Front h k = (omega (arith, ints), omega (arith, ints))
place_not_negative far_x far_z Top h k = (omega (arith, ints), omega (arith, ints))
place_not_negative far_x far_z Side h k = (omega (arith, ints), omega (arith, ints))

-- ---- the sheet of a union of grid cells

-- what is known of a grid's coordinates
record AreFewCoordinates (coordinates : Coordinates) : Type 0 where
  ascends : (a : Axis) → Ascends ◌<ℤ◌ (coordinates a)
  few : (a : Axis) → length (coordinates a) ≤ 64
  not_negative : (a : Axis) (z : ℤ) → Member (coordinates a) z → pos 0 ≤ℤ z

grid_coordinates : (g : GridParts) → IsGrid g → AreFewCoordinates (coordinates_of g)
grid_coordinates g (drawing, is, grid) = record {
  ascends = λ a. (grid.coordinates a).ordered;
  few = grid.few;
  not_negative = λ a z k. (coordinate_near drawing is a z (((grid.coordinates a).exact z).0 k)).0;
}

module _ (coordinates : Coordinates) (are : AreFewCoordinates coordinates) (chosen : List Bool) (s : List Cell) (union : IsUnionOf coordinates chosen (is_full s))
    (far_x far_z : ℤ) (d : DrawingRuns) (sheet : IsSheetOf s far_x far_z d) where
  -- a list of runs shows what the solid draws
  shows : (v : View) (upright : Bool) (j z : ℤ) → run_style (runs_along upright (of_view v d)) j z ≡ solid_drawing s (segment_at v upright z j)
  shows v upright j z = sym (in_runs d v upright z j) ∙ sheet.runs.show (segment_at v upright z j)

  few_along : (v : View) (upright : Bool) → length (runs_along upright (of_view v d)) ≤ 4096
  few_along v upright = few_runs coordinates are.ascends (solid_drawing s) (union_on_grid coordinates are.ascends chosen s union)
      v upright (runs_along upright (of_view v d)) (sheet.runs.runs v upright) (shows v upright) are.few

  few_in_view : (v : View) → length (placed_lines far_x far_z d v) ≤ 8192
  few_in_view v =
      let line = λ (upright : Bool). run_line v upright (right_on_sheet far_x v) (up_on_sheet far_z v) in
      let level = few_along v false in
      let upright = few_along v true in
      omega (
        arith,
        length-append (map (line false) (of_view v d).level) (map (line true) (of_view v d).upright),
        length-map (of_view v d).level (line false),
        length-map (of_view v d).upright (line true),
        level,
        upright,
      )

  -- there are at most 4,096 lines for each view and kind
  few_lines : length (sheet_lines far_x far_z d) ≤ 24576
  few_lines =
      let front = few_in_view Front in let top = few_in_view Top in let side = few_in_view Side in
      omega (
        arith,
        length-append (placed_lines far_x far_z d Front) (placed_lines far_x far_z d Top ++ placed_lines far_x far_z d Side),
        length-append (placed_lines far_x far_z d Top) (placed_lines far_x far_z d Side),
        front,
        top,
        side,
      )

  -- a full cell has no negative coordinate
  full_not_negative : (a : Axis) (c : Cell) → IsTrue (is_full s c) → pos 0 ≤ℤ coordinate a c
  full_not_negative a c full = ⊎_elim {C = pos 0 ≤ℤ coordinate a c}
      (λ at. let low = (between_members (coordinates a) (at.0 a) (coordinate a c) (at.1 a)).0 in
      let from = are.not_negative a low.0 low.1 in omega (arith, ints, low.2))
      (λ none. absurd (both_ways (is_full s c) (union.outside c none) full))
      (in_grid_or_not coordinates are.ascends c)

  far_not_negative : (a : Axis) (far : ℤ) → IsFarEnd (is_full s) a far → pos 0 ≤ℤ far
  far_not_negative a far end =
      let c = end.reached in
      let from = full_not_negative a c.0 c.1 in
      omega (arith, ints, c.2)

  lines_not_negative : Each IsNotNegative (sheet_lines far_x far_z d)
  lines_not_negative = each_line IsNotNegative far_x far_z d (λ v upright r k.
      let place = place_not_negative far_x far_z v (far_not_negative X far_x sheet.right) (far_not_negative Z far_z sheet.up) in
      let on = begins_on_grid coordinates are.ascends (solid_drawing s) (union_on_grid coordinates are.ascends chosen s union)
      v upright (runs_along upright (of_view v d)) (sheet.runs.runs v upright) (shows v upright) r k in
      run_line_not_negative v upright (right_on_sheet far_x v) (up_on_sheet far_z v) r (each-at IsRun _ r (sheet.runs.runs v upright).0 k)
      place.0 place.1 (are.not_negative _ r.from on.0) (are.not_negative _ r.at on.1))

module _ (g : GridParts) (is : IsGrid g) (chosen : List Bool) (s : List Cell) (union : IsUnionOf (coordinates_of g) chosen (is_full s))
    (far_x far_z : ℤ) (d : DrawingRuns) (sheet : IsSheetOf s far_x far_z d) where
  pub few_on_grid : length (sheet_lines far_x far_z d) ≤ 24576
  few_on_grid = few_lines (coordinates_of g) (grid_coordinates g is) chosen s union far_x far_z d sheet

  pub not_negative_on_grid : Each IsNotNegative (sheet_lines far_x far_z d)
  not_negative_on_grid = lines_not_negative (coordinates_of g) (grid_coordinates g is) chosen s union far_x far_z d sheet
