-- The file of a made solid reads back as the made drawing: no line of its sheet stands far out.
use Rattle.std.proofs.Common.{◌≡◌, ⊎_elim, Bool, true, false, ℕ, List, ℤ, pos, ◌-ℤ◌, ◌≤ℤ◌, ◌<ℤ◌, IsTrue, sym, subst, ◌∙◌, arith}
use Rattle.std.proofs.lemmas.Bool.{both_ways}
use Rattle.std.proofs.lemmas.Int.{ints}
use Rattle.solid_model.specs.declared.cell.Axis.{Axis}
use Rattle.solid_model.specs.declared.cell.Axis.TheVariants.{X, Z}
use Rattle.solid_model.specs.declared.cell.Cell.{Cell}
use Rattle.solid_model.specs.declared.frame.View.{View}
use Rattle.solid_model.specs.declared.frame.View.TheVariants.{Front, Top, Side}
use Rattle.solid_model.specs.declared.runs.Run.{Run}
use Rattle.solid_model.specs.declared.segment.Segment.{Segment}
use Rattle.solid_model.specs.Cells.{coordinate, is_full, IsSolid}
use Rattle.solid_model.specs.Drawings.{drawing_of}
use Rattle.solid_model.specs.DrawnStyle.{solid_drawing}
use Rattle.solid_model.specs.Frames.{frame_of, along}
use Rattle.solid_model.specs.Grid.{Coordinates, IsInSomeGap, IsUnionOf}
use Rattle.lemmas.specs.Lists.{Member, Each, Ascends}
use Rattle.solid_model.specs.Panels.{GridParts, coordinates_of, IsGrid}
use Rattle.solid_model.proofs.OnGrid.{StaysOnGrid}
use Rattle.solid_model.specs.Runs.{IsRun, IsDrawing, DrawingRuns, runs_along, run_style}
use Rattle.solid_model.specs.PerView.{of_view}
use Rattle.solid_model.specs.Segments.{segment_at}
use Rattle.solid_model.proofs.InGrid.{between_members, gap_or_none}
use Rattle.lemmas.proofs.Lists.{each-at, each-from}
use Rattle.solid_model.proofs.RunStyles.{run_stretch, in_runs}
use Rattle.solid_model.proofs.Sheets.{same_style-one}
use Rattle.solid_model.proofs.UnionDrawing.{in_grid_or_not, union_on_grid}
use Rattle.redraw.specs.Files.{IsFarEnd, IsSheetOf, IsFileOf, right_on_sheet, up_on_sheet, run_line, sheet_lines}
use Rattle.redraw.proofs.RunsOnGrid.{begins_on_grid}
use Rattle.redraw.proofs.SheetLines.{run_of_line}
use Rattle.read_back.specs.ReadBack.{IsInReach, ReadsBack}
use Rattle.read_back.proofs.Written.{written_reads_back, drawing_as_it_is}
use Rattle.drawing_maker.specs.Made.{made_solid}
use Rattle.drawing_maker.proofs.MadeGrid.{made_coordinate}
use Rattle.made_laws.proofs.MadeSolid.{made_is_solid, made_is_drawing}
use Rattle.made_laws.proofs.SomeMadeGrid.{made_grid, made_grid_along, made_grid_is_grid, made_grid_union}

-- ---- the line of a run

-- where a view and a run reach no farther than this, their line is within reach
run_line_in_reach : (v : View) (upright : Bool) (right up : ℤ) (r : Run) → IsRun r → right ≤ℤ pos 1010 → up ≤ℤ pos 1010 → r.at ≤ℤ pos 1000 → r.to ≤ℤ pos 1000
    → IsInReach (run_line v upright right up r)
run_line_in_reach v true right up r is h k at to =
    let long = is.0 in record { x0 = omega (arith, ints); y0 = omega (arith, ints); x1 = omega (arith, ints); y1 = omega (arith, ints) }
run_line_in_reach v false right up r is h k at to =
    let long = is.0 in record { x0 = omega (arith, ints); y0 = omega (arith, ints); x1 = omega (arith, ints); y1 = omega (arith, ints) }

-- a view stands 10 beyond the far ends at most
place_in_reach : (far_x far_z : ℤ) (v : View) → far_x ≤ℤ pos 1000 → far_z ≤ℤ pos 1000 → (right_on_sheet far_x v ≤ℤ pos 1010) × (up_on_sheet far_z v ≤ℤ pos 1010)
place_in_reach far_x far_z Front h k = (omega (arith, ints), omega (arith, ints))
place_in_reach far_x far_z Top h k = (omega (arith, ints), omega (arith, ints))
place_in_reach far_x far_z Side h k = (omega (arith, ints), omega (arith, ints))

-- ---- a union of grid cells, where no coordinate is above 1,000

module _ (coordinates : Coordinates) (ascends : (a : Axis) → Ascends ◌<ℤ◌ (coordinates a)) (near : (a : Axis) (z : ℤ) → Member (coordinates a) z → z ≤ℤ pos 1000)
    (chosen : List Bool) (s : List Cell) (union : IsUnionOf coordinates chosen (is_full s)) where
  -- a full cell has a coordinate beyond it
  full_before_last : (a : Axis) (c : Cell) → IsTrue (is_full s c) → coordinate a c <ℤ pos 1000
  full_before_last a c full = ⊎_elim {C = coordinate a c <ℤ pos 1000}
      (λ at. let high = (between_members (coordinates a) (at.0 a) (coordinate a c) (at.1 a)).1 in
      let to = near a high.0 high.1 in omega (arith, ints, high.2))
      (λ none. absurd (both_ways (is_full s c) (union.outside c none) full))
      (in_grid_or_not coordinates ascends c)

  far_end_near : (a : Axis) (far : ℤ) → IsFarEnd (is_full s) a far → far ≤ℤ pos 1000
  far_end_near a far end =
      let c = end.reached in
      let before = full_before_last a c.0 c.1 in
      omega (arith, ints, c.2)

  module _ (far_x far_z : ℤ) (d : DrawingRuns) (sheet : IsSheetOf s far_x far_z d) where
    stays : StaysOnGrid coordinates (solid_drawing s)
    stays = union_on_grid coordinates ascends chosen s union

    module _ (v : View) (upright : Bool) where
      abbrev rs : List Run
      rs = runs_along upright (of_view v d)

      -- the runs show what the solid draws
      shows : (j z : ℤ) → run_style rs j z ≡ solid_drawing s (segment_at v upright z j)
      shows j z = sym (in_runs d v upright z j) ∙ sheet.runs.show (segment_at v upright z j)

      module _ (r : Run) (k : Member rs r) where
        is_run : IsRun r
        is_run = each-at IsRun rs r (sheet.runs.runs v upright).0 k

        -- the last unit length of a run is drawn, so it lies in a gap of the grid
        last_in_gap : IsInSomeGap (coordinates (along (frame_of v) upright).axis) (r.to -ℤ pos 1)
        last_in_gap = ⊎_elim (λ gap. gap) (λ none. absurd (is_run.1 (sym style_there ∙ stays.off_ends v upright (r.to -ℤ pos 1) r.at none)))
            (gap_or_none (coordinates (along (frame_of v) upright).axis) (ascends (along (frame_of v) upright).axis) (r.to -ℤ pos 1))
          where
            style_there : solid_drawing s (segment_at v upright (r.to -ℤ pos 1) r.at) ≡ r.style
            style_there =
                let stretch = run_stretch rs (sheet.runs.runs v upright) r k in
                let long = is_run.0 in
                sym (shows r.at (r.to -ℤ pos 1))
                ∙ sym (same_style-one r.style _ (stretch.inside (r.to -ℤ pos 1) (omega (arith, ints)) (omega (arith, ints))))

        run_ends_near : r.to ≤ℤ pos 1000
        run_ends_near =
            let gap = last_in_gap in
            let high = (between_members (coordinates (along (frame_of v) upright).axis) gap.0 (r.to -ℤ pos 1) gap.1).1 in
            let to = near (along (frame_of v) upright).axis high.0 high.1 in
            omega (arith, ints, high.2)

        line_near : r.at ≤ℤ pos 1000
        line_near = near _ r.at (begins_on_grid coordinates ascends (solid_drawing s) stays v upright rs (sheet.runs.runs v upright) shows r k).1

        line_in_reach : IsInReach (run_line v upright (right_on_sheet far_x v) (up_on_sheet far_z v) r)
        line_in_reach =
            let place = place_in_reach far_x far_z v (far_end_near X far_x sheet.right) (far_end_near Z far_z sheet.up) in
            run_line_in_reach v upright (right_on_sheet far_x v) (up_on_sheet far_z v) r is_run place.0 place.1 line_near run_ends_near

    -- no line of the sheet is out of reach
    sheet_in_reach : Each IsInReach (sheet_lines far_x far_z d)
    sheet_in_reach = each-from IsInReach (sheet_lines far_x far_z d) (λ l k.
        let of_run = run_of_line far_x far_z d l k in
        let m = of_run.2 in
        subst IsInReach m.is (line_in_reach of_run.0 of_run.1 m.run m.listed))

-- ---- what is read back

-- the drawing that a text reads back as is the solid's own
abbrev ReadsBackAsDrawn : List Cell → List ℕ → Type 0
ReadsBackAsDrawn s text = (back : ReadsBack 0 s text) × ((segment : Segment) → drawing_of back.lines segment ≡ solid_drawing s segment)

-- the file of a union of grid cells reads back, where no coordinate is above 1,000 and each view of the drawing begins at 0
near_file_reads_back : (g : GridParts) → IsGrid g → ((a : Axis) (z : ℤ) → Member (coordinates_of g a) z → z ≤ℤ pos 1000)
    → (chosen : List Bool) (s : List Cell) → IsSolid s → IsUnionOf (coordinates_of g) chosen (is_full s) → IsDrawing (solid_drawing s)
    → (text : List ℕ) → IsFileOf 0 s text → ReadsBackAsDrawn s text
near_file_reads_back g is near chosen s solid union drawing text (far_x, far_z, d, sheet, same) =
    let reach = sheet_in_reach (coordinates_of g) (λ a. (is.2.coordinates a).ordered) near chosen s union far_x far_z d sheet in
    let back = subst (ReadsBack 0 s) (sym same) (written_reads_back 0 (omega arith) g is chosen s solid union far_x far_z d sheet reach) in
    (back, drawing_as_it_is 0 s text drawing back)

-- no coordinate of a made grid is above 1,000
made_grid_near : (n : ℕ) (a : Axis) (z : ℤ) → Member (coordinates_of (made_grid n) a) z → z ≤ℤ pos 1000
made_grid_near n a z k = (made_coordinate n z (subst (λ zs. Member zs z) (made_grid_along n a) k)).1

-- the file of a made solid reads back as the made drawing
pub made_file_reads_back : (n : ℕ) (text : List ℕ) → IsFileOf 0 (made_solid n) text → ReadsBackAsDrawn (made_solid n) text
made_file_reads_back n = near_file_reads_back (made_grid n) (made_grid_is_grid n) (made_grid_near n) _
    (made_solid n) (made_is_solid n) (made_grid_union n) (made_is_drawing n)
