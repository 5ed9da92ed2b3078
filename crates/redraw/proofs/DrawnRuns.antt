-- The runs of a grid whose segments have the styles of a drawing show the drawing, which stays on the grid.
use Rattle.std.proofs.Common.{◌≡◌, ⊎_elim, Bool, true, false, ℕ, ◌+◌, ◌-◌, ◌*◌, ◌<◌, List, [], ◌∷◌, length, map, ℤ, pos, ◌-ℤ◌, ◌≤ℤ◌, ◌<ℤ◌, IsTrue, refl, sym, ap, subst, ◌∙◌, arith}
use Rattle.std.proofs.lemmas.Int.{ints}
use Rattle.std.proofs.lemmas.List.{length-map}
use Rattle.solid_model.specs.declared.cell.Axis.{Axis}
use Rattle.solid_model.specs.declared.cell.Axis.TheVariants.{X, Y, Z}
use Rattle.solid_model.specs.declared.cell.Cell.{Cell}
use Rattle.solid_model.specs.declared.frame.View.{View}
use Rattle.solid_model.specs.declared.frame.View.TheVariants.{Front}
use Rattle.solid_model.specs.declared.runs.Run.{Run}
use Rattle.solid_model.specs.declared.segment.Segment.{Segment}
use Rattle.solid_model.specs.declared.segment.Style.{Style}
use Rattle.solid_model.specs.Cells.{IsSolid, is_full}
use Rattle.solid_model.specs.DrawnStyle.{solid_drawing}
use Rattle.solid_model.specs.Frames.{frame_of, along, across}
use Rattle.solid_model.specs.Grid.{Coordinates, is_in_gap, IsUnionOf}
use Rattle.solid_model.specs.Limits.{farthest_in_view}
use Rattle.lemmas.specs.Lists.{Member, Each, Ascends}
use Rattle.solid_model.specs.Panels.{starts_of, PanelsStyles, styles_along, AreGridStyles, GridParts, coordinates_of, IsGrid}
use Rattle.solid_model.specs.PerView.{of_view}
use Rattle.solid_model.proofs.OnGrid.{StaysOnGrid}
use Rattle.solid_model.specs.Runs.{run_style, IsRun, DrawingRuns, runs_along, style_in}
use Rattle.solid_model.specs.Segments.{segment_at}
use Rattle.solid_model.proofs.Corners.{length-starts_of}
use Rattle.solid_model.proofs.Fullness.{full_cell_of}
use Rattle.solid_model.proofs.Gaps.{member, lies_in, begins_gap}
use Rattle.solid_model.proofs.GridStyle.{style_on_grid, grid_style-drawing}
use Rattle.solid_model.proofs.InGrid.{gap_or_none, between_members}
use Rattle.lemmas.proofs.ListPlaces.{member-place}
use Rattle.lemmas.proofs.Lists.{each-at, each-from}
use Rattle.lemmas.proofs.Concatenations.{length-equal_parts}
use Rattle.solid_model.proofs.SameOnGrid.{member_or_not}
use Rattle.solid_model.proofs.SomeGrid.{coordinate_near}
use Rattle.solid_model.proofs.UnionDrawing.{union_on_grid}
use Rattle.solid_model.proofs.Unions.{some_union}
use Rattle.redraw.specs.Files.{AreRunsOf, IsFarEnd, IsFileOf}
use Rattle.redraw.specs.GridRuns.{cell_style, AreRunsOn, HasDrawing, AreRunsAlong, IsUpTo, IsNearRun, last_line, sheet_text}
use Rattle.redraw.proofs.FarEnds.{farthest_line-is_far_end, some_drawn, last_line-is_farthest}
use Rattle.redraw.proofs.LastRuns.{run_style-drawn}

-- ---- how many styles there are

-- a grid's segments of a view and kind: so many in each line
pub drawn_count : (drawing : Segment → Style) (coordinates : Coordinates) (panels : PanelsStyles) → AreGridStyles drawing coordinates panels → (v : View) (upright : Bool)
    → length (styles_along upright (of_view v panels))
    ≡ length (coordinates (across (frame_of v) upright).axis) * (length (coordinates (along (frame_of v) upright).axis) - 1)
drawn_count drawing coordinates panels styles v upright =
    let starts = starts_of (coordinates (along (frame_of v) upright).axis) in
    ap length (styles v upright) ∙ length-equal_parts (λ line. map (λ start. drawing (segment_at v upright start line)) starts) _
    (λ line. length-map starts (λ start. drawing (segment_at v upright start line)) ∙ length-starts_of (coordinates (along (frame_of v) upright).axis))
    (coordinates (across (frame_of v) upright).axis)

-- ---- where the runs lie

-- all of them are near
abbrev pub AreNear : List ℤ → Type 0
AreNear zs = (z : ℤ) → Member zs z → IsUpTo farthest_in_view z

pub grid_near : (g : GridParts) → IsGrid g → (a : Axis) → AreNear (coordinates_of g a)
grid_near g (drawing, is, grid) a z k = coordinate_near drawing is a z (((grid.coordinates a).exact z).0 k)

-- a grid's coordinates ascend
pub grid_ascends : (g : GridParts) → IsGrid g → (a : Axis) → Ascends ◌<ℤ◌ (coordinates_of g a)
grid_ascends g (drawing, is, grid) a = (grid.coordinates a).ordered

-- what is drawn lies on the lines and between the ends, so the runs do
pub near_runs : (lines ends : List ℤ) → Ascends ◌<ℤ◌ ends → AreNear lines → AreNear ends → (styles : List Style) (rs : List Run) → AreRunsOn lines ends styles rs → Each IsNearRun rs
near_runs lines ends ascends near_lines near_ends styles rs on = each-from IsNearRun rs near
  where
    -- the unit length that begins at a place of a run lies near
    drawn_near : (r : Run) → Member rs r → (z : ℤ) → r.from ≤ℤ z → z <ℤ r.to → (pos 0 ≤ℤ z) × (z <ℤ farthest_in_view)
    drawn_near r k z from to = ⊎_elim
        (λ gap.
        let ends_of_gap = between_members ends gap.0 z gap.1 in
        let low = near_ends ends_of_gap.0.0 ends_of_gap.0.1 in
        let high = near_ends ends_of_gap.1.0 ends_of_gap.1.1 in
        (omega (arith, ints, low.0, ends_of_gap.0.2), omega (arith, ints, high.1, ends_of_gap.1.2)))
        (λ none. absurd (run_style-drawn rs on.are_runs r k z from to (on.off_ends r.at z none)))
        (gap_or_none ends ascends z)

    line_near : (r : Run) → Member rs r → r.from <ℤ r.to → IsUpTo farthest_in_view r.at
    line_near r k long = ⊎_elim (near_lines r.at)
        (λ none. absurd (run_style-drawn rs on.are_runs r k r.from (omega (arith, ints)) long (on.off_lines r.at r.from none)))
        (member_or_not lines r.at)

    near : (r : Run) → Member rs r → IsNearRun r
    near r k =
        let long = (each-at IsRun rs r on.are_runs.0 k).0 in
        let at = line_near r k long in
        let first = drawn_near r k r.from (omega (arith, ints)) long in
        let last = drawn_near r k (r.to -ℤ pos 1) (omega (arith, ints)) (omega (arith, ints)) in
        record {
          at = at;
          from = (first.0, omega (arith, ints, first.1));
          to = (omega (arith, ints, first.0), omega (arith, ints, last.1));
        }

-- the last one's line is near
pub near_last : (rs : List Run) → Each IsNearRun rs → IsUpTo farthest_in_view (last_line rs)
near_last [] near = (omega (arith, ints), omega (arith, ints))
near_last (r ∷ []) near = near.0.at
near_last (r ∷ q ∷ rs) near = near_last (q ∷ rs) near.1

-- ---- what they show

-- the style of a cell of a line is what is drawn from its beginning
abbrev IsStyleOfCell : (Segment → Style) → Coordinates → PanelsStyles → View → Bool → ℕ → ℕ → Type 0
IsStyleOfCell drawing coordinates panels v upright line cell =
    cell_style (styles_along upright (of_view v panels)) (line * (length (coordinates (along (frame_of v) upright).axis) - 1) + cell)
    ≡ drawing (segment_at v upright (member (coordinates (along (frame_of v) upright).axis) cell) (member (coordinates (across (frame_of v) upright).axis) line))

abbrev IsCell : Coordinates → View → Bool → ℕ → ℕ → Type 0
IsCell coordinates v upright line cell = (line < length (coordinates (across (frame_of v) upright).axis))
    × (cell < length (coordinates (along (frame_of v) upright).axis) - 1)

cell_of_grid : (drawing : Segment → Style) (g : GridParts) → AreGridStyles drawing (coordinates_of g) g.panels → (v : View) (upright : Bool) (line cell : ℕ)
    → IsCell (coordinates_of g) v upright line cell → IsStyleOfCell drawing (coordinates_of g) g.panels v upright line cell
cell_of_grid drawing g styles v upright line cell (at_line, at_cell) =
    style_on_grid line (length (coordinates_of g (across (frame_of v) upright).axis) - 1) cell _ _ (omega arith) at_cell
    ∙ grid_style-drawing drawing g styles v upright line cell at_line at_cell

-- the grid with these coordinates and styles
abbrev grid_with : Coordinates → PanelsStyles → GridParts
grid_with coordinates panels = record { xs = coordinates X; ys = coordinates Y; zs = coordinates Z; panels = panels }

its_coordinates : (coordinates : Coordinates) (panels : PanelsStyles) (a : Axis) → coordinates_of (grid_with coordinates panels) a ≡ coordinates a
its_coordinates coordinates panels X = refl
its_coordinates coordinates panels Y = refl
its_coordinates coordinates panels Z = refl

cell_drawn : (drawing : Segment → Style) (coordinates : Coordinates) (panels : PanelsStyles) → AreGridStyles drawing coordinates panels → (v : View) (upright : Bool) (line cell : ℕ)
    → IsCell coordinates v upright line cell → IsStyleOfCell drawing coordinates panels v upright line cell
cell_drawn drawing coordinates panels =
    subst (λ (cs : Coordinates). AreGridStyles drawing cs panels → (v : View) (upright : Bool) (line cell : ℕ) → IsCell cs v upright line cell
    → IsStyleOfCell drawing cs panels v upright line cell)
    (λ t a. its_coordinates coordinates panels a t) (cell_of_grid drawing (grid_with coordinates panels))

module _ (coordinates : Coordinates) (ascends : (a : Axis) → Ascends ◌<ℤ◌ (coordinates a)) (panels : PanelsStyles) (drawing : Segment → Style)
    (stays : StaysOnGrid coordinates drawing) (styles : AreGridStyles drawing coordinates panels) (v : View) (upright : Bool) where
  abbrev lines : List ℤ
  lines = coordinates (across (frame_of v) upright).axis

  abbrev ends : List ℤ
  ends = coordinates (along (frame_of v) upright).axis

  module _ (rs : List Run) (on : AreRunsOn lines ends (styles_along upright (of_view v panels)) rs) where
    -- in a cell of a line
    show_in_cell : (line cell : ℕ) (z : ℤ) → line < length lines → IsTrue (is_in_gap ends cell z) → run_style rs (member lines line) z ≡ drawing (segment_at v upright z (member lines line))
    show_in_cell line cell z within gap =
        let lies = (lies_in ends cell z gap).within in
        on.shown line cell z within gap
        ∙ cell_drawn drawing coordinates panels styles v upright line cell (within, omega arith)
        ∙ stays.steady v upright cell (member ends cell) z (member lines line) (begins_gap ends (ascends (along (frame_of v) upright).axis) cell lies) gap

    -- and so everywhere
    pub show_drawing : (j z : ℤ) → run_style rs j z ≡ drawing (segment_at v upright z j)
    show_drawing j z = ⊎_elim on_line
        (λ none. on.off_lines j z none ∙ sym (stays.off_lines v upright z j none))
        (member_or_not lines j)
      where
        on_line : Member lines j → run_style rs j z ≡ drawing (segment_at v upright z j)
        on_line k =
            let at = member-place lines j k in
            ⊎_elim
            (λ gap. subst (λ l. run_style rs l z ≡ drawing (segment_at v upright z l)) (at.2 (pos 0)) (show_in_cell at.0 gap.0 z at.1 gap.1))
            (λ none. on.off_ends j z none ∙ sym (stays.off_ends v upright z j none))
            (gap_or_none ends (ascends (along (frame_of v) upright).axis) z)

module _ (coordinates : Coordinates) (ascends : (a : Axis) → Ascends ◌<ℤ◌ (coordinates a)) (panels : PanelsStyles) (drawing : Segment → Style)
    (stays : StaysOnGrid coordinates drawing) (styles : AreGridStyles drawing coordinates panels) (d : DrawingRuns)
    (on : (v : View) (upright : Bool) → AreRunsOn (coordinates (across (frame_of v) upright).axis) (coordinates (along (frame_of v) upright).axis)
    (styles_along upright (of_view v panels)) (runs_along upright (of_view v d))) where
  -- in all views
  pub show_in_views : (v : View) (upright : Bool) (j z : ℤ) → run_style (runs_along upright (of_view v d)) j z ≡ drawing (segment_at v upright z j)
  show_in_views v upright = show_drawing coordinates ascends panels drawing stays styles v upright _ (on v upright)

  pub runs_shown : AreRunsOf drawing d
  runs_shown = record {
    runs = λ v upright. (on v upright).are_runs;
    show = λ h. by h.view h.upright h.right h.up;
  }
    where
      by : (v : View) (upright : Bool) (right up : ℤ) → style_in d (record { view = v; upright = upright; right = right; up = up })
          ≡ drawing (record { view = v; upright = upright; right = right; up = up })
      by v true right up = show_in_views v true right up
      by v false right up = show_in_views v false up right

-- ---- the sheet of a union of grid cells

module _ (g : GridParts) (panels : PanelsStyles) (chosen : List Bool) (s : List Cell) (union : IsUnionOf (coordinates_of g) chosen (is_full s))
    (styles : AreGridStyles (solid_drawing s) (coordinates_of g) panels) (d : DrawingRuns)
    (along_all : (v : View) (upright : Bool) → AreRunsAlong g panels v upright (runs_along upright (of_view v d))) where
  ascends : (a : Axis) → Ascends ◌<ℤ◌ (coordinates_of g a)
  ascends = grid_ascends g (along_all Front true).grid

  stays : StaysOnGrid (coordinates_of g) (solid_drawing s)
  stays = union_on_grid (coordinates_of g) ascends chosen s union

  -- how far it reaches across the segments of a kind
  far_end_of_solid : IsSolid s → (v : View) (upright : Bool) → IsFarEnd (is_full s) (across (frame_of v) upright).axis (last_line (runs_along upright (of_view v d)))
  far_end_of_solid solid v upright =
      let full = full_cell_of s solid in
      let drawn = some_drawn v upright s full.0 full.1 in
      farthest_line-is_far_end v upright s full.0 full.1 _
      (last_line-is_farthest (solid_drawing s) v upright _ (along_all v upright).on.are_runs
      (show_in_views (coordinates_of g) ascends panels (solid_drawing s) stays styles d (λ w kind. (along_all w kind).on) v upright) drawn.0 drawn.1 drawn.2)

  -- its file
  pub file_of_solid : IsSolid s → (decimals : ℕ) → IsFileOf decimals s (sheet_text decimals d)
  file_of_solid solid decimals = (
    last_line d.front.upright,
    last_line d.front.level,
    d,
    record { runs = runs_shown (coordinates_of g) ascends panels (solid_drawing s) stays styles d (λ w kind. (along_all w kind).on); right = far_end_of_solid solid Front true; up = far_end_of_solid solid Front false },
    refl,
  )

-- each choice of a grid's cells has a set of unit cells, and so a drawing
pub some_drawing : (g : GridParts) (panels : PanelsStyles) (chosen : List Bool)
    → ((s : List Cell) → IsUnionOf (coordinates_of g) chosen (is_full s) → AreGridStyles (solid_drawing s) (coordinates_of g) panels) → HasDrawing g panels
some_drawing g panels chosen drawn grid =
    let s = some_union (coordinates_of g) (grid_ascends g grid) chosen in
    (solid_drawing s.0, drawn s.0 s.1)
