-- The runs that are made of a layer's columns show what the turned solid draws.
use Rattle.std.proofs.Common.{◌≡◌, Bool, true, false, ℕ, ◌*◌, ◌-◌, List, length, ℤ, ap, sym, subst, ◌∙◌}
use Rattle.solid_model.specs.declared.cell.Axis.{Axis}
use Rattle.solid_model.specs.declared.cell.Cell.{Cell}
use Rattle.solid_model.specs.declared.frame.Direction.{Direction}
use Rattle.solid_model.specs.declared.frame.Frame.{Frame}
use Rattle.solid_model.specs.declared.frame.View.{View}
use Rattle.solid_model.specs.declared.runs.Run.{Run}
use Rattle.solid_model.specs.declared.segment.Segment.{Segment}
use Rattle.solid_model.specs.declared.segment.Style.{Style}
use Rattle.solid_model.specs.Cells.{is_full}
use Rattle.solid_model.specs.DrawnStyle.{solid_drawing}
use Rattle.solid_model.specs.Frames.{frame_of, along, across}
use Rattle.solid_model.specs.Grid.{Coordinates, IsUnionOf, gaps_along}
use Rattle.solid_model.specs.Panels.{PanelsStyles, styles_along}
use Rattle.solid_model.specs.PerView.{of_view}
use Rattle.solid_model.specs.PerAxis.{gaps_of}
use Rattle.solid_model.specs.Runs.{run_style}
use Rattle.solid_model.specs.Segments.{segment_at}
use Rattle.solid_model.proofs.DrawnPanels.{drawn_panels, drawn_panels_are}
use Rattle.solid_model.proofs.Unions.{some_union}
use Rattle.column_lanes.specs.declared.column.Column.{Column}
use Rattle.column_laws.specs.GridPanels.{HasCounts, AreStylesAlong}
use Rattle.columns.specs.ColumnLists.{AreColumns}
use Rattle.redraw.specs.GridRuns.{AreRunsOn}
use Rattle.redraw.proofs.DrawnRuns.{drawn_count, show_drawing}
use Rattle.dxf_entities.specs.declared.layer.Layer.{Layer}
use Rattle.further_views.specs.Further.{view_style}
use Rattle.six_views.specs.SightFrames.{sight_frame}
use Rattle.six_views.specs.Turned.{turned_cells, turned_coordinates, AreTurnedCells}
use Rattle.six_views.proofs.SeenTurned.{some_turned, same_sizes, seen_styles, seen_on_grid}
use Rattle.six_views.proofs.TurnedColumns.{columns_turned}
use Rattle.six_views.proofs.TurnedGrid.{counts-turned}

-- as many gaps lie between a grid's coordinates as between so many
gaps_same : (counts : Axis → ℕ) (coordinates : Coordinates) → HasCounts counts coordinates → gaps_of counts ≡ gaps_along coordinates
gaps_same counts coordinates has = λ t b. sym (has.count b) t - 1

-- columns of the view's frame, on a grid with so many coordinates, are the view's on that grid
pub columns_are : (x : Layer) (counts : Axis → ℕ) (coordinates : Coordinates) → HasCounts counts coordinates → (frame : Frame) (sizes : Axis → ℕ) (chosen : List Bool) (columns : List Column)
    → frame ≡ sight_frame x → sizes ≡ gaps_of counts → AreColumns frame sizes chosen columns → AreColumns (sight_frame x) (gaps_along coordinates) chosen columns
columns_are x counts coordinates has frame sizes chosen columns same_frame same_sizes are =
    subst (λ (n : Axis → ℕ). AreColumns (sight_frame x) n chosen columns) (same_sizes ∙ gaps_same counts coordinates has)
    (subst (λ (f : Frame). AreColumns f sizes chosen columns) same_frame are)

-- the turned places along a direction of the view
pub places_seen : (x : Layer) (coordinates : Coordinates) (which : Frame → Direction) (frame : Frame) (d : Direction) → frame ≡ frame_of x.view → d ≡ which frame
    → turned_coordinates x coordinates d.axis ≡ turned_coordinates x coordinates (which (frame_of x.view)).axis
places_seen x coordinates which frame d same_frame is =
    ap (λ (e : Direction). turned_coordinates x coordinates e.axis) is
    ∙ ap (λ (f : Frame). turned_coordinates x coordinates (which f).axis) same_frame

-- level and upright runs together show what each shows
pub view_seen : (v : View) (drawing : Segment → Style) (level upright : List Run)
    → ((j z : ℤ) → run_style level j z ≡ drawing (segment_at v false z j)) → ((j z : ℤ) → run_style upright j z ≡ drawing (segment_at v true z j))
    → (g : Segment) → g.view ≡ v → view_style (record { level = level; upright = upright }) g ≡ drawing g
view_seen v drawing level upright on_level on_upright g of =
    subst (λ w. view_style (record { level = level; upright = upright }) g ≡ drawing (record { view = w; upright = g.upright; right = g.right; up = g.up })) (sym of)
    (by g.upright g.right g.up)
  where
    by : (kind : Bool) (right up : ℤ) → view_style (record { level = level; upright = upright }) (record { view = v; upright = kind; right = right; up = up })
        ≡ drawing (record { view = v; upright = kind; right = right; up = up })
    by true right up = on_upright right up
    by false right up = on_level up right

module _ (x : Layer) (counts : Axis → ℕ) (coordinates : Coordinates) (has : HasCounts counts coordinates) (columns : List Column) (upright : Bool) (styles : List Style)
    (drawn : (chosen : List Bool) → AreColumns (frame_of x.view) (gaps_of counts) chosen columns → AreStylesAlong counts chosen x.view upright styles) where
  abbrev v : View
  v = x.view

  abbrev grid : Coordinates
  grid = turned_coordinates x coordinates

  abbrev lines : List ℤ
  lines = grid (across (frame_of v) upright).axis

  abbrev ends : List ℤ
  ends = grid (along (frame_of v) upright).axis

  module _ (chosen : List Bool) (are : AreColumns (sight_frame x) (gaps_along coordinates) chosen columns) (s : List Cell) (union : IsUnionOf coordinates chosen (is_full s)) where
    abbrev drawing : Segment → Style
    drawing = solid_drawing (turned_cells x s)

    abbrev panels : PanelsStyles
    panels = drawn_panels drawing grid

    abbrev turned : List Bool
    turned = (some_turned x (gaps_of counts) chosen).0

    are_turned : AreTurnedCells x (gaps_of counts) chosen turned
    are_turned = (some_turned x (gaps_of counts) chosen).1

    sizes : gaps_along coordinates ≡ gaps_of counts
    sizes = sym (same_sizes x counts coordinates has chosen turned are_turned s union)

    -- the styles are those of the turned solid
    styles_seen : styles ≡ styles_along upright (of_view v panels)
    styles_seen =
        seen_styles x counts coordinates has chosen turned are_turned s union upright styles
        (drawn turned (columns_turned x (gaps_of counts) chosen turned are_turned columns (subst (λ (n : Axis → ℕ). AreColumns (sight_frame x) n chosen columns) sizes are)))
        ∙ sym (drawn_panels_are drawing grid v upright)

    -- there are as many as grid segments,
    count_of_union : length styles ≡ length lines * (length ends - 1)
    count_of_union = ap length styles_seen ∙ drawn_count drawing grid panels (drawn_panels_are drawing grid) v upright

    -- and runs that have them show its drawing
    pub runs_seen : (rs : List Run) → AreRunsOn lines ends styles rs → (j z : ℤ) → run_style rs j z ≡ drawing (segment_at v upright z j)
    runs_seen rs on = show_drawing grid (counts-turned x coordinates counts has).ordered panels drawing
        (seen_on_grid x counts coordinates has chosen turned are_turned s union) (drawn_panels_are drawing grid) v upright rs
        (subst (λ xs. AreRunsOn lines ends xs rs) styles_seen on)

  pub count_seen : (chosen : List Bool) × AreColumns (sight_frame x) (gaps_along coordinates) chosen columns → length styles ≡ length lines * (length ends - 1)
  count_seen (chosen, are) = let s = some_union coordinates has.ordered chosen in count_of_union chosen are s.0 s.1
