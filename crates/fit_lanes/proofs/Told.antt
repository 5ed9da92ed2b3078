-- What the bytes that are drawn of a solid tell of what it shows.
use Rattle.std.proofs.Common.{◌≡◌, ◌↔◌, Bool, true, false, ℕ, suc, ◌+◌, ◌*◌, List, length, IsTrue, ap, subst, ◌∙◌, arith}
use Rattle.std.proofs.Math.Nat.{suc-mul}
use Rattle.solid_model.specs.declared.cell.Cell.{Cell}
use Rattle.solid_model.specs.declared.runs.Run.{Run}
use Rattle.solid_model.specs.declared.segment.Segment.{Segment}
use Rattle.solid_model.specs.declared.segment.Style.{Style}
use Rattle.solid_model.specs.Cells.{is_full}
use Rattle.solid_model.specs.Grid.{IsUnionOf}
use Rattle.solid_model.specs.GridBox.{grid_sizes}
use Rattle.solid_model.specs.DrawnStyle.{solid_drawing}
use Rattle.solid_model.specs.Moved.{BeginsAt}
use Rattle.solid_model.specs.Panels.{GridParts, coordinates_of, IsGrid}
use Rattle.solid_model.specs.WalledBoxes.{Sizes}
use Rattle.solid_model.specs.Runs.{AreRuns, ViewRuns, runs_along}
use Rattle.solid_model.proofs.Gaps.{member}
use Rattle.redraw.proofs.SolidBegins.{begins_beside}
use Rattle.dxf_entities.specs.declared.layer.Layer.{Layer}
use Rattle.six_views.specs.Fits.{ShowsMoved}
use Rattle.further_views.specs.Further.{view_style}
use Rattle.six_views.specs.SightFrames.{sight_frame}
use Rattle.six_views.specs.Turned.{turned_cells}
use Rattle.fit_lanes.specs.Drawn.{DrawsNoLine, IsFirstLine}
use Rattle.fit_lanes.specs.Points.{ArePointBytes}
use Rattle.fit_lanes.specs.Sights.{width, height, AreSeenColumns}
use Rattle.fit_lanes.specs.Tests.{AreDrawn}
use Rattle.fit_lanes.specs.Wanted.{turned_lines, TellRuns, ArePlaced}
use Rattle.fit_lanes.proofs.DrawnBytes.{byte_between, byte_none}
use Rattle.fit_lanes.proofs.GridFacts.{ordered, some}
use Rattle.fit_lanes.proofs.ShownOnGrid.{styles, point_bytes, some_line, full_beside, outermost_at, own_runs, tell_own, shows_where_placed, shows_some}

-- a row more
pub rows_more : (h w : ℕ) → (h + 2) * (w + 1) ≡ (h + 1) * (w + 1) + (w + 1)
rows_more h w =
    let next : h + 2 ≡ suc (h + 1) = omega arith in
    ap (λ n. n * (w + 1)) next ∙ suc-mul (h + 1) (w + 1)

module _ (g : GridParts) (is : IsGrid g) (x : Layer) (chosen : List Bool) (columns : List ℕ) (seen : AreSeenColumns x (grid_sizes g) chosen columns) (s : List Cell)
    (union : IsUnionOf (coordinates_of g) chosen (is_full s)) (bytes : Bool → List ℕ)
    (long : (upright : Bool) → length (bytes upright) ≡ (height x (grid_sizes g) + 1) * (width x (grid_sizes g) + 1))
    (drawn : (upright : Bool) → AreDrawn columns (width x (grid_sizes g) + 1) upright (bytes upright)) where
  abbrev sizes : Sizes
  sizes = grid_sizes g

  abbrev w : ℕ
  w = width x sizes

  abbrev h : ℕ
  h = height x sizes

  module _ (upright : Bool) where
    tell : ArePointBytes w h upright (styles x (coordinates_of g) (ordered g is) (some g is) chosen s union upright) (bytes upright)
    tell = point_bytes x (coordinates_of g) (ordered g is) (some g is) chosen s union upright (bytes upright) (long upright)
        (byte_between x sizes chosen columns seen (bytes upright) (long upright) upright (drawn upright))
        (byte_none x sizes chosen columns seen (bytes upright) (long upright) upright (drawn upright))

    -- where no line is drawn nothing is shown
    pub none_shown : (shown : Segment → Style) → DrawsNoLine w h upright (bytes upright) → ShowsMoved (sight_frame x) (is_full s) shown x.view → ⊥
    none_shown shown none shows =
        let c = shows_some x (coordinates_of g) (ordered g is) (some g is) chosen s union shown shows in
        some_line x (coordinates_of g) (ordered g is) (some g is) chosen s union upright (bytes upright) (long upright)
        (byte_between x sizes chosen columns seen (bytes upright) (long upright) upright (drawn upright))
        (byte_none x sizes chosen columns seen (bytes upright) (long upright) upright (drawn upright)) c.0 c.1 none

    full_there : (line : ℕ) → IsFirstLine w h upright (bytes upright) line → (c : Cell) × (is_full (turned_cells x s) c ≡ true)
    full_there = full_beside x (coordinates_of g) (ordered g is) (some g is) chosen s union upright (bytes upright) (long upright)
        (byte_between x sizes chosen columns seen (bytes upright) (long upright) upright (drawn upright))
        (byte_none x sizes chosen columns seen (bytes upright) (long upright) upright (drawn upright))

  module _ (right up : ℕ) (first_right : IsFirstLine w h true (bytes true) right) (first_up : IsFirstLine w h false (bytes false) up) where
    -- it begins at the first lines that are drawn
    begin : BeginsAt (solid_drawing (turned_cells x s)) x.view (member (turned_lines (coordinates_of g) x true) right) (member (turned_lines (coordinates_of g) x false) up)
    begin =
        let c = full_there true right first_right in
        let left = outermost_at x (coordinates_of g) (ordered g is) (some g is) chosen s union true (bytes true) (long true)
        (byte_between x sizes chosen columns seen (bytes true) (long true) true (drawn true))
        (byte_none x sizes chosen columns seen (bytes true) (long true) true (drawn true)) right first_right c.0 c.1 in
        let bottom = outermost_at x (coordinates_of g) (ordered g is) (some g is) chosen s union false (bytes false) (long false)
        (byte_between x sizes chosen columns seen (bytes false) (long false) false (drawn false))
        (byte_none x sizes chosen columns seen (bytes false) (long false) false (drawn false)) up first_up c.0 c.1 in
        subst (λ r. BeginsAt (solid_drawing (turned_cells x s)) x.view r (member (turned_lines (coordinates_of g) x false) up)) left.1
        (subst (λ u. BeginsAt (solid_drawing (turned_cells x s)) x.view left.0.line u) bottom.1 (begins_beside (turned_cells x s) x.view left.0 bottom.0))

    -- so what they tell is told of it
    pub shows_told : (shown : ViewRuns) → ((upright : Bool) → AreRuns (runs_along upright shown)) → (told : Bool)
        → ((level upright : List Run) → TellRuns (coordinates_of g) x false (bytes false) level → TellRuns (coordinates_of g) x true (bytes true) upright
        → IsTrue told ↔ (ArePlaced (coordinates_of g) x shown right up false level × ArePlaced (coordinates_of g) x shown right up true upright))
        → IsTrue told ↔ ShowsMoved (sight_frame x) (is_full s) (view_style shown) x.view
    shows_told shown kept told tells =
        let placed = shows_where_placed x (coordinates_of g) (ordered g is) (some g is) chosen s union shown kept right up begin in
        let own = own_runs x (coordinates_of g) (ordered g is) (some g is) chosen s union shown kept right up begin in
        let own_tell = tell_own x (coordinates_of g) (ordered g is) (some g is) chosen s union shown kept right up begin in
        let both = tells (runs_along false own.own) (runs_along true own.own) (own_tell false (bytes false) (tell false)) (own_tell true (bytes true) (tell true)) in
        ((λ yes. placed.0 (both.0 yes)), (λ shows. both.1 (placed.1 shows)))
