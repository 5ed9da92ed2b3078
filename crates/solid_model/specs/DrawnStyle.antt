-- The style that the drawing of a solid gives a segment, computed: an edge stands at the near or the far side of a full
-- cell, so finitely many depths are looked at.
use Rattle.std.specs.Prelude.{Bool, not, ◌&&◌, List, map, ◌++◌, ℤ, pos, ◌+ℤ◌, int_lt, if◌then◌else◌}
use Rattle.std.specs.List.{list_any}
use Rattle.solid_model.specs.declared.cell.Cell.{Cell}
use Rattle.solid_model.specs.declared.frame.Frame.{Frame}
use Rattle.solid_model.specs.declared.frame.View.{View}
use Rattle.solid_model.specs.declared.segment.Segment.{Segment}
use Rattle.solid_model.specs.declared.segment.Style.{Style}
use Rattle.solid_model.specs.declared.segment.Style.TheVariants.{Blank, Dashed, Solid}
use Rattle.solid_model.specs.Boxes.{place_of}
use Rattle.solid_model.specs.Cells.{is_full}
use Rattle.solid_model.specs.Draws.{has_edge, is_inside}
use Rattle.solid_model.specs.Frames.{frame_of}
use Rattle.solid_model.specs.Segments.{segment_at}

-- the depths of a solid's cells in a frame
abbrev pub cell_depths : Frame → List Cell → List ℤ
cell_depths f s = map (place_of f.away) s

-- the depths of their near and far sides
abbrev pub side_depths : Frame → List Cell → List ℤ
side_depths f s = cell_depths f s ++ map (λ k. k +ℤ pos 1) (cell_depths f s)

-- depth n is nearer than k and the sight line is inside there
abbrev pub hides : Frame → List Cell → Segment → ℤ → ℤ → Bool
hides f s g k n = int_lt n k && is_inside f (is_full s) g n

-- an edge at depth k is hidden at the depth of some cell
abbrev pub is_hidden : Frame → List Cell → Segment → ℤ → Bool
is_hidden f s g k = list_any (hides f s g k) (cell_depths f s)

-- an edge at depth k projects on the segment, and isn't hidden
abbrev pub is_seen : Frame → List Cell → Segment → ℤ → Bool
is_seen f s g k = has_edge f (is_full s) g k && not (is_hidden f s g k)

-- the style that the solid's drawing in a frame gives the segment
abbrev pub drawn_style : Frame → List Cell → Segment → Style
drawn_style f s g = if list_any (is_seen f s g) (side_depths f s) then Solid
    else (if list_any (has_edge f (is_full s) g) (side_depths f s) then Dashed else Blank)

-- the drawing of a solid in three views, computed
abbrev pub solid_drawing : List Cell → Segment → Style
solid_drawing s g = drawn_style (frame_of g.view) s g

-- the styles that a drawing gives the level, or the upright, segments of a view on a line: one for each place at which a segment
-- begins
abbrev pub line_styles : (Segment → Style) → View → Bool → List ℤ → ℤ → List Style
line_styles drawing v upright starts line = map (λ start. drawing (segment_at v upright start line)) starts

-- and on some lines: a list for each
abbrev pub segment_styles : (Segment → Style) → View → Bool → List ℤ → List ℤ → List (List Style)
segment_styles drawing v upright lines starts = map (line_styles drawing v upright starts) lines
