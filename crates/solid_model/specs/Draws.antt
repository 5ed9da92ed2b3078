-- The drawing of a solid in a frame: its edges, projected, as in Wesley and Markowsky, "Fleshing Out Projections" (1981).
-- Of a segment only its kind and its place are looked at, whichever view it is of.
use Rattle.std.specs.Prelude.{◌≡◌, Bool, ◌&&◌, ℤ, ◌<ℤ◌, IsTrue}
use Rattle.solid_model.specs.declared.cell.Cell.{Cell}
use Rattle.solid_model.specs.declared.frame.Frame.{Frame}
use Rattle.solid_model.specs.declared.frame.View.{View}
use Rattle.solid_model.specs.declared.segment.Segment.{Segment}
use Rattle.solid_model.specs.declared.segment.Style.{Style}
use Rattle.solid_model.specs.declared.segment.Style.TheVariants.{Blank, Dashed, Solid}
use Rattle.solid_model.specs.Columns.{column_after, column_before}
use Rattle.solid_model.specs.Edges.{is_edge}
use Rattle.solid_model.specs.Frames.{point_on, cell_on, along, across, at_places}
use Rattle.solid_model.specs.Segments.{start_of, line_of}

-- the point from which the unit edge that projects on a segment, k units away from depth 0, runs along its axis
abbrev pub edge_point : Frame → Segment → ℤ → Cell
edge_point f g k = at_places
    (along f g.upright).axis (cell_on (along f g.upright) (start_of g))
    (across f g.upright).axis (point_on (across f g.upright) (line_of g))
    f.away.axis (point_on f.away k)

-- at depth k an edge of the solid projects on the segment
abbrev pub has_edge : Frame → (Cell → Bool) → Segment → ℤ → Bool
has_edge f full g k = is_edge full (along f g.upright).axis (edge_point f g k)

-- the sight line through the segment's middle is inside the solid at depth k to k + 1: both cells beside it are full
abbrev pub is_inside : Frame → (Cell → Bool) → Segment → ℤ → Bool
is_inside f full g k = column_after f full g k && column_before f full g k

-- an edge at depth k is hidden: nearer to the viewer the sight line is inside the solid
abbrev pub IsHidden : Frame → (Cell → Bool) → Segment → ℤ → Type 0
IsHidden f full g k = (n : ℤ) × (n <ℤ k) × IsTrue (is_inside f full g n)

-- Blank: no edge projects on the segment. Dashed: one does, and all that do are hidden. Solid: one that isn't hidden does.
abbrev pub Draws : Frame → (Cell → Bool) → Segment → Style → Type 0
Draws f full g Blank = (k : ℤ) → IsTrue (has_edge f full g k) → ⊥
Draws f full g Dashed = ((k : ℤ) × IsTrue (has_edge f full g k)) × ((k : ℤ) → IsTrue (has_edge f full g k) → IsHidden f full g k)
Draws f full g Solid = (k : ℤ) × IsTrue (has_edge f full g k) × (IsHidden f full g k → ⊥)

-- in the frame the solid draws what a drawing shows in a view
abbrev pub DrawsView : Frame → (Cell → Bool) → (Segment → Style) → View → Type 0
DrawsView f full drawing v = (g : Segment) → g.view ≡ v → Draws f full g (drawing g)
