-- Unit segments of a view: where each begins, on which line it lies, and where it ends.
use Rattle.std.specs.Prelude.{Bool, ℤ, pos, ◌+ℤ◌, if◌then◌else◌}
use Rattle.solid_model.specs.declared.frame.View.{View}
use Rattle.solid_model.specs.declared.segment.Segment.{Segment}

-- of what goes to the right and what goes upwards in a view, say a point's coordinates: what goes along its level, or its
-- upright, segments
abbrev pub along_of : {A : Type 0} → Bool → A → A → A
along_of upright x y = if upright then y else x

-- and what goes across them
abbrev pub across_of : {A : Type 0} → Bool → A → A → A
across_of upright x y = if upright then x else y

-- where a segment begins along the way it runs
abbrev pub start_of : Segment → ℤ
start_of g = along_of g.upright g.right g.up

-- on which line it lies, across the way it runs
abbrev pub line_of : Segment → ℤ
line_of g = across_of g.upright g.right g.up

-- the segment of a view that begins at `start` along its way, on the line `line` across it
abbrev pub segment_at : View → Bool → ℤ → ℤ → Segment
segment_at v upright start line = record { view = v; upright = upright; right = across_of upright line start; up = along_of upright line start }

-- the right coordinate of a segment's far end
abbrev pub far_right : Segment → ℤ
far_right g = if g.upright then g.right else (g.right +ℤ pos 1)

-- and its up coordinate
abbrev pub far_up : Segment → ℤ
far_up g = if g.upright then (g.up +ℤ pos 1) else g.up

-- the segment that stands so much farther to the right and upwards
abbrev pub farther : ℤ → ℤ → Segment → Segment
farther right up g = record g { right = g.right +ℤ right; up = g.up +ℤ up }
