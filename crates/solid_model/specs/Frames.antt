-- How the views stand in space. Left, rear and bottom views are further frames, with directions that run backward.
use Rattle.std.specs.Prelude.{Bool, true, false, ℕ, List, ℤ, pos, neg_ℤ, ◌-ℤ◌, codes, if◌then◌else◌}
use Rattle.solid_model.specs.declared.cell.Axis.{Axis}
use Rattle.solid_model.specs.declared.cell.Axis.TheVariants.{X, Y, Z}
use Rattle.solid_model.specs.declared.cell.Cell.{Cell}
use Rattle.solid_model.specs.declared.frame.Direction.{Direction}
use Rattle.solid_model.specs.declared.frame.Frame.{Frame}
use Rattle.solid_model.specs.declared.frame.View.{View}
use Rattle.solid_model.specs.declared.frame.View.TheVariants.{Front, Top, Side}
use Rattle.solid_model.specs.Cells.{placed}
use Rattle.solid_model.specs.Edges.{AreAcross}

-- along the axis, as its coordinate rises
abbrev pub forward : Axis → Direction
forward a = record { axis = a; forward = true }

-- along the axis, as its coordinate falls
abbrev pub backward : Axis → Direction
backward a = record { axis = a; forward = false }

-- The three directions of a frame run along the three axes; each sense is free.
abbrev pub IsFrame : Frame → Type 0
IsFrame f = AreAcross f.away.axis f.right.axis f.up.axis

-- Third-angle views. The front is seen along y, the top from above, the right side from the greatest x.
abbrev pub frame_of : View → Frame
frame_of Front = record { right = forward X; up = forward Z; away = forward Y }
frame_of Top = record { right = forward X; up = forward Y; away = backward Z }
frame_of Side = record { right = forward Y; up = forward Z; away = backward X }

-- the layer on which a view is drawn
abbrev pub layer_name : View → List ℕ
layer_name Front = codes "FRONT"
layer_name Top = codes "TOP"
layer_name Side = codes "SIDE"

-- the axis' coordinate of the whole point that stands at k along a direction
abbrev pub point_on : Direction → ℤ → ℤ
point_on d k = if d.forward then k else neg_ℤ k

-- the axis' coordinate of the cell that fills k to k + 1 along a direction; backward, it runs from -(k + 1) to -k
abbrev pub cell_on : Direction → ℤ → ℤ
cell_on d k = if d.forward then k else (neg_ℤ k -ℤ pos 1)

-- the direction in which the level, or the upright, segments of a view run
abbrev pub along : Frame → Bool → Direction
along f upright = if upright then f.up else f.right

-- the view's other direction, across them
abbrev pub across : Frame → Bool → Direction
across f upright = if upright then f.right else f.up

-- the cell, or the point, with these coordinates along three axes
abbrev pub at_places : Axis → ℤ → Axis → ℤ → Axis → ℤ → Cell
at_places a i b j c k = placed a i (placed b j (placed c k (record { x = pos 0; y = pos 0; z = pos 0 })))
