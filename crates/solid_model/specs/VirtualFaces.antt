-- The virtual faces of a grid: the grid faces that the pseudo wire frame closes off, so that they may be faces of a solid.
use Rattle.std.specs.Prelude.{Bool, ◌||◌, IsTrue, if◌then◌else◌}
use Rattle.solid_model.specs.declared.cell.Axis.{Axis}
use Rattle.solid_model.specs.declared.cell.Cell.{Cell}
use Rattle.solid_model.specs.Edges.{second_axis, third_axis}
use Rattle.solid_model.specs.Panels.{GridParts}
use Rattle.solid_model.specs.WalledBoxes.{same_axis, face_sizes, is_within, Walls, LeadsOut}
use Rattle.solid_model.specs.Wire.{is_pseudo_edge}
use Rattle.solid_model.specs.GridBox.{grid_sizes}

-- the axis across two different ones
abbrev pub axis_across_both : Axis → Axis → Axis
axis_across_both a b = if same_axis b (second_axis a) then third_axis a else second_axis a

-- What bars a step from the grid face across an axis a that has the number n to the one before it along an axis b: the grid
-- edge between the two, where it is a pseudo edge. Along a no step stays in the plane.
abbrev pub is_barred : GridParts → Axis → Axis → Cell → Bool
is_barred g a b n = same_axis a b || is_pseudo_edge g (axis_across_both a b) n

-- the same as walls between the faces across a, which are a box of their own
abbrev pub Bars : GridParts → Axis → Walls
Bars g a b n = IsTrue (is_barred g a b n)

-- A virtual face: a grid face across an axis from which no chain of neighbouring grid faces in its plane, each step crossing a
-- grid edge that isn't a pseudo edge, leads out of the box.
abbrev pub IsVirtual : GridParts → Walls
IsVirtual g a n = IsTrue (is_within (face_sizes (grid_sizes g) a) n)
    × (LeadsOut (face_sizes (grid_sizes g) a) (Bars g a) n → ⊥)
