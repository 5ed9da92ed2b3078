-- What the stages from a grid to its blocks hand on to each other.
use Rattle.std.specs.Prelude.{◌≡◌, suc, IsTrue, if◌then◌else◌, length}
use Rattle.solid_model.specs.declared.cell.Axis.{Axis}
use Rattle.solid_model.specs.Panels.{GridParts}
use Rattle.solid_model.specs.Marks.{AxisMarks, marks_along, AreMarksOf}
use Rattle.solid_model.specs.WalledBoxes.{Sizes, same_axis, face_sizes, box_count, IsEarlier}
use Rattle.solid_model.specs.GridBox.{grid_sizes}
use Rattle.solid_model.specs.Wire.{is_pseudo_edge}
use Rattle.solid_model.specs.VirtualFaces.{IsVirtual}
use Rattle.lemmas.specs.Lists.{Each}
use Rattle.solid_model.specs.PerAxis.{numbers_of, AreFew}
use Rattle.solid_model.specs.Blocks.{BlockNumbers}

-- The edges of a box's cells along an axis are a box too. The edge from the point n, the least corner of the cell n, has the
-- number n too.
abbrev pub edge_sizes : Sizes → Axis → Sizes
edge_sizes sizes a b = if same_axis a b then sizes b else suc (sizes b)

-- what is marked along each axis are the pseudo edges
abbrev pub IsWireOf : GridParts → AxisMarks → Type 0
IsWireOf g wire = (a : Axis) → AreMarksOf (edge_sizes (grid_sizes g) a) (λ n. IsTrue (is_pseudo_edge g a n)) (marks_along a wire)

-- what is marked across each axis are the virtual faces
abbrev pub IsFaceMapOf : GridParts → AxisMarks → Type 0
IsFaceMapOf g faces = (a : Axis) → AreMarksOf (face_sizes (grid_sizes g) a) (IsVirtual g a) (marks_along a faces)

-- each cell has a number or none, and the numbers are below the count
pub record AreNumbers (b : BlockNumbers) : Type 0 where
  pub few : AreFew (numbers_of b.sizes)
  pub listed : length b.numbers ≡ box_count (numbers_of b.sizes)
  pub below : Each (IsEarlier b.count) b.numbers
