-- Points and faces that are told by the numbers of a grid's coordinates.
use Rattle.std.specs.Prelude.{length, pos, ◌≤ℤ◌, ◌<ℤ◌}
use Rattle.solid_model.specs.declared.cell.Axis.{Axis}
use Rattle.solid_model.specs.declared.cell.Cell.{Cell}
use Rattle.solid_model.specs.Cells.{coordinate}
use Rattle.solid_model.specs.Faces.{outward, FaceParts}
use Rattle.solid_model.specs.Grid.{Coordinates}
use Rattle.lemmas.specs.Lists.{Each}

-- the grid has coordinates of these numbers, counted from 0
abbrev pub HasPoint : Coordinates → Cell → Type 0
HasPoint coordinates p = (a : Axis) → (pos 0 ≤ℤ coordinate a p) × (coordinate a p <ℤ pos (length (coordinates a)))

-- and those of a face's plane and of its corners
pub record HasFace (coordinates : Coordinates) (f : FaceParts) : Type 0 where
  pub low : pos 0 ≤ℤ f.at
  pub high : f.at <ℤ pos (length (coordinates (outward f.out).axis))
  pub corners : Each (Each (HasPoint coordinates)) f.loops
