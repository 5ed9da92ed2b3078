-- Boundary rectangles of the marks on a grid's cells are of the grid; and such marks tell the fullness of its cells.
use Rattle.std.proofs.Common.{◌≡◌, ◌-◌, ◌≤◌, true, ℤ, pos, ◌<ℤ◌, List, length, sym, subst, arith}
use Rattle.std.proofs.lemmas.Int.{ints}
use Rattle.faces.proofs.PlaneBoundary.{boundary_over}
use Rattle.solid_model.specs.declared.cell.Axis.{Axis}
use Rattle.solid_model.specs.declared.cell.Axis.TheVariants.{X, Y, Z}
use Rattle.solid_model.specs.declared.face.Out.{Out}
use Rattle.solid_model.specs.declared.face.Out.TheVariants.{MinusX, PlusX, MinusY, PlusY, MinusZ, PlusZ}
use Rattle.solid_model.specs.Faces.{outward, right_axis, up_axis, place}
use Rattle.solid_model.specs.Grid.{Coordinates}
use Rattle.solid_model.specs.Limits.{most_grid_coordinates}
use Rattle.lemmas.specs.Lists.{Each}
use Rattle.solid_model.specs.Marks.{BoxMarks, is_marked}
use Rattle.solid_model.specs.PerAxis.{numbers_of}
use Rattle.solid_model.specs.Rounds.{Spot}
use Rattle.solid_model.proofs.BoxCells.{below-bounds}
use Rattle.lemmas.proofs.Lists.{each-weaker}
use Rattle.stl_out.specs.declared.rectangle_corners.Corners.{Corners}
use Rattle.stl_out.specs.declared.rectangle.Rectangle.{Rectangle}
use Rattle.stl_out.specs.Numbered.{IsGridNumber, IsGridPoint, IsOfGrid, corners_of}
use Rattle.stl_out.specs.Rectangles.{AreRectanglesOf, is_boundary_rectangle, square_of}

module _ (m : BoxMarks) (coordinates : Coordinates) (sized : (a : Axis) → numbers_of m.sizes a ≡ length (coordinates a) - 1) where
  of_grid : (r : Rectangle) → is_boundary_rectangle (is_marked m) r ≡ true → IsOfGrid coordinates r
  of_grid r is =
      let over = boundary_over m r.out r.at (square_of r) is in
      let right = below-bounds (numbers_of m.sizes (right_axis r.out)) r.right over.u in
      let up = below-bounds (numbers_of m.sizes (up_axis r.out)) r.up over.v in
      let low = over.plane.low in let high = over.plane.high in let some = over.plane.some in
      let across = sized (outward r.out).axis in
      let rights = sized (right_axis r.out) in
      let ups = sized (up_axis r.out) in
      let right_low = right.0 in let right_high = right.1 in
      let up_low = up.0 in let up_high = up.1 in
      record {
        at = (low, omega (arith, ints, high, some, across));
        left = (right_low, omega (arith, ints, right_high, rights));
        right = (omega (arith, ints, right_low), omega (arith, ints, right_high, rights));
        below = (up_low, omega (arith, ints, up_high, ups));
        above = (omega (arith, ints, up_low), omega (arith, ints, up_high, ups));
      }

  pub all_of_grid : (rs : List Rectangle) → AreRectanglesOf (is_marked m) rs → Each (IsOfGrid coordinates) rs
  all_of_grid rs are = each-weaker (λ r. is_boundary_rectangle (is_marked m) r ≡ true) (IsOfGrid coordinates) rs of_grid are.each

-- a point of a plane of the grid whose numbers along the plane's axes are the grid's is a grid point
pub grid_point : (coordinates : Coordinates) (out : Out) (at : ℤ) (p : Spot) → IsGridNumber (coordinates (outward out).axis) at
    → IsGridNumber (coordinates (right_axis out)) p.u → IsGridNumber (coordinates (up_axis out)) p.v → IsGridPoint coordinates (place out at p)
grid_point coordinates MinusX at p plane right up X = plane
grid_point coordinates MinusX at p plane right up Y = up
grid_point coordinates MinusX at p plane right up Z = right
grid_point coordinates PlusX at p plane right up X = plane
grid_point coordinates PlusX at p plane right up Y = right
grid_point coordinates PlusX at p plane right up Z = up
grid_point coordinates MinusY at p plane right up X = right
grid_point coordinates MinusY at p plane right up Y = plane
grid_point coordinates MinusY at p plane right up Z = up
grid_point coordinates PlusY at p plane right up X = up
grid_point coordinates PlusY at p plane right up Y = plane
grid_point coordinates PlusY at p plane right up Z = right
grid_point coordinates MinusZ at p plane right up X = up
grid_point coordinates MinusZ at p plane right up Y = right
grid_point coordinates MinusZ at p plane right up Z = plane
grid_point coordinates PlusZ at p plane right up X = right
grid_point coordinates PlusZ at p plane right up Y = up
grid_point coordinates PlusZ at p plane right up Z = plane

-- so each corner of a rectangle of the grid is one
pub record AreGridPoints (coordinates : Coordinates) (corners : Corners) : Type 0 where
  pub p : IsGridPoint coordinates corners.p
  pub q : IsGridPoint coordinates corners.q
  pub r : IsGridPoint coordinates corners.r
  pub s : IsGridPoint coordinates corners.s

pub corners_on_grid : (coordinates : Coordinates) (r : Rectangle) (corners : Corners) → corners ≡ corners_of r → IsOfGrid coordinates r
    → AreGridPoints coordinates corners
corners_on_grid coordinates r corners are is = subst (AreGridPoints coordinates) (sym are) (record {
  p = grid_point coordinates r.out r.at _ is.at is.left is.below;
  q = grid_point coordinates r.out r.at _ is.at is.right is.below;
  r = grid_point coordinates r.out r.at _ is.at is.right is.above;
  s = grid_point coordinates r.out r.at _ is.at is.left is.above;
})

-- and its numbers are small
pub small_number : (coordinates : List ℤ) (z : ℤ) → length coordinates ≤ most_grid_coordinates → IsGridNumber coordinates z → z <ℤ pos 1024
small_number coordinates z few (low, high) = omega (arith, ints, few, low, high)
