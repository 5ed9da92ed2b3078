-- The faces of marked cells lie on the points between them.
use Rattle.std.proofs.Common.{◌≡◌, Bool, suc, ◌-◌, List, length, ℤ, pos, ◌≤ℤ◌, ◌<ℤ◌, IsTrue, sym, subst, arith}
use Rattle.std.proofs.lemmas.Int.{ints}
use Rattle.solid_model.specs.declared.cell.Axis.{Axis}
use Rattle.solid_model.specs.declared.cell.Axis.TheVariants.{X, Y, Z}
use Rattle.solid_model.specs.declared.cell.Cell.{Cell}
use Rattle.solid_model.specs.declared.face.Out.{Out}
use Rattle.solid_model.specs.declared.face.Out.TheVariants.{MinusX, PlusX, MinusY, PlusY, MinusZ, PlusZ}
use Rattle.solid_model.specs.Faces.{outward, right_axis, up_axis, place, is_boundary, IsLoopOf, FaceParts, IsFaceAt}
use Rattle.solid_model.specs.Grid.{Coordinates}
use Rattle.lemmas.specs.Lists.{Each}
use Rattle.solid_model.specs.Marks.{BoxMarks, is_marked}
use Rattle.solid_model.specs.PerAxis.{numbers_of}
use Rattle.solid_model.specs.Rounds.{Spot, Side, end_of, left_square, is_border, round_sides, round_corners}
use Rattle.face_laws.proofs.BoundarySquares.{border_left}
use Rattle.solid_model.proofs.BoxCells.{below-bounds}
use Rattle.face_laws.proofs.LeastSides.{corners_each}
use Rattle.lemmas.proofs.Lists.{each-map, each-weaker}
use Rattle.face_laws.proofs.SidesInOrder.{member-border}
use Rattle.faces.specs.GridPoints.{HasPoint, HasFace}
use Rattle.faces.proofs.NearCorners.{ends_beside}
use Rattle.faces.proofs.PlaneBoundary.{boundary_over}

module _ (m : BoxMarks) (coordinates : Coordinates) (sized : (a : Axis) → numbers_of m.sizes a ≡ length (coordinates a) - 1) where
  -- a number of the grid along an axis
  abbrev HasNumber : Axis → ℤ → Type 0
  HasNumber a k = (pos 0 ≤ℤ k) × (k <ℤ pos (length (coordinates a)))

  -- a point of a plane has three
  has_point : (out : Out) (at : ℤ) (p : Spot) → HasNumber (outward out).axis at → HasNumber (right_axis out) p.u → HasNumber (up_axis out) p.v
      → HasPoint coordinates (place out at p)
  has_point MinusX at p here right up X = here
  has_point MinusX at p here right up Y = up
  has_point MinusX at p here right up Z = right
  has_point PlusX at p here right up X = here
  has_point PlusX at p here right up Y = right
  has_point PlusX at p here right up Z = up
  has_point MinusY at p here right up X = right
  has_point MinusY at p here right up Y = here
  has_point MinusY at p here right up Z = up
  has_point PlusY at p here right up X = up
  has_point PlusY at p here right up Y = here
  has_point PlusY at p here right up Z = right
  has_point MinusZ at p here right up X = up
  has_point MinusZ at p here right up Y = right
  has_point MinusZ at p here right up Z = here
  has_point PlusZ at p here right up X = right
  has_point PlusZ at p here right up Y = up
  has_point PlusZ at p here right up Z = here

  module _ (out : Out) (at : ℤ) where
    abbrev squares : Spot → Bool
    squares = is_boundary (is_marked m) out at

    -- a plane with a boundary square is one of them
    plane_has_number : (q : Spot) → IsTrue (squares q) → HasNumber (outward out).axis at
    plane_has_number q is =
        let over = boundary_over m out at q is in
        (over.plane.low, omega (arith, ints, over.plane.high, over.plane.some, sized (outward out).axis))

    -- and the end of a border side is on two of them
    corner_has_numbers : (t : Side) → IsTrue (is_border squares t) → HasPoint coordinates (place out at (end_of t))
    corner_has_numbers t border =
        let there = border_left squares t border in
        let over = boundary_over m out at (left_square t) there in
        let u = below-bounds (numbers_of m.sizes (right_axis out)) (left_square t).u over.u in
        let v = below-bounds (numbers_of m.sizes (up_axis out)) (left_square t).v over.v in
        let beside = ends_beside t.heading t.start in
        has_point out at (end_of t) (plane_has_number (left_square t) there)
        (omega (arith, ints, beside.u_low), omega (arith, ints, beside.u_high, sized (right_axis out)))
        (omega (arith, ints, beside.v_low), omega (arith, ints, beside.v_high, sized (up_axis out)))

    loop_has_points : (q : Spot) (loop : List Cell) → IsLoopOf squares (place out at) q loop → Each (HasPoint coordinates) loop
    loop_has_points q loop (s, n, is, joined, e, begins) =
        subst (Each (HasPoint coordinates)) (sym e)
        (each-map (place out at) (HasPoint coordinates) (round_corners squares s n)
        (corners_each squares (λ p. HasPoint coordinates (place out at p)) (round_sides squares s n) (λ t on.
        corner_has_numbers t (member-border squares (suc n) s t is.border on))))

  pub faces_on_grid : (faces : List FaceParts) → Each (λ f. (q : Spot) × IsFaceAt (is_marked m) q f) faces → Each (HasFace coordinates) faces
  faces_on_grid faces are = each-weaker (λ f. (q : Spot) × IsFaceAt (is_marked m) q f) (HasFace coordinates) faces
      (λ f (q, (is, loops)).
      let number = plane_has_number f.out f.at q is in
      record {
        low = number.0;
        high = number.1;
        corners = each-weaker (IsLoopOf (is_boundary (is_marked m) f.out f.at) (place f.out f.at) q) (Each (HasPoint coordinates)) f.loops
            (loop_has_points f.out f.at q) loops.each;
      }) are
