-- At a side of a boundary square there is an edge of the solid exactly where the face doesn't go on beyond it.
use Rattle.std.proofs.Common.{◌≡◌, Bool, true, false, not, ◌&&◌, ℤ, IsTrue, refl, ◌∙◌}
use Rattle.std.proofs.lemmas.Bool.{false≢true}
use Rattle.solid_model.specs.declared.cell.Cell.{Cell}
use Rattle.solid_model.specs.declared.face.Out.{Out}
use Rattle.solid_model.specs.declared.face.Out.TheVariants.{MinusX, PlusX, MinusY, PlusY, MinusZ, PlusZ}
use Rattle.solid_model.specs.Edges.{is_edge_of, is_edge}
use Rattle.solid_model.specs.Faces.{right_axis, up_axis, place, inner_cell, outer_cell, is_boundary}
use Rattle.solid_model.specs.Rounds.{Spot, West, South, spot_after}
use Rattle.solid_model.proofs.Views.{is_edge_of_turned, is_edge_of_flipped, is_edge_of_mirrored}

-- ---- the edge between two squares

-- Where the first two cells are those at a boundary square, there is an edge unless the others are so too.
edge_unless : (a b c d : Bool) → (a && not b) ≡ true → is_edge_of a b c d ≡ not (c && not d)
edge_unless false b c d e = absurd (false≢true e)
edge_unless true true c d e = absurd (false≢true e)
edge_unless true false true true e = refl
edge_unless true false true false e = refl
edge_unless true false false true e = refl
edge_unless true false false false e = refl

module _ (full : Cell → Bool) (at : ℤ) (q : Spot) where
  -- what the cells at two squares make of the edge between them
  abbrev between : Out → Spot → Bool
  between out p = is_edge_of (full (inner_cell out at q)) (full (outer_cell out at q)) (full (inner_cell out at p))
      (full (outer_cell out at p))

  abbrev below : Spot
  below = spot_after South q

  abbrev before : Spot
  before = spot_after West q

  -- the edge below a square is between it and the one below
  edge_below : (out : Out) → is_edge full (right_axis out) (place out at q) ≡ between out below
  edge_below MinusX = refl
  edge_below PlusX = is_edge_of_turned (full (outer_cell PlusX at q)) (full (outer_cell PlusX at below)) (full (inner_cell PlusX at q))
      (full (inner_cell PlusX at below))
      ∙ is_edge_of_mirrored (full (outer_cell PlusX at q)) (full (inner_cell PlusX at q)) (full (outer_cell PlusX at below))
      (full (inner_cell PlusX at below))
  edge_below MinusY = refl
  edge_below PlusY = is_edge_of_turned (full (outer_cell PlusY at q)) (full (outer_cell PlusY at below)) (full (inner_cell PlusY at q))
      (full (inner_cell PlusY at below))
      ∙ is_edge_of_mirrored (full (outer_cell PlusY at q)) (full (inner_cell PlusY at q)) (full (outer_cell PlusY at below))
      (full (inner_cell PlusY at below))
  edge_below MinusZ = refl
  edge_below PlusZ = is_edge_of_turned (full (outer_cell PlusZ at q)) (full (outer_cell PlusZ at below)) (full (inner_cell PlusZ at q))
      (full (inner_cell PlusZ at below))
      ∙ is_edge_of_mirrored (full (outer_cell PlusZ at q)) (full (inner_cell PlusZ at q)) (full (outer_cell PlusZ at below))
      (full (inner_cell PlusZ at below))

  -- and that on its left between it and the one before
  edge_before : (out : Out) → is_edge full (up_axis out) (place out at q) ≡ between out before
  edge_before MinusX = is_edge_of_turned (full (inner_cell MinusX at q)) (full (inner_cell MinusX at before))
      (full (outer_cell MinusX at q)) (full (outer_cell MinusX at before))
  edge_before PlusX = is_edge_of_mirrored (full (outer_cell PlusX at q)) (full (inner_cell PlusX at q))
      (full (outer_cell PlusX at before)) (full (inner_cell PlusX at before))
  edge_before MinusY = is_edge_of_turned (full (inner_cell MinusY at q)) (full (inner_cell MinusY at before))
      (full (outer_cell MinusY at q)) (full (outer_cell MinusY at before))
  edge_before PlusY = is_edge_of_mirrored (full (outer_cell PlusY at q)) (full (inner_cell PlusY at q))
      (full (outer_cell PlusY at before)) (full (inner_cell PlusY at before))
  edge_before MinusZ = is_edge_of_turned (full (inner_cell MinusZ at q)) (full (inner_cell MinusZ at before))
      (full (outer_cell MinusZ at q)) (full (outer_cell MinusZ at before))
  edge_before PlusZ = is_edge_of_mirrored (full (outer_cell PlusZ at q)) (full (inner_cell PlusZ at q))
      (full (outer_cell PlusZ at before)) (full (inner_cell PlusZ at before))

  -- from the square, and from the other one
  unless_other : (out : Out) (p : Spot) → IsTrue (is_boundary full out at q) → between out p ≡ not (is_boundary full out at p)
  unless_other out p is = edge_unless (full (inner_cell out at q)) (full (outer_cell out at q)) (full (inner_cell out at p))
      (full (outer_cell out at p)) is

  unless_this : (out : Out) (p : Spot) → IsTrue (is_boundary full out at p) → between out p ≡ not (is_boundary full out at q)
  unless_this out p is =
      is_edge_of_flipped (full (inner_cell out at q)) (full (outer_cell out at q)) (full (inner_cell out at p))
      (full (outer_cell out at p))
      ∙ edge_unless (full (inner_cell out at p)) (full (outer_cell out at p)) (full (inner_cell out at q))
      (full (outer_cell out at q)) is

  pub edge_under : (out : Out) → IsTrue (is_boundary full out at q)
      → is_edge full (right_axis out) (place out at q) ≡ not (is_boundary full out at below)
  edge_under out is = edge_below out ∙ unless_other out below is

  pub edge_over : (out : Out) → IsTrue (is_boundary full out at below)
      → is_edge full (right_axis out) (place out at q) ≡ not (is_boundary full out at q)
  edge_over out is = edge_below out ∙ unless_this out below is

  pub edge_on_left : (out : Out) → IsTrue (is_boundary full out at q)
      → is_edge full (up_axis out) (place out at q) ≡ not (is_boundary full out at before)
  edge_on_left out is = edge_before out ∙ unless_other out before is

  pub edge_on_right : (out : Out) → IsTrue (is_boundary full out at before)
      → is_edge full (up_axis out) (place out at q) ≡ not (is_boundary full out at q)
  edge_on_right out is = edge_before out ∙ unless_this out before is
