-- The faces of a union of grid cells: they lie in planes at grid coordinates, and their corners are grid points.
use Rattle.std.proofs.Common.{◌≡◌, ⊎_elim, Bool, true, false, not, ◌&&◌, List, ℤ, ◌<ℤ◌, IsTrue, refl, sym, ◌∙◌, ap, ap₂}
use Rattle.std.proofs.lemmas.Bool.{false≢true, both_ways}
use Rattle.solid_model.specs.declared.cell.Axis.{Axis}
use Rattle.solid_model.specs.declared.cell.Axis.TheVariants.{X, Y, Z}
use Rattle.solid_model.specs.declared.cell.Cell.{Cell}
use Rattle.solid_model.specs.declared.face.Out.{Out}
use Rattle.solid_model.specs.declared.face.Out.TheVariants.{MinusX, PlusX, MinusY, PlusY, MinusZ, PlusZ}
use Rattle.solid_model.specs.Cells.{coordinate, cell_before}
use Rattle.solid_model.specs.Faces.{outward, right_axis, up_axis, place, inner_cell, outer_cell, is_boundary}
use Rattle.solid_model.specs.Grid.{Coordinates, IsUnionOf}
use Rattle.lemmas.specs.Lists.{Member, Ascends}
use Rattle.solid_model.specs.Rounds.{Spot, Heading, East, North, West, South, same_heading, spot_after, Side, end_of, is_border, heading_after, turns}
use Rattle.solid_model.proofs.SameOnGrid.{member_or_not}
use Rattle.face_laws.proofs.Turns.{round, arrives, onward, border_at_end}
use Rattle.solid_model.proofs.UnionDrawing.{LieInSameGaps, same_gaps-itself, same_gaps_before, agree_in_same_gaps}

-- ---- where a border goes straight on

-- two squares below a point and two above it that are the same
abbrev columns : Bool → Bool → Heading → Bool
columns above below East = above
columns above below North = above
columns above below West = below
columns above below South = below

straight_along : (h : Heading) (a b : Bool) → arrives (columns a b) h ≡ true → onward (columns a b) h ≡ h
straight_along East true true e = absurd (false≢true e)
straight_along East true false e = refl
straight_along East false true e = absurd (false≢true e)
straight_along East false false e = absurd (false≢true e)
straight_along North true true e = absurd (false≢true e)
straight_along North true false e = absurd (false≢true e)
straight_along North false true e = absurd (false≢true e)
straight_along North false false e = absurd (false≢true e)
straight_along West true true e = absurd (false≢true e)
straight_along West true false e = absurd (false≢true e)
straight_along West false true e = refl
straight_along West false false e = absurd (false≢true e)
straight_along South true true e = absurd (false≢true e)
straight_along South true false e = absurd (false≢true e)
straight_along South false true e = absurd (false≢true e)
straight_along South false false e = absurd (false≢true e)

-- two squares to the left of a point and two to its right that are the same
abbrev rows : Bool → Bool → Heading → Bool
rows right left East = right
rows right left North = left
rows right left West = left
rows right left South = right

straight_up : (h : Heading) (a b : Bool) → arrives (rows a b) h ≡ true → onward (rows a b) h ≡ h
straight_up East true true e = absurd (false≢true e)
straight_up East true false e = absurd (false≢true e)
straight_up East false true e = absurd (false≢true e)
straight_up East false false e = absurd (false≢true e)
straight_up North true true e = absurd (false≢true e)
straight_up North true false e = absurd (false≢true e)
straight_up North false true e = refl
straight_up North false false e = absurd (false≢true e)
straight_up West true true e = absurd (false≢true e)
straight_up West true false e = absurd (false≢true e)
straight_up West false true e = absurd (false≢true e)
straight_up West false false e = absurd (false≢true e)
straight_up South true true e = absurd (false≢true e)
straight_up South true false e = refl
straight_up South false true e = absurd (false≢true e)
straight_up South false false e = absurd (false≢true e)

same_itself : (h : Heading) → not (same_heading h h) ≡ false
same_itself East = refl
same_itself North = refl
same_itself West = refl
same_itself South = refl

module _ (squares : Spot → Bool) (s : Side) (border : IsTrue (is_border squares s)) where
  abbrev here : Spot
  here = end_of s

  straight_as : (r : Heading → Bool) → round squares here ≡ r → (arrives r s.heading ≡ true → onward r s.heading ≡ s.heading)
      → heading_after squares s ≡ s.heading
  straight_as r same straight =
      ap (λ (f : Heading → Bool). onward f s.heading) same
      ∙ straight (ap (λ (f : Heading → Bool). arrives f s.heading) (sym same) ∙ sym (border_at_end squares s) ∙ border)

  -- where the two squares to the left of a point are those to its right, the border goes straight on
  pub straight_between_columns : squares (spot_after West here) ≡ squares here
      → squares (spot_after West (spot_after South here)) ≡ squares (spot_after South here) → heading_after squares s ≡ s.heading
  straight_between_columns above below = straight_as (columns (squares here) (squares (spot_after South here))) (λ i h. at h i)
      (straight_along s.heading (squares here) (squares (spot_after South here)))
    where
      at : (h : Heading) → round squares here h ≡ columns (squares here) (squares (spot_after South here)) h
      at East = refl
      at North = above
      at West = below
      at South = refl

  -- and where the two below it are those above
  pub straight_between_rows : squares (spot_after South here) ≡ squares here
      → squares (spot_after South (spot_after West here)) ≡ squares (spot_after West here) → heading_after squares s ≡ s.heading
  straight_between_rows right left = straight_as (rows (squares here) (squares (spot_after West here))) (λ i h. at h i)
      (straight_up s.heading (squares here) (squares (spot_after West here)))
    where
      at : (h : Heading) → round squares here h ≡ rows (squares here) (squares (spot_after West here)) h
      at East = refl
      at North = refl
      at West = left
      at South = right

  -- what goes straight on doesn't turn
  pub no_turn : heading_after squares s ≡ s.heading → turns squares s ≡ false
  no_turn e = ap (λ h. not (same_heading h s.heading)) e ∙ same_itself s.heading

-- ---- unions of grid cells

module _ (coordinates : Coordinates) (ascends : (a : Axis) → Ascends ◌<ℤ◌ (coordinates a)) (chosen : List Bool)
    (full : Cell → Bool)
    (union : IsUnionOf coordinates chosen full) where
  -- between two slices of cells at a position that is no grid coordinate nothing changes
  slices_same : (a : Axis) (c : Cell) → (Member (coordinates a) (coordinate a c) → ⊥) → full (cell_before a c) ≡ full c
  slices_same a c none = agree_in_same_gaps coordinates ascends chosen full union (cell_before a c) c (by a none)
    where
      by : (b : Axis) → (Member (coordinates b) (coordinate b c) → ⊥) → (d : Axis)
          → LieInSameGaps (coordinates d) (coordinate d (cell_before b c)) (coordinate d c)
      by X off X = same_gaps_before (coordinates X) c.x off
      by X off Y = same_gaps-itself (coordinates Y) c.y
      by X off Z = same_gaps-itself (coordinates Z) c.z
      by Y off X = same_gaps-itself (coordinates X) c.x
      by Y off Y = same_gaps_before (coordinates Y) c.y off
      by Y off Z = same_gaps-itself (coordinates Z) c.z
      by Z off X = same_gaps-itself (coordinates X) c.x
      by Z off Y = same_gaps-itself (coordinates Y) c.y
      by Z off Z = same_gaps_before (coordinates Z) c.z off

  -- a boundary square lies in a plane at a grid coordinate
  pub plane_on_grid : (out : Out) (at : ℤ) (q : Spot) → IsTrue (is_boundary full out at q)
      → Member (coordinates (outward out).axis) at
  plane_on_grid out at q is = ⊎_elim (λ m. m) (λ none. absurd (by out none is))
      (member_or_not (coordinates (outward out).axis) at)
    where
      never : (a b : Bool) → a ≡ b → (a && not b) ≡ true → ⊥
      never true true e f = false≢true f
      never true false e f = both_ways false refl (sym e)
      never false b e f = false≢true f

      by : (o : Out) → (Member (coordinates (outward o).axis) at → ⊥) → IsTrue (is_boundary full o at q) → ⊥
      by MinusX none is = never (full (inner_cell MinusX at q)) (full (outer_cell MinusX at q))
          (sym (slices_same X (place MinusX at q) none)) is
      by PlusX none is = never (full (inner_cell PlusX at q)) (full (outer_cell PlusX at q))
          (slices_same X (place PlusX at q) none) is
      by MinusY none is = never (full (inner_cell MinusY at q)) (full (outer_cell MinusY at q))
          (sym (slices_same Y (place MinusY at q) none)) is
      by PlusY none is = never (full (inner_cell PlusY at q)) (full (outer_cell PlusY at q))
          (slices_same Y (place PlusY at q) none) is
      by MinusZ none is = never (full (inner_cell MinusZ at q)) (full (outer_cell MinusZ at q))
          (sym (slices_same Z (place MinusZ at q) none)) is
      by PlusZ none is = never (full (inner_cell PlusZ at q)) (full (outer_cell PlusZ at q))
          (slices_same Z (place PlusZ at q) none) is

  -- no column of boundary squares differs from the one before it but at a grid coordinate,
  columns_same : (out : Out) (at : ℤ) (p : Spot) → (Member (coordinates (right_axis out)) p.u → ⊥)
      → is_boundary full out at (spot_after West p) ≡ is_boundary full out at p
  columns_same MinusX at p none = ap₂ (λ a b. a && not b) (slices_same Z (inner_cell MinusX at p) none)
      (slices_same Z (outer_cell MinusX at p) none)
  columns_same PlusX at p none = ap₂ (λ a b. a && not b) (slices_same Y (inner_cell PlusX at p) none)
      (slices_same Y (outer_cell PlusX at p) none)
  columns_same MinusY at p none = ap₂ (λ a b. a && not b) (slices_same X (inner_cell MinusY at p) none)
      (slices_same X (outer_cell MinusY at p) none)
  columns_same PlusY at p none = ap₂ (λ a b. a && not b) (slices_same Z (inner_cell PlusY at p) none)
      (slices_same Z (outer_cell PlusY at p) none)
  columns_same MinusZ at p none = ap₂ (λ a b. a && not b) (slices_same Y (inner_cell MinusZ at p) none)
      (slices_same Y (outer_cell MinusZ at p) none)
  columns_same PlusZ at p none = ap₂ (λ a b. a && not b) (slices_same X (inner_cell PlusZ at p) none)
      (slices_same X (outer_cell PlusZ at p) none)

  -- and no row from the one below it
  rows_same : (out : Out) (at : ℤ) (p : Spot) → (Member (coordinates (up_axis out)) p.v → ⊥)
      → is_boundary full out at (spot_after South p) ≡ is_boundary full out at p
  rows_same MinusX at p none = ap₂ (λ a b. a && not b) (slices_same Y (inner_cell MinusX at p) none)
      (slices_same Y (outer_cell MinusX at p) none)
  rows_same PlusX at p none = ap₂ (λ a b. a && not b) (slices_same Z (inner_cell PlusX at p) none)
      (slices_same Z (outer_cell PlusX at p) none)
  rows_same MinusY at p none = ap₂ (λ a b. a && not b) (slices_same Z (inner_cell MinusY at p) none)
      (slices_same Z (outer_cell MinusY at p) none)
  rows_same PlusY at p none = ap₂ (λ a b. a && not b) (slices_same X (inner_cell PlusY at p) none)
      (slices_same X (outer_cell PlusY at p) none)
  rows_same MinusZ at p none = ap₂ (λ a b. a && not b) (slices_same X (inner_cell MinusZ at p) none)
      (slices_same X (outer_cell MinusZ at p) none)
  rows_same PlusZ at p none = ap₂ (λ a b. a && not b) (slices_same Y (inner_cell PlusZ at p) none)
      (slices_same Y (outer_cell PlusZ at p) none)

  -- so where a border turns there is a grid point
  pub corner_on_grid : (out : Out) (at : ℤ) (s : Side) → IsTrue (is_border (is_boundary full out at) s)
      → IsTrue (turns (is_boundary full out at) s)
      → Member (coordinates (right_axis out)) (end_of s).u × Member (coordinates (up_axis out)) (end_of s).v
  corner_on_grid out at s border turn = (
    ⊎_elim (λ m. m) (λ none. absurd (both_ways (turns (is_boundary full out at) s)
        (no_turn (is_boundary full out at) s border (straight_between_columns (is_boundary full out at) s border
        (columns_same out at (end_of s) none) (columns_same out at (spot_after South (end_of s)) none))) turn))
        (member_or_not (coordinates (right_axis out)) (end_of s).u),
    ⊎_elim (λ m. m) (λ none. absurd (both_ways (turns (is_boundary full out at) s)
        (no_turn (is_boundary full out at) s border (straight_between_rows (is_boundary full out at) s border
        (rows_same out at (end_of s) none) (rows_same out at (spot_after West (end_of s)) none))) turn))
        (member_or_not (coordinates (up_axis out)) (end_of s).v),
  )
