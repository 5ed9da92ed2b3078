-- The boundary squares of marked cells.
use Rattle.std.proofs.Common.{◌≡◌, ◌<◌, ◌≤◌, ◌==◌, inl, inr, Bool, true, false, ◌&&◌, ℕ, ℤ, pos, ◌-ℤ◌, ◌≤ℤ◌, slice_index_or, refl, ap, ap₂, sym, ◌∙◌, arith}
use Rattle.std.proofs.lemmas.Bool.{false_from_ne_true, both_ways, and_parts, and_from, cases_lt}
use Rattle.std.proofs.lemmas.List.{get_or_past}
use Rattle.std.proofs.lemmas.Nat.Bits.{bit_at-zero}
use Rattle.std.proofs.lemmas.Int.{ints}
use Rattle.solid_model.specs.declared.cell.Axis.{Axis}
use Rattle.solid_model.specs.declared.cell.Axis.TheVariants.{X, Y, Z}
use Rattle.solid_model.specs.declared.cell.Cell.{Cell}
use Rattle.solid_model.specs.declared.face.Out.{Out}
use Rattle.solid_model.specs.declared.face.Out.TheVariants.{MinusX, PlusX, MinusY, PlusY, MinusZ, PlusZ}
use Rattle.lemmas.specs.Bits.{is_set}
use Rattle.solid_model.specs.Cells.{coordinate}
use Rattle.solid_model.specs.Faces.{outward, right_axis, up_axis, inner_cell, is_boundary}
use Rattle.solid_model.specs.Marks.{BoxMarks, is_marked}
use Rattle.solid_model.specs.PerAxis.{numbers_of}
use Rattle.solid_model.specs.WalledBoxes.{is_below, is_within, box_place, place_of_number}
use Rattle.solid_model.specs.Rounds.{Spot}
use Rattle.solid_model.proofs.BoxCells.{below-bounds, below-more, place-below, within-below}
use Rattle.face_laws.proofs.BoundarySquares.{inner_full}
use Rattle.lemmas.proofs.Pushed.{HoldsSoFar}
use Rattle.faces.specs.PlaneSquares.{SquareTable, IsTable, is_in_table, is_there}
use Rattle.faces.proofs.SquarePlaces.{in_table-numbers, bit_there}

-- a marked cell is one of the box
pub marked_below : (m : BoxMarks) (n : Cell) → is_marked m n ≡ true → (a : Axis) → is_below (numbers_of m.sizes a) (coordinate a n) ≡ true
marked_below m n marked =
    within-below (numbers_of m.sizes) n
    (and_parts (is_within (numbers_of m.sizes) n) (slice_index_or m.values (box_place (numbers_of m.sizes) n) false) marked).0

-- a plane across an axis, along which there are so many cells, stands at one of them or behind the last
pub record IsAcrossBox (size : ℕ) (at : ℤ) : Type 0 where
  pub low : pos 0 ≤ℤ at
  pub high : at ≤ℤ pos size
  pub some : 0 < size

before_cell : (size : ℕ) (at : ℤ) → is_below size at ≡ true → IsAcrossBox size at
before_cell size at below =
    let h = below-bounds size at below in
    record { low = omega (arith, ints); high = omega (arith, ints); some = omega (arith, ints) }

behind_cell : (size : ℕ) (at : ℤ) → is_below size (at -ℤ pos 1) ≡ true → IsAcrossBox size at
behind_cell size at below =
    let h = below-bounds size (at -ℤ pos 1) below in
    record { low = omega (arith, ints); high = omega (arith, ints); some = omega (arith, ints) }

-- a boundary square has a full cell, so it lies over the box of the marks, and its plane across it
pub record IsOverBox (m : BoxMarks) (out : Out) (at : ℤ) (q : Spot) : Type 0 where
  pub u : is_below (numbers_of m.sizes (right_axis out)) q.u ≡ true
  pub v : is_below (numbers_of m.sizes (up_axis out)) q.v ≡ true
  pub plane : IsAcrossBox (numbers_of m.sizes (outward out).axis) at

pub boundary_over : (m : BoxMarks) (out : Out) (at : ℤ) (q : Spot) → is_boundary (is_marked m) out at q ≡ true
    → IsOverBox m out at q
boundary_over m out at q is = by out (marked_below m (inner_cell out at q) (inner_full (is_marked m) out at q is))
  where
    by : (o : Out) → ((a : Axis) → is_below (numbers_of m.sizes a) (coordinate a (inner_cell o at q)) ≡ true) → IsOverBox m o at q
    by MinusX below = record { u = below Z; v = below Y; plane = before_cell (numbers_of m.sizes X) at (below X) }
    by PlusX below = record { u = below Y; v = below Z; plane = behind_cell (numbers_of m.sizes X) at (below X) }
    by MinusY below = record { u = below X; v = below Z; plane = before_cell (numbers_of m.sizes Y) at (below Y) }
    by PlusY below = record { u = below Z; v = below X; plane = behind_cell (numbers_of m.sizes Y) at (below Y) }
    by MinusZ below = record { u = below Y; v = below X; plane = before_cell (numbers_of m.sizes Z) at (below Z) }
    by PlusZ below = record { u = below X; v = below Y; plane = behind_cell (numbers_of m.sizes Z) at (below Z) }

-- the row at a v has the bits of boundary squares
abbrev pub IsBoundaryRow : BoxMarks → Out → ℤ → ℕ → ℕ → Type 0
IsBoundaryRow m out at v row = (k : ℕ) → k < 64 → is_set row k ≡ is_boundary (is_marked m) out at (record { u = pos k; v = pos v })

-- a row has no bit beyond the box
row_narrow : (m : BoxMarks) (out : Out) (at : ℤ) (v row : ℕ) → ((a : Axis) → numbers_of m.sizes a ≤ 63) → IsBoundaryRow m out at v row
    → is_set row 63 ≡ false
row_narrow m out at v row few is =
    let q : Spot = record { u = pos 63; v = pos v } in
    is 63 (omega arith) ∙ false_from_ne_true (is_boundary (is_marked m) out at q) (λ on.
    let over = boundary_over m out at q on in
    let l = place-below (numbers_of m.sizes (right_axis out)) (pos 63) over.u in
    let f = few (right_axis out) in
    omega arith)

module _ (m : BoxMarks) (out : Out) (at : ℤ) (few : (a : Axis) → numbers_of m.sizes a ≤ 63) (t : SquareTable) (count : ℕ)
    (all : HoldsSoFar (IsBoundaryRow m out at) t.rows count) (high : count ≡ numbers_of m.sizes (up_axis out)) where
  -- the rows are a table,
  pub boundary_rows : IsTable t
  boundary_rows = record { few = let f = few (up_axis out) in omega (arith, all.count); narrow = narrow }
    where
      narrow : (v : ℕ) → is_set (slice_index_or t.rows v 0) 63 ≡ false
      narrow v = elim (cases_lt v count) as (λ _. is_set (slice_index_or t.rows v 0) 63 ≡ false) [
        | inl within ↦ row_narrow m out at v (slice_index_or t.rows v 0) few (all.each v 0 within)
        | inr beyond ↦ ap (λ w. is_set w 63) (get_or_past t.rows v 0 (omega (arith, all.count))) ∙ ap (λ b. b == 1) (bit_at-zero 63)
      ]

  -- which has all boundary squares
  pub boundary_table : (q : Spot) → is_there t q ≡ is_boundary (is_marked m) out at q
  boundary_table q = by (is_in_table q) refl
    where
      over : is_boundary (is_marked m) out at q ≡ true → (is_in_table q ≡ true) × (place_of_number q.v < count)
      over is =
          let o = boundary_over m out at q is in
          let h = place-below (numbers_of m.sizes (up_axis out)) q.v o.v in (
            and_from (is_below 63 q.u) (is_below 63 q.v) (below-more _ 63 (few (right_axis out)) q.u o.u) (below-more _ 63 (few (up_axis out)) q.v o.v),
            omega arith,
          )

      by : (b : Bool) → is_in_table q ≡ b → is_there t q ≡ is_boundary (is_marked m) out at q
      by true e =
          let has = in_table-numbers q e in
          let v : place_of_number q.v ≡ has.v.number = ap place_of_number has.v.is in
          let u : place_of_number q.u ≡ has.u.number = ap place_of_number has.u.is in
          ap (λ b. b && bit_there t q) e ∙ ap₂ (λ x y. is_set (slice_index_or t.rows x 0) y) v u
          ∙ elim (cases_lt has.v.number count) as (λ _. is_set (slice_index_or t.rows has.v.number 0) has.u.number ≡ is_boundary (is_marked m) out at q) [
            | inl within ↦ all.each has.v.number 0 within has.u.number (omega (arith, has.u.less))
                ∙ (λ i. is_boundary (is_marked m) out at (record { u = sym has.u.is i; v = sym has.v.is i }))
            | inr beyond ↦ ap (λ w. is_set w has.u.number) (get_or_past t.rows has.v.number 0 (omega (arith, all.count)))
                ∙ ap (λ b. b == 1) (bit_at-zero has.u.number)
                ∙ sym (false_from_ne_true (is_boundary (is_marked m) out at q) (λ is. let l = (over is).1 in omega arith))
          ]
      by false e =
          ap (λ b. b && bit_there t q) e
          ∙ sym (false_from_ne_true (is_boundary (is_marked m) out at q) (λ is. both_ways (is_in_table q) e (over is).0))
