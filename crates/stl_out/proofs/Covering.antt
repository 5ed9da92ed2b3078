-- The boundary rectangles cover the boundary squares of the solid, each once.
use Rattle.std.proofs.Common.{◌≡◌, ◌≢◌, inl, inr, Bool, true, false, ◌&&◌, ◌==◌, List, [], ◌∷◌, filter, ℤ, pos, ◌+ℤ◌, int_lt, int_le, if◌then◌else◌, refl, sym, ◌∙◌, ap, subst, arith}
use Rattle.std.specs.List.{count_by}
use Rattle.std.specs.Ordering.{int_eq}
use Rattle.std.proofs.lemmas.Bool.{and_parts, and_from, both_ways}
use Rattle.std.proofs.lemmas.Bool.Decides.{Decides-eqb, Decides-int_eq}
use Rattle.std.proofs.lemmas.Int.{ints}
use Rattle.std.proofs.lemmas.List.Sums.{length-filter}
use Rattle.face_laws.specs.GridFaces.{Planes, AreCellsOf}
use Rattle.face_laws.specs.GridRounds.{Rises}
use Rattle.face_laws.proofs.GridBoundary.{squares_in_space, plane_in_space}
use Rattle.face_laws.proofs.GridLines.{LiesBetween, one_between, one_line, some_between}
use Rattle.face_laws.proofs.OutwardSides.{one_out}
use Rattle.solid_model.specs.declared.cell.Axis.{Axis}
use Rattle.solid_model.specs.declared.cell.Cell.{Cell}
use Rattle.solid_model.specs.declared.face.Out.{Out}
use Rattle.solid_model.specs.Faces.{outward, right_axis, up_axis, is_boundary, out_number}
use Rattle.lemmas.specs.Lists.{Member}
use Rattle.solid_model.specs.Rounds.{Spot}
use Rattle.lemmas.proofs.Lists.{each-at, member-filter, member-from_filter, ascends-filter}
use Rattle.lemmas.proofs.WithoutRepeats.{equally_long}
use Rattle.stl_out.specs.declared.rectangle.Rectangle.{Rectangle}
use Rattle.stl_out.specs.Closed.{is_between_planes, has_unit_square}
use Rattle.stl_out.specs.Rectangles.{AreRectanglesOf, is_boundary_rectangle, square_of}
use Rattle.stl_out.proofs.RectangleOrder.{rectangles_once}

-- a coordinate lies between two planes exactly where it is seen to
between-lies : (line : ℤ → ℤ) (n z : ℤ) → is_between_planes line n z ≡ true → LiesBetween line n z
between-lies line n z e =
    let parts = and_parts (int_le (line n) z) (int_lt z (line (n +ℤ pos 1))) e in
    let low = parts.0 in let high = parts.1 in
    record { low = grind (arith, ints); high = grind (arith, ints) }

lies-between : (line : ℤ → ℤ) (n z : ℤ) → LiesBetween line n z → is_between_planes line n z ≡ true
lies-between line n z h =
    let low = h.low in let high = h.high in
    and_from (int_le (line n) z) (int_lt z (line (n +ℤ pos 1))) (grind (arith, ints)) (grind (arith, ints))

module _ (planes : Planes) (rises : (a : Axis) → Rises (planes a)) (out : Out) (at : ℤ) (p : Spot) where
  -- the unit square lies in a rectangle
  record Covers (r : Rectangle) : Type 0 where
    side : r.out ≡ out
    plane : planes (outward out).axis r.at ≡ at
    right : LiesBetween (planes (right_axis out)) r.right p.u
    up : LiesBetween (planes (up_axis out)) r.up p.v

  in-parts : (r : Rectangle) → has_unit_square planes out at p r ≡ true → Covers r
  in-parts r e =
      let spot = is_between_planes (planes (right_axis out)) r.right p.u && is_between_planes (planes (up_axis out)) r.up p.v in
      let there = int_eq (planes (outward out).axis r.at) at in
      let (side, rest) = and_parts (out_number r.out == out_number out) (there && spot) e in
      let (plane, within) = and_parts there spot rest in
      let (right, up) = and_parts (is_between_planes (planes (right_axis out)) r.right p.u) (is_between_planes (planes (up_axis out)) r.up p.v) within in
      record {
        side = one_out r.out out ((Decides-eqb (out_number r.out) (out_number out)).0 side);
        plane = (Decides-int_eq (planes (outward out).axis r.at) at).0 plane;
        right = between-lies (planes (right_axis out)) r.right p.u right;
        up = between-lies (planes (up_axis out)) r.up p.v up;
      }

  parts-in : (r : Rectangle) → Covers r → has_unit_square planes out at p r ≡ true
  parts-in r h =
      let spot = is_between_planes (planes (right_axis out)) r.right p.u && is_between_planes (planes (up_axis out)) r.up p.v in
      let there = int_eq (planes (outward out).axis r.at) at in
      and_from (out_number r.out == out_number out) (there && spot) ((Decides-eqb (out_number r.out) (out_number out)).1 (ap out_number h.side))
      (and_from there spot ((Decides-int_eq (planes (outward out).axis r.at) at).1 h.plane)
      (and_from (is_between_planes (planes (right_axis out)) r.right p.u) (is_between_planes (planes (up_axis out)) r.up p.v)
      (lies-between (planes (right_axis out)) r.right p.u h.right) (lies-between (planes (up_axis out)) r.up p.v h.up)))

  -- in one rectangle alone
  one_covers : (r s : Rectangle) → Covers r → Covers s → r ≡ s
  one_covers r s h k = λ i. record {
    out = (h.side ∙ sym k.side) i;
    at = one_line (planes (outward out).axis) (rises (outward out).axis) r.at s.at (h.plane ∙ sym k.plane) i;
    right = one_between (planes (right_axis out)) (rises (right_axis out)) r.right s.right p.u h.right k.right i;
    up = one_between (planes (up_axis out)) (rises (up_axis out)) r.up s.up p.v h.up k.up i;
  }

  module _ (numbered full : Cell → Bool) (are_cells : AreCellsOf planes numbered full) where
    -- which is a boundary rectangle where the square is a boundary square
    same_boundary : (r : Rectangle) → Covers r → is_boundary full out at p ≡ is_boundary_rectangle numbered r
    same_boundary r h =
        ap (λ z. is_boundary full out z p) (sym h.plane)
        ∙ squares_in_space planes rises numbered full are_cells out r.at (square_of r) p
        (record { left = h.right.low; right = h.right.high; below = h.up.low; above = h.up.high })
        ∙ ap (λ o. is_boundary numbered o r.at (square_of r)) (sym h.side)

    module _ (rs : List Rectangle) (are : AreRectanglesOf numbered rs) where
      abbrev covering : List Rectangle
      covering = filter (has_unit_square planes out at p) rs

      covers_it : (r : Rectangle) → Member covering r → Covers r
      covers_it r k = in-parts r (member-from_filter (has_unit_square planes out at p) rs r k).1

      -- a boundary square lies in one
      once : is_boundary full out at p ≡ true → count_by (has_unit_square planes out at p) rs ≡ 1
      once is =
          let (k, plane) = plane_in_space planes rises numbered full are_cells out at p is in
          let (i, right) = some_between (planes (right_axis out)) (rises (right_axis out)) p.u in
          let (j, up) = some_between (planes (up_axis out)) (rises (up_axis out)) p.v in
          let r : Rectangle = record { out = out; at = k; right = i; up = j } in
          let h : Covers r = record { side = refl; plane = sym plane; right = right; up = up } in
          sym (length-filter (has_unit_square planes out at p) rs)
          ∙ equally_long covering (r ∷ []) (ascends-filter (has_unit_square planes out at p) ◌≢◌ rs (rectangles_once numbered rs are)) (tt, tt)
          (λ s m. inl (one_covers r s h (covers_it s m)))
          (λ s m. elim m as (λ _. Member covering s) [
            | inl e ↦ subst (Member covering) e
                (member-filter (has_unit_square planes out at p) rs r (are.complete r (sym (same_boundary r h) ∙ is)) (parts-in r h))
            | inr l ↦ absurd l
          ])

      -- and another square in none
      never : is_boundary full out at p ≡ false → count_by (has_unit_square planes out at p) rs ≡ 0
      never not_so =
          sym (length-filter (has_unit_square planes out at p) rs)
          ∙ equally_long covering [] (ascends-filter (has_unit_square planes out at p) ◌≢◌ rs (rectangles_once numbered rs are)) tt
          (λ s m. both_ways (is_boundary full out at p) not_so
          (same_boundary s (covers_it s m)
          ∙ each-at (λ t. is_boundary_rectangle numbered t ≡ true) rs s are.each (member-from_filter (has_unit_square planes out at p) rs s m).0))
          (λ s m. absurd m)

      pub covered : count_by (has_unit_square planes out at p) rs ≡ (if is_boundary full out at p then 1 else 0)
      covered = by (is_boundary full out at p) refl
        where
          by : (b : Bool) → is_boundary full out at p ≡ b → count_by (has_unit_square planes out at p) rs ≡ (if b then 1 else 0)
          by true e = once e
          by false e = never e
