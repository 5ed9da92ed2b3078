-- Sides that are told by their ends, and where sides of the border end.
use Rattle.std.proofs.Common.{◌≡◌, Bool, true, false, not, if◌then◌else◌, ◌+◌, pos, refl, sym, ◌∙◌, ap, ap₂, subst, arith}
use Rattle.std.proofs.lemmas.Bool.{and_parts}
use Rattle.std.proofs.lemmas.Int.{ints}
use Rattle.faces.specs.declared.point.Point.{Point}
use Rattle.faces.specs.Border.{IsTablePoint, IsTableSpot, side_to}
use Rattle.faces.specs.PlaneSquares.{SquareTable, is_there}
use Rattle.faces.proofs.SquarePlaces.{there-parts}
use Rattle.faces.specs.Points.{spot_of}
use Rattle.solid_model.specs.WalledBoxes.{is_below, place_of_number}
use Rattle.solid_model.specs.Rounds.{Spot, Heading, East, North, West, South, left_of, right_of, spot_after, square_at, Side, end_of, left_square, right_square, is_border, heading_after, following}
use Rattle.solid_model.proofs.BoxPlaces.{IsNumber, number_below}
use Rattle.face_laws.proofs.Turns.{same_spot, same_side, left_of_left, step_back, left_at_end, round, leaves, onward, following_border}

-- ---- sides that are told by their ends

four_turns : (h : Heading) → left_of (left_of (left_of (left_of h))) ≡ h
four_turns East = refl
four_turns North = refl
four_turns West = refl
four_turns South = refl

-- two turns back, and a step back
back_step : (h : Heading) (p : Spot) → spot_after (left_of (left_of h)) (spot_after h p) ≡ p
back_step h p = ap (λ k. spot_after k (spot_after h p)) (left_of_left h) ∙ step_back h p

-- such a side ends there
pub end_of-side_to : (p : Spot) (h : Heading) → end_of (side_to p h) ≡ p
end_of-side_to p h = ap (λ k. spot_after k (spot_after (left_of (left_of h)) p)) (sym (four_turns h)) ∙ back_step (left_of (left_of h)) p

-- a side comes to its end with its heading
pub side_to-end : (s : Side) → side_to (end_of s) s.heading ≡ s
side_to-end s = same_side (side_to (end_of s) s.heading) s (back_step s.heading s.start) refl

module _ (squares : Spot → Bool) (p : Spot) (h : Heading) where
  -- how the border goes on is seen round the end
  heading_to : heading_after squares (side_to p h) ≡ onward (round squares p) h
  heading_to = ap (λ q. onward (round squares q) h) (end_of-side_to p h)

  -- to the left, straight on, or to the right
  pub goes_left : (k : Heading) → k ≡ left_of h → leaves (round squares p) k ≡ true → k ≡ heading_after squares (side_to p h)
  goes_left k e f =
      e ∙ sym (heading_to ∙ ap (λ (b : Bool). if b then left_of h else (if leaves (round squares p) h then h else right_of h)) (sym (ap (leaves (round squares p)) e) ∙ f))

  pub goes_straight : (k : Heading) → k ≡ left_of h → leaves (round squares p) k ≡ false → leaves (round squares p) h ≡ true
      → h ≡ heading_after squares (side_to p h)
  goes_straight k e f g =
      sym (heading_to ∙ ap₂ (λ (a b : Bool). if a then left_of h else (if b then h else right_of h)) (sym (ap (leaves (round squares p)) e) ∙ f) g)

  pub goes_right : (k : Heading) → k ≡ left_of h → leaves (round squares p) k ≡ false → leaves (round squares p) h ≡ false
      → right_of h ≡ heading_after squares (side_to p h)
  goes_right k e f g =
      sym (heading_to ∙ ap₂ (λ (a b : Bool). if a then left_of h else (if b then h else right_of h)) (sym (ap (leaves (round squares p)) e) ∙ f) g)

  -- the side that follows
  pub follows : (k : Heading) (q : Spot) → k ≡ heading_after squares (side_to p h) → q ≡ spot_after k p → side_to q k ≡ following squares (side_to p h)
  follows k q e f =
      ap (λ x. side_to x k) f ∙ same_side (side_to (spot_after k p) k) (following squares (side_to p h)) (back_step k p ∙ sym (end_of-side_to p h)) e

-- ---- where sides of the border end

module _ (t : SquareTable) where
  -- a point at a square of the table is one of its points
  at_square : (h : Heading) (p : Spot) → IsNumber 63 (square_at h p).u → IsNumber 63 (square_at h p).v → IsTableSpot p
  at_square East p x y = record {
    point = record { u = x.number; v = y.number };
    is = same_spot p (spot_of (record { u = x.number; v = y.number })) x.is y.is;
    within = record { across = omega (arith, x.less); up = omega (arith, y.less) };
  }
  at_square North p x y =
      let e : p.u ≡ pos (x.number + 1) = omega (arith, ints, x.is) in record {
        point = record { u = x.number + 1; v = y.number };
        is = same_spot p (spot_of (record { u = x.number + 1; v = y.number })) e y.is;
        within = record { across = omega (arith, x.less); up = omega (arith, y.less) };
      }
  at_square West p x y =
      let e : p.u ≡ pos (x.number + 1) = omega (arith, ints, x.is) in
      let f : p.v ≡ pos (y.number + 1) = omega (arith, ints, y.is) in record {
        point = record { u = x.number + 1; v = y.number + 1 };
        is = same_spot p (spot_of (record { u = x.number + 1; v = y.number + 1 })) e f;
        within = record { across = omega (arith, x.less); up = omega (arith, y.less) };
      }
  at_square South p x y =
      let f : p.v ≡ pos (y.number + 1) = omega (arith, ints, y.is) in record {
        point = record { u = x.number; v = y.number + 1 };
        is = same_spot p (spot_of (record { u = x.number; v = y.number + 1 })) x.is f;
        within = record { across = omega (arith, x.less); up = omega (arith, y.less) };
      }

  -- a point that is a spot of the table lies in it
  pub table_point : (p : Point) → IsTableSpot (spot_of p) → IsTablePoint p
  table_point p is =
      let u : p.u ≡ is.point.u = ap (λ (q : Spot). place_of_number q.u) is.is in
      let v : p.v ≡ is.point.v = ap (λ (q : Spot). place_of_number q.v) is.is in
      record { across = omega (arith, is.within.across); up = omega (arith, is.within.up) }

  -- so is one at a square that is there
  pub at_square_there : (h : Heading) (p : Spot) → is_there t (square_at h p) ≡ true → IsTableSpot p
  at_square_there h p e =
      let in_table = (there-parts t (square_at h p) e).0 in
      let parts = and_parts (is_below 63 (square_at h p).u) (is_below 63 (square_at h p).v) in_table in
      at_square h p (number_below 63 (square_at h p).u parts.0) (number_below 63 (square_at h p).v parts.1)

  -- and the end of a side of the border
  pub border_end : (s : Side) → is_border (is_there t) s ≡ true → IsTableSpot (end_of s)
  border_end s e =
      let there = (and_parts (is_there t (left_square s)) (not (is_there t (right_square s))) e).0 in
      at_square_there (left_of s.heading) (end_of s) (subst (λ q. is_there t q ≡ true) (left_at_end s.heading s.start) there)

  -- and of the side that follows one
  pub border_on : (p : Spot) (h k : Heading) → is_border (is_there t) (side_to p h) ≡ true → k ≡ heading_after (is_there t) (side_to p h)
      → IsTableSpot (spot_after k p)
  border_on p h k border e =
      let there = border_end (following (is_there t) (side_to p h)) (following_border (is_there t) (side_to p h) border) in
      subst (IsTableSpot) (ap₂ spot_after (sym e) (end_of-side_to p h)) there
