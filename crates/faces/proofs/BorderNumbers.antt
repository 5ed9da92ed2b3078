-- The sides of the border, by their numbers, are a succession.
use Rattle.std.proofs.Common.{◌≡◌, Bool, true, ℕ, zero, suc, ◌/◌, ◌%◌, ◌<◌, ◌∷◌, map, refl, sym, ◌∙◌, ap, ap₂, subst, arith}
use Rattle.faces.specs.declared.border_side.BorderSide.{BorderSide}
use Rattle.faces.specs.Border.{IsTableSpot, point_of, side_to, side_of, side_number, point_at, side_at, side_count, is_border_at, following_number}
use Rattle.faces.specs.PlaneSquares.{SquareTable, is_there}
use Rattle.faces.specs.Points.{spot_of}
use Rattle.faces.specs.Ways.{heading_of, heading_at}
use Rattle.faces.proofs.Sides.{end_of-side_to, side_to-end, border_end}
use Rattle.faces.proofs.SideNumbers.{there, heading-below, before-less, side-number, number-side, side-below}
use Rattle.rounds.specs.Succession.{IsInside, IsOneToOne, node_ahead, run}
use Rattle.rounds.proofs.Runs.{node_ahead-next}
use Rattle.solid_model.specs.Orders.{ComesBefore}
use Rattle.solid_model.specs.Rounds.{Side, end_of, is_border, following, sides_from}
use Rattle.solid_model.specs.Rounds.{further}
use Rattle.face_laws.proofs.Turns.{following_border, following_one}

-- the number of a side that is told by its end
pub told_number : (up_first : Bool) (s : BorderSide) (f : Side) → side_of s ≡ f
    → side_number up_first s.end (heading_of s.way) ≡ side_number up_first (point_of (end_of f)) f.heading
told_number up_first s f e =
    ap₂ (λ p h. side_number up_first (point_of p) h) (sym (end_of-side_to (spot_of s.end) (heading_of s.way)) ∙ ap end_of e) (ap (λ (x : Side). x.heading) e)

module _ (t : SquareTable) (up_first : Bool) where
  -- the number of a side
  abbrev pub number_of : Side → ℕ
  number_of s = side_number up_first (point_of (end_of s)) s.heading

  -- some number is that of a side of the border
  abbrev pub IsBorderAt : ℕ → Type 0
  IsBorderAt = IsInside (side_count) (is_border_at t up_first)

  -- a side that ends in the table has a number, and is the side with that number
  number_there : (s : Side) → IsTableSpot (end_of s) → (number_of s < side_count) × (side_at up_first (number_of s) ≡ s)
  number_there s is =
      let point : side_number up_first is.point s.heading ≡ number_of s = ap (λ p. side_number up_first (point_of p) s.heading) (sym is.is) in (
        subst (λ k. k < side_count) point (side-below up_first is.point s.heading is.within),
        ap (side_at up_first) (sym point) ∙ side-number up_first is.point s.heading is.within ∙ ap (λ p. side_to p s.heading) (sym is.is) ∙ side_to-end s,
      )

  -- so is one of the border
  pub side-of_number : (s : Side) → is_border (is_there t) s ≡ true → side_at up_first (number_of s) ≡ s
  side-of_number s border = (number_there s (border_end t s border)).1

  pub border_number : (s : Side) → is_border (is_there t) s ≡ true → IsBorderAt (number_of s)
  border_number s border =
      let is = number_there s (border_end t s border) in (is.0, subst (λ x. is_border (is_there t) x ≡ true) (sym is.1) border)

  -- a number is that of its side
  pub number-of_side : (k : ℕ) → number_of (side_at up_first k) ≡ k
  number-of_side k =
      ap (λ p. side_number up_first (point_of p) (heading_at (k % 4))) (end_of-side_to (spot_of (point_at up_first (k / 4))) (heading_at (k % 4)))
      ∙ number-side up_first k

  -- sides with different numbers are two
  pub one_number : (a b : ℕ) → side_at up_first a ≡ side_at up_first b → a ≡ b
  one_number a b e = sym (number-of_side a) ∙ ap number_of e ∙ number-of_side b

  -- the side with the number that follows is the side that follows
  pub following_at : (a : ℕ) → IsBorderAt a → side_at up_first (following_number t up_first a) ≡ following (is_there t) (side_at up_first a)
  following_at a on = side-of_number (following (is_there t) (side_at up_first a)) (following_border (is_there t) (side_at up_first a) on.1)

  pub following_inside : (a : ℕ) → IsBorderAt a → IsBorderAt (following_number t up_first a)
  following_inside a on = border_number (following (is_there t) (side_at up_first a)) (following_border (is_there t) (side_at up_first a) on.1)

  -- and no two are followed by one
  pub numbers_one_to_one : IsOneToOne (side_count) (is_border_at t up_first) (following_number t up_first)
  numbers_one_to_one a b on on_too e =
      one_number a b (following_one (is_there t) (side_at up_first a) (side_at up_first b) on.1 on_too.1
      (sym (following_at a on) ∙ ap (side_at up_first) e ∙ following_at b on_too))

  -- so many sides later
  pub further_at : (n a : ℕ) → IsBorderAt a
      → side_at up_first (node_ahead (following_number t up_first) n a) ≡ further (is_there t) n (side_at up_first a)
  further_at zero a on = refl
  further_at (suc n) a on =
      let next = following_number t up_first in
      ap (side_at up_first) (sym (node_ahead-next next n a)) ∙ further_at n (next a) (following_inside a on)
      ∙ ap (further (is_there t) n) (following_at a on)

  pub further_inside : (n a : ℕ) → IsBorderAt a → IsBorderAt (node_ahead (following_number t up_first) n a)
  further_inside zero a on = on
  further_inside (suc n) a on = following_inside (node_ahead (following_number t up_first) n a) (further_inside n a on)

  -- so many sides, from a side on
  pub run_at : (n a : ℕ) → IsBorderAt a
      → map (side_at up_first) (run (following_number t up_first) n a) ≡ sides_from (is_there t) n (side_at up_first a)
  run_at zero a on = refl
  run_at (suc n) a on =
      let next = following_number t up_first in
      ap (λ ss. side_at up_first a ∷ ss) (run_at n (next a) (following_inside a on) ∙ ap (sides_from (is_there t) n) (following_at a on))

  -- a side that ends at an earlier point has a lesser number
  pub ends_less : (a b : ℕ) → IsBorderAt a → IsBorderAt b
      → ComesBefore (there up_first (end_of (side_at up_first a))) (there up_first (end_of (side_at up_first b))) → a < b
  ends_less a b on on_too l =
      let p = border_end t (side_at up_first a) on.1 in
      let q = border_end t (side_at up_first b) on_too.1 in
      let moved = subst (λ x. ComesBefore (there up_first x) (there up_first (end_of (side_at up_first b)))) p.is l in
      let less = before-less up_first p.point q.point p.within q.within (subst (λ x. ComesBefore (there up_first (spot_of p.point)) (there up_first x)) q.is moved) in
      let is : side_number up_first p.point (heading_at (a % 4)) ≡ a =
      ap (λ x. side_number up_first (point_of x) (heading_at (a % 4))) (sym p.is) ∙ number-of_side a in
      let is_too : side_number up_first q.point (heading_at (b % 4)) ≡ b =
      ap (λ x. side_number up_first (point_of x) (heading_at (b % 4))) (sym q.is) ∙ number-of_side b in
      let few = heading-below (heading_at (a % 4)) in
      omega (arith, less, is, is_too, few)
