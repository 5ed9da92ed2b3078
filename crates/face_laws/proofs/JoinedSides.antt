-- A round stays on its face: the squares on the left of its sides are joined.
use Rattle.std.proofs.Common.{◌≡◌, Bool, true, false, not, ◌&&◌, if◌then◌else◌, ℕ, zero, suc, ℤ, pos, ◌+ℤ◌, ◌-ℤ◌, IsTrue, refl, sym, ◌∙◌, ap, subst, arith}
use Rattle.std.proofs.lemmas.Bool.{false≢true, and_parts}
use Rattle.std.proofs.lemmas.Int.{ints}
use Rattle.face_laws.specs.GridRounds.{back_of}
use Rattle.lemmas.specs.Lists.{Member}
use Rattle.solid_model.specs.Rounds.{Spot, Heading, East, North, West, South, left_of, right_of, spot_after, square_at, Side, end_of, left_square, is_border, following, further, round_sides, AreNeighbours, AreJoined}
use Rattle.lemmas.proofs.Chains.{reaches-itself, reaches-step, reaches-onward, reaches-back}
use Rattle.face_laws.proofs.SidesInOrder.{member-earlier}
use Rattle.face_laws.proofs.Turns.{same_spot, step_back, left_at_end, border_at_end, round, arrives, leaves, onward, following_border}

up : (z : ℤ) → z ≡ (z -ℤ pos 1) +ℤ pos 1
up z = omega (arith, ints)

-- the square ahead on the left of a point, and the one ahead on its right, which lies one step to the right of that
beside : (h : Heading) (p : Spot) → square_at (right_of h) p ≡ spot_after (right_of h) (square_at h p)
beside East p = refl
beside North p = same_spot _ _ (up p.u) refl
beside West p = same_spot _ _ refl (up p.v)
beside South p = refl

module _ (squares : Spot → Bool) where
  -- neighbours are so either way
  pub neighbours-back : (p q : Spot) → AreNeighbours squares p q → AreNeighbours squares q p
  neighbours-back p q (in_p, in_q, (h, e)) = (in_q, in_p, (back_of h, sym (step_back h p) ∙ ap (spot_after (back_of h)) (sym e)))

  -- chains of joined squares go back
  pub joined-back : (p q : Spot) → AreJoined squares p q → AreJoined squares q p
  joined-back = reaches-back (AreNeighbours squares) neighbours-back

  -- two of the squares round a point that lie beside one another are joined
  joined_beside : (h : Heading) (p : Spot) → squares (square_at h p) ≡ true → squares (square_at (right_of h) p) ≡ true
      → AreJoined squares (square_at h p) (square_at (right_of h) p)
  joined_beside h p e f = reaches-step (AreNeighbours squares) (square_at h p) (square_at (right_of h) p)
      (e, f, (right_of h, beside h p))

  right_of_left : (h : Heading) → right_of (left_of h) ≡ h
  right_of_left East = refl
  right_of_left North = refl
  right_of_left West = refl
  right_of_left South = refl

  -- The border comes to a point with a heading, and goes on: the square on its left is joined with the one on the left of the
  -- way on. Where it turns to the right, the square ahead on the left joins the two.
  joined_round : (h : Heading) (p : Spot) → arrives (round squares p) h ≡ true
      → leaves (round squares p) (onward (round squares p) h) ≡ true
      → AreJoined squares (square_at (left_of h) p) (square_at (onward (round squares p) h) p)
  joined_round h p come go = by (leaves (round squares p) (left_of h)) refl (leaves (round squares p) h) refl go
    where
      on_left : squares (square_at (left_of h) p) ≡ true
      on_left = (and_parts (squares (square_at (left_of h) p)) (not (squares (square_at (back_of h) p))) come).0

      ahead : squares (square_at h p) ≡ true → AreJoined squares (square_at (left_of h) p) (square_at h p)
      ahead e = subst (λ k. AreJoined squares (square_at (left_of h) p) (square_at k p)) (right_of_left h)
          (joined_beside (left_of h) p on_left (ap (λ k. squares (square_at k p)) (right_of_left h) ∙ e))

      -- where it doesn't turn to the left, there is a square ahead
      is_ahead : (b c : Bool) → b ≡ true → (b && not c) ≡ false → c ≡ true
      is_ahead true true e f = refl
      is_ahead true false e f = sym f
      is_ahead false c e f = absurd (false≢true e)

      by : (a : Bool) → leaves (round squares p) (left_of h) ≡ a → (b : Bool) → leaves (round squares p) h ≡ b
          → leaves (round squares p) (if a then left_of h else (if b then h else right_of h)) ≡ true
          → AreJoined squares (square_at (left_of h) p) (square_at (if a then left_of h else (if b then h else right_of h)) p)
      by true e b f g = reaches-itself (AreNeighbours squares) (square_at (left_of h) p)
      by false e true f g = ahead ((and_parts (squares (square_at h p)) (not (squares (square_at (right_of h) p))) f).0)
      by false e false f g =
          let there : squares (square_at h p) ≡ true = sym (ap (λ k. squares (square_at k p)) (right_of_left h))
          ∙ is_ahead (squares (square_at (left_of h) p)) (squares (square_at (right_of (left_of h)) p)) on_left e in
          let on_right : squares (square_at (right_of h) p) ≡ true =
          (and_parts (squares (square_at (right_of h) p)) (not (squares (square_at (right_of (right_of h)) p))) g).0 in
          reaches-onward (AreNeighbours squares) (square_at (left_of h) p) (square_at h p) (square_at (right_of h) p)
          (ahead there) (joined_beside h p there on_right)

  -- the square on the left of a side is joined with the one on the left of the side that follows
  pub following-joined : (s : Side) → IsTrue (is_border squares s)
      → AreJoined squares (left_square s) (left_square (following squares s))
  following-joined s border =
      subst (λ p. AreJoined squares p (left_square (following squares s))) (sym (left_at_end s.heading s.start))
      (joined_round s.heading (end_of s) (sym (border_at_end squares s) ∙ border) (following_border squares s border))

  -- and with those on the left of all that come later
  pub further-joined : (k : ℕ) (s : Side) → IsTrue (is_border squares s)
      → AreJoined squares (left_square s) (left_square (further squares k s))
  further-joined zero s border = reaches-itself (AreNeighbours squares) (left_square s)
  further-joined (suc k) s border =
      reaches-onward (AreNeighbours squares) (left_square s) (left_square (following squares s))
      (left_square (further squares k (following squares s)))
      (following-joined s border) (further-joined k (following squares s) (following_border squares s border))

  -- so a round stays on its face
  pub round-joined : (s : Side) (n : ℕ) → IsTrue (is_border squares s) → (t : Side) → Member (round_sides squares s n) t
      → AreJoined squares (left_square s) (left_square t)
  round-joined s n border t on =
      let (k, less, e) = member-earlier squares (suc n) s t on in
      subst (λ (u : Side). AreJoined squares (left_square s) (left_square u)) e (further-joined k s border)
