-- The unit sides along a side of a grid square.
use Rattle.std.proofs.Common.{◌≡◌, Bool, false, not, ℕ, zero, suc, ◌<◌, ◌≤◌, ℤ, pos, ◌+ℤ◌, ◌-ℤ◌, IsTrue, refl, sym, ◌∙◌, ap, subst, arith}
use Rattle.std.proofs.lemmas.Int.{ints}
use Rattle.face_laws.specs.GridRounds.{Rises, grid_point, AreSquaresOf, back_of, last_side}
use Rattle.solid_model.specs.Rounds.{Spot, Heading, East, North, West, South, same_heading, spot_after, Side, end_of, is_border, heading_after, following, turns}
use Rattle.face_laws.proofs.CornersOnGrid.{straight_between_columns, straight_between_rows, no_turn}
use Rattle.face_laws.proofs.GridLines.{beyond, LiesBetween, on_line, before_line, one_between, one_line}
use Rattle.face_laws.proofs.Turns.{same_spot, same_side, step_back, round, arrives, leaves, onward, border_at_end}
use Rattle.lemmas.proofs.Integers.{down_and_up}

-- so many units farther
abbrev pub walked : Heading → ℕ → Spot → Spot
walked East k p = record p { u = p.u +ℤ pos k }
walked North k p = record p { v = p.v +ℤ pos k }
walked West k p = record p { u = p.u -ℤ pos k }
walked South k p = record p { v = p.v -ℤ pos k }

one_more : (z : ℤ) (k : ℕ) → (z +ℤ pos k) +ℤ pos 1 ≡ z +ℤ pos (suc k)
one_more z k = omega (arith, ints)

one_less : (z : ℤ) (k : ℕ) → (z -ℤ pos k) -ℤ pos 1 ≡ z -ℤ pos (suc k)
one_less z k = omega (arith, ints)

none_more : (z : ℤ) → z +ℤ pos 0 ≡ z
none_more z = omega (arith, ints)

none_less : (z : ℤ) → z -ℤ pos 0 ≡ z
none_less z = omega (arith, ints)

pub walked-next : (h : Heading) (k : ℕ) (p : Spot) → spot_after h (walked h k p) ≡ walked h (suc k) p
walked-next East k p = same_spot _ (walked East (suc k) p) (one_more p.u k) refl
walked-next North k p = same_spot _ (walked North (suc k) p) refl (one_more p.v k)
walked-next West k p = same_spot _ (walked West (suc k) p) (one_less p.u k) refl
walked-next South k p = same_spot _ (walked South (suc k) p) refl (one_less p.v k)

pub walked-none : (h : Heading) (p : Spot) → walked h zero p ≡ p
walked-none East p = same_spot _ p (none_more p.u) refl
walked-none North p = same_spot _ p refl (none_more p.v)
walked-none West p = same_spot _ p (none_less p.u) refl
walked-none South p = same_spot _ p refl (none_less p.v)

-- ---- places strictly between two lines

-- both sides of a point lie between a line and the next one
abbrev pub WithinGap : (ℤ → ℤ) → ℤ → ℤ → Type 0
WithinGap line i x = LiesBetween line i (x -ℤ pos 1) × LiesBetween line i x

within_forward : (line : ℤ → ℤ) (i : ℤ) (m k : ℕ) → line (i +ℤ pos 1) ≡ line i +ℤ pos (suc m) → k < m
    → WithinGap line i ((line i +ℤ pos k) +ℤ pos 1)
within_forward line i m k e l = (
  record { low = omega (arith, ints); high = omega (arith, ints) },
  record { low = omega (arith, ints); high = omega (arith, ints) },
)

within_backward : (line : ℤ → ℤ) (i : ℤ) (m k : ℕ) → line (i -ℤ pos 1) ≡ line i -ℤ pos (suc m) → k < m
    → WithinGap line (i -ℤ pos 1) ((line i -ℤ pos k) -ℤ pos 1)
within_backward line i m k e l =
    let f : line ((i -ℤ pos 1) +ℤ pos 1) ≡ line i = ap line (down_and_up i) in (
      record { low = omega (arith, ints); high = omega (arith, ints) },
      record { low = omega (arith, ints); high = omega (arith, ints) },
    )

module _ (cells squares : Spot → Bool) (across up : ℤ → ℤ) (rises_across : Rises across) (rises_up : Rises up)
    (same : AreSquaresOf across up cells squares) where
  -- a unit square between lines is there where its grid square is
  same_at : (i j x y : ℤ) → LiesBetween across i x → LiesBetween up j y
      → squares (record { u = x; v = y }) ≡ cells (record { u = i; v = j })
  same_at i j x y at_x at_y = same (record { u = i; v = j }) (record { u = x; v = y })
      (record { left = at_x.low; right = at_x.high; below = at_y.low; above = at_y.high })

  -- round a grid point the unit squares are as the grid squares
  pub round_here : (n : Spot) → round squares (grid_point across up n) ≡ round cells n
  round_here n = λ i h. at h i
    where
      at : (h : Heading) → round squares (grid_point across up n) h ≡ round cells n h
      at East = same_at n.u n.v _ _ (on_line across rises_across n.u) (on_line up rises_up n.v)
      at North = same_at (n.u -ℤ pos 1) n.v _ _ (before_line across rises_across n.u) (on_line up rises_up n.v)
      at West = same_at (n.u -ℤ pos 1) (n.v -ℤ pos 1) _ _ (before_line across rises_across n.u) (before_line up rises_up n.v)
      at South = same_at n.u (n.v -ℤ pos 1) _ _ (on_line across rises_across n.u) (before_line up rises_up n.v)

  -- how many units a side of a grid square has, less one
  length_of : (h : Heading) (n : Spot)
      → (m : ℕ) × (grid_point across up (spot_after h n) ≡ walked h (suc m) (grid_point across up n))
  length_of East n = let (m, e) = beyond (across n.u) (across (n.u +ℤ pos 1)) (rises_across n.u) in (m, same_spot _ _ e refl)
  length_of North n = let (m, e) = beyond (up n.v) (up (n.v +ℤ pos 1)) (rises_up n.v) in (m, same_spot _ _ refl e)
  length_of West n =
      let f : across ((n.u -ℤ pos 1) +ℤ pos 1) ≡ across n.u = ap across (down_and_up n.u) in
      let (m, e) = beyond (across (n.u -ℤ pos 1)) (across ((n.u -ℤ pos 1) +ℤ pos 1)) (rises_across (n.u -ℤ pos 1)) in
      (m, same_spot _ _ (omega (arith, ints, e, f)) refl)
  length_of South n =
      let f : up ((n.v -ℤ pos 1) +ℤ pos 1) ≡ up n.v = ap up (down_and_up n.v) in
      let (m, e) = beyond (up (n.v -ℤ pos 1)) (up ((n.v -ℤ pos 1) +ℤ pos 1)) (rises_up (n.v -ℤ pos 1)) in
      (m, same_spot _ _ refl (omega (arith, ints, e, f)))

  pub most : Side → ℕ
  most s = (length_of s.heading s.start).0

  pub grid_end : (s : Side) → grid_point across up (end_of s) ≡ walked s.heading (suc (most s)) (grid_point across up s.start)
  unfolding most
  grid_end s = (length_of s.heading s.start).1

  -- its unit sides, from 0 on
  abbrev pub unit : Side → ℕ → Side
  unit s k = record { start = walked s.heading k (grid_point across up s.start); heading = s.heading }

  -- ---- from one to the next

  -- before the last one the border goes straight on
  straight_on : (h : Heading) (n : Spot) (m k : ℕ)
      → grid_point across up (spot_after h n) ≡ walked h (suc m) (grid_point across up n) → k < m
      → IsTrue (is_border squares (unit (record { start = n; heading = h }) k))
      → heading_after squares (unit (record { start = n; heading = h }) k) ≡ h
  straight_on East n m k e l border =
      let (left, right) = within_forward across n.u m k (ap (λ (p : Spot). p.u) e) l in
      let here = on_line up rises_up n.v in let under = before_line up rises_up n.v in
      straight_between_columns squares (unit (record { start = n; heading = East }) k) border
      (same_at n.u n.v _ _ left here ∙ sym (same_at n.u n.v _ _ right here))
      (same_at n.u (n.v -ℤ pos 1) _ _ left under ∙ sym (same_at n.u (n.v -ℤ pos 1) _ _ right under))
  straight_on North n m k e l border =
      let (below, above) = within_forward up n.v m k (ap (λ (p : Spot). p.v) e) l in
      let here = on_line across rises_across n.u in let left = before_line across rises_across n.u in
      straight_between_rows squares (unit (record { start = n; heading = North }) k) border
      (same_at n.u n.v _ _ here below ∙ sym (same_at n.u n.v _ _ here above))
      (same_at (n.u -ℤ pos 1) n.v _ _ left below ∙ sym (same_at (n.u -ℤ pos 1) n.v _ _ left above))
  straight_on West n m k e l border =
      let (left, right) = within_backward across n.u m k (ap (λ (p : Spot). p.u) e) l in
      let here = on_line up rises_up n.v in let under = before_line up rises_up n.v in
      straight_between_columns squares (unit (record { start = n; heading = West }) k) border
      (same_at (n.u -ℤ pos 1) n.v _ _ left here ∙ sym (same_at (n.u -ℤ pos 1) n.v _ _ right here))
      (same_at (n.u -ℤ pos 1) (n.v -ℤ pos 1) _ _ left under ∙ sym (same_at (n.u -ℤ pos 1) (n.v -ℤ pos 1) _ _ right under))
  straight_on South n m k e l border =
      let (below, above) = within_backward up n.v m k (ap (λ (p : Spot). p.v) e) l in
      let here = on_line across rises_across n.u in let left = before_line across rises_across n.u in
      straight_between_rows squares (unit (record { start = n; heading = South }) k) border
      (same_at n.u (n.v -ℤ pos 1) _ _ here below ∙ sym (same_at n.u (n.v -ℤ pos 1) _ _ here above))
      (same_at (n.u -ℤ pos 1) (n.v -ℤ pos 1) _ _ left below ∙ sym (same_at (n.u -ℤ pos 1) (n.v -ℤ pos 1) _ _ left above))

  -- a unit side that isn't the last one is followed by the next one, with no turn
  pub unit-next : (s : Side) (k : ℕ) → k < most s → IsTrue (is_border squares (unit s k))
      → (following squares (unit s k) ≡ unit s (suc k)) × (turns squares (unit s k) ≡ false)
  unit-next s k l border =
      let straight = straight_on s.heading s.start (most s) k (grid_end s) l border in (
        same_side _ (unit s (suc k)) (walked-next s.heading k (grid_point across up s.start)) straight,
        no_turn squares (unit s k) border straight,
      )

  -- the first one is border where the side of the grid square is
  pub first_border : (s : Side) → is_border squares (unit s zero) ≡ is_border cells s
  first_border s =
      ap (λ p. leaves (round squares p) s.heading) (walked-none s.heading (grid_point across up s.start))
      ∙ ap (λ (r : Heading → Bool). leaves r s.heading) (round_here s.start)

  -- the last one
  abbrev pub last_unit : Side → Side
  last_unit s = unit s (most s)

  -- ends where that ends,
  pub last_end : (s : Side) → end_of (last_unit s) ≡ grid_point across up (end_of s)
  last_end s = walked-next s.heading (most s) (grid_point across up s.start) ∙ sym (grid_end s)

  round_last : (s : Side) → round squares (end_of (last_unit s)) ≡ round cells (end_of s)
  round_last s = ap (round squares) (last_end s) ∙ round_here (end_of s)

  -- is border where that is,
  pub last_border : (s : Side) → is_border squares (last_unit s) ≡ is_border cells s
  last_border s =
      border_at_end squares (last_unit s) ∙ ap (λ (r : Heading → Bool). arrives r s.heading) (round_last s)
      ∙ sym (border_at_end cells s)

  last_heading : (s : Side) → heading_after squares (last_unit s) ≡ heading_after cells s
  last_heading s = ap (λ (r : Heading → Bool). onward r s.heading) (round_last s)

  -- turns as that turns,
  pub last_turns : (s : Side) → turns squares (last_unit s) ≡ turns cells s
  last_turns s = ap (λ k. not (same_heading k s.heading)) (last_heading s)

  -- and is followed by the first unit side of what follows that
  pub last_following : (s : Side) → following squares (last_unit s) ≡ unit (following cells s) zero
  last_following s =
      same_side _ (unit (following cells s) zero)
      (last_end s ∙ sym (walked-none (heading_after cells s) (grid_point across up (end_of s)))) (last_heading s)

  -- it is the one named so
  pub last_is : (s : Side) → last_side across up s ≡ last_unit s
  last_is s = same_side (last_side across up s) (last_unit s)
      (ap (spot_after (back_of s.heading)) (sym (last_end s))
      ∙ step_back s.heading (walked s.heading (most s) (grid_point across up s.start))) refl

  -- ---- a unit side is of one side of a grid square

  forward_one : (line : ℤ → ℤ) → Rises line → (i j : ℤ) (m n a b : ℕ) → line (i +ℤ pos 1) ≡ line i +ℤ pos (suc m)
      → line (j +ℤ pos 1) ≡ line j +ℤ pos (suc n)
      → a ≤ m → b ≤ n → line i +ℤ pos a ≡ line j +ℤ pos b → i ≡ j
  forward_one line rises i j m n a b e f l k same_place = one_between line rises i j (line i +ℤ pos a)
      (record { low = omega (arith, ints); high = omega (arith, ints) })
      (record { low = omega (arith, ints); high = omega (arith, ints) })

  backward_one : (line : ℤ → ℤ) → Rises line → (i j : ℤ) (m n a b : ℕ) → line (i -ℤ pos 1) ≡ line i -ℤ pos (suc m)
      → line (j -ℤ pos 1) ≡ line j -ℤ pos (suc n)
      → a ≤ m → b ≤ n → line i -ℤ pos a ≡ line j -ℤ pos b → i ≡ j
  backward_one line rises i j m n a b e f l k same_place =
      let g : line ((i -ℤ pos 1) +ℤ pos 1) ≡ line i = ap line (down_and_up i) in
      let h : line ((j -ℤ pos 1) +ℤ pos 1) ≡ line j = ap line (down_and_up j) in
      let one : i -ℤ pos 1 ≡ j -ℤ pos 1 = one_between line rises (i -ℤ pos 1) (j -ℤ pos 1) ((line i -ℤ pos a) -ℤ pos 1)
      (record { low = omega (arith, ints); high = omega (arith, ints) })
      (record { low = omega (arith, ints); high = omega (arith, ints) }) in
      omega (arith, ints, one)

  one_start_of : (h : Heading) (n o : Spot) (m l a b : ℕ)
      → grid_point across up (spot_after h n) ≡ walked h (suc m) (grid_point across up n)
      → grid_point across up (spot_after h o) ≡ walked h (suc l) (grid_point across up o) → a ≤ m → b ≤ l
      → walked h a (grid_point across up n) ≡ walked h b (grid_point across up o) → n ≡ o
  one_start_of East n o m l a b e f p q s = same_spot n o
      (forward_one across rises_across n.u o.u m l a b (ap (λ (x : Spot). x.u) e) (ap (λ (x : Spot). x.u) f) p q
      (ap (λ (x : Spot). x.u) s))
      (one_line up rises_up n.v o.v (ap (λ (x : Spot). x.v) s))
  one_start_of North n o m l a b e f p q s = same_spot n o
      (one_line across rises_across n.u o.u (ap (λ (x : Spot). x.u) s))
      (forward_one up rises_up n.v o.v m l a b (ap (λ (x : Spot). x.v) e) (ap (λ (x : Spot). x.v) f) p q
      (ap (λ (x : Spot). x.v) s))
  one_start_of West n o m l a b e f p q s = same_spot n o
      (backward_one across rises_across n.u o.u m l a b (ap (λ (x : Spot). x.u) e) (ap (λ (x : Spot). x.u) f) p q
      (ap (λ (x : Spot). x.u) s))
      (one_line up rises_up n.v o.v (ap (λ (x : Spot). x.v) s))
  one_start_of South n o m l a b e f p q s = same_spot n o
      (one_line across rises_across n.u o.u (ap (λ (x : Spot). x.u) s))
      (backward_one up rises_up n.v o.v m l a b (ap (λ (x : Spot). x.v) e) (ap (λ (x : Spot). x.v) f) p q
      (ap (λ (x : Spot). x.v) s))

  walked_one : (h : Heading) (a b : ℕ) (p : Spot) → walked h a p ≡ walked h b p → a ≡ b
  walked_one East a b p e = let f : p.u +ℤ pos a ≡ p.u +ℤ pos b = ap (λ (x : Spot). x.u) e in omega (arith, ints, f)
  walked_one North a b p e = let f : p.v +ℤ pos a ≡ p.v +ℤ pos b = ap (λ (x : Spot). x.v) e in omega (arith, ints, f)
  walked_one West a b p e = let f : p.u -ℤ pos a ≡ p.u -ℤ pos b = ap (λ (x : Spot). x.u) e in omega (arith, ints, f)
  walked_one South a b p e = let f : p.v -ℤ pos a ≡ p.v -ℤ pos b = ap (λ (x : Spot). x.v) e in omega (arith, ints, f)

  pub unit_one : (s t : Side) (a b : ℕ) → a ≤ most s → b ≤ most t → unit s a ≡ unit t b → s ≡ t
  unit_one s t a b p q e =
      let heading : s.heading ≡ t.heading = ap (λ (x : Side). x.heading) e in
      let f : grid_point across up (spot_after s.heading t.start) ≡ walked s.heading (suc (most t))
      (grid_point across up t.start) =
      subst (λ h. grid_point across up (spot_after h t.start) ≡ walked h (suc (most t)) (grid_point across up t.start))
      (sym heading) (grid_end t) in
      let starts : walked s.heading a (grid_point across up s.start) ≡ walked s.heading b (grid_point across up t.start) =
      ap (λ (x : Side). x.start) e ∙ ap (λ h. walked h b (grid_point across up t.start)) (sym heading) in
      same_side s t (one_start_of s.heading s.start t.start (most s) (most t) a b (grid_end s) f p q starts) heading

  pub unit_place : (s : Side) (a b : ℕ) → unit s a ≡ unit s b → a ≡ b
  unit_place s a b e = walked_one s.heading a b (grid_point across up s.start) (ap (λ (x : Side). x.start) e)
