-- Unit squares are joined where their grid squares are.
use Rattle.std.proofs.Common.{◌≡◌, Bool, true, ℕ, zero, suc, ◌≤◌, ℤ, pos, ◌+ℤ◌, ◌-ℤ◌, IsTrue, refl, sym, ◌∙◌, ap, subst, arith}
use Rattle.std.proofs.lemmas.Bool.{both_ways}
use Rattle.std.proofs.lemmas.Int.{ints, by_lt_z}
use Rattle.face_laws.specs.GridRounds.{Rises, grid_point, AreSquaresOf, last_side}
use Rattle.solid_model.specs.Rounds.{Spot, Heading, East, North, West, South, left_of, spot_after, square_at, Side, end_of, left_square, is_border, turns, AreNeighbours, AreJoined}
use Rattle.lemmas.proofs.Chains.{reaches-then_step, reaches-step, reaches-onward, reaches-map}
use Rattle.face_laws.proofs.CornersOnGrid.{straight_between_columns, straight_between_rows, no_turn}
use Rattle.face_laws.proofs.GridLines.{LiesBetween, on_line, before_line, one_between, some_between}
use Rattle.lemmas.proofs.Integers.{natural, down_and_up}
use Rattle.face_laws.proofs.JoinedSides.{joined-back}
use Rattle.face_laws.proofs.Turns.{same_spot, step_back, step_forth, left_at_end}

module _ (squares : Spot → Bool) where
  -- squares in a row are joined,
  row_joined : (x y : ℤ) (d : ℕ) → ((k : ℕ) → k ≤ d → squares (record { u = x +ℤ pos k; v = y }) ≡ true)
      → AreJoined squares (record { u = x; v = y }) (record { u = x +ℤ pos d; v = y })
  row_joined x y zero there = (zero, same_spot _ _ (omega (arith, ints)) refl)
  row_joined x y (suc d) there = reaches-then_step (AreNeighbours squares) (record { u = x; v = y })
      (record { u = x +ℤ pos d; v = y }) (record { u = x +ℤ pos (suc d); v = y })
      (row_joined x y d (λ k l. there k (omega arith)))
      (there d (omega arith), there (suc d) (omega arith), (East, same_spot _ _ (omega (arith, ints)) refl))

  -- and so are those in a column
  column_joined : (x y : ℤ) (d : ℕ) → ((k : ℕ) → k ≤ d → squares (record { u = x; v = y +ℤ pos k }) ≡ true)
      → AreJoined squares (record { u = x; v = y }) (record { u = x; v = y +ℤ pos d })
  column_joined x y zero there = (zero, same_spot _ _ refl (omega (arith, ints)))
  column_joined x y (suc d) there = reaches-then_step (AreNeighbours squares) (record { u = x; v = y })
      (record { u = x; v = y +ℤ pos d }) (record { u = x; v = y +ℤ pos (suc d) })
      (column_joined x y d (λ k l. there k (omega arith)))
      (there d (omega arith), there (suc d) (omega arith), (North, same_spot _ _ refl (omega (arith, ints))))

module _ (cells squares : Spot → Bool) (across up : ℤ → ℤ) (rises_across : Rises across) (rises_up : Rises up)
    (same : AreSquaresOf across up cells squares) where
  abbrev InSquare : Spot → Spot → Type 0
  InSquare n p = LiesBetween across n.u p.u × LiesBetween up n.v p.v

  -- a unit square is there where its grid square is
  pub same_in : (n p : Spot) → InSquare n p → squares p ≡ cells n
  same_in n p (at_u, at_v) = same n p (record { left = at_u.low; right = at_u.high; below = at_v.low; above = at_v.high })

  -- the grid square of a unit square
  pub square_of : Spot → Spot
  square_of p = record { u = (some_between across rises_across p.u).0; v = (some_between up rises_up p.v).0 }

  pub square_of-in : (p : Spot) → InSquare (square_of p) p
  unfolding square_of
  square_of-in p = ((some_between across rises_across p.u).1, (some_between up rises_up p.v).1)

  -- there is one
  pub one_square : (n m p : Spot) → InSquare n p → InSquare m p → n ≡ m
  one_square n m p at at_too = same_spot n m (one_between across rises_across n.u m.u p.u at.0 at_too.0)
      (one_between up rises_up n.v m.v p.v at.1 at_too.1)

  -- a grid point's square lies in its grid square
  pub point_in : (n : Spot) → InSquare n (grid_point across up n)
  point_in n = (on_line across rises_across n.u, on_line up rises_up n.v)

  round_in : (h : Heading) (n : Spot) → InSquare (square_at h n) (square_at h (grid_point across up n))
  round_in East n = (on_line across rises_across n.u, on_line up rises_up n.v)
  round_in North n = (before_line across rises_across n.u, on_line up rises_up n.v)
  round_in West n = (before_line across rises_across n.u, before_line up rises_up n.v)
  round_in South n = (on_line across rises_across n.u, before_line up rises_up n.v)

  -- the square on the left of the last unit side of a side lies in the one on the left of that side
  pub last_left : (s : Side) → InSquare (left_square s) (left_square (last_side across up s))
  last_left s =
      subst (λ n. InSquare n (left_square (last_side across up s))) (sym (left_at_end s.heading s.start))
      (subst (InSquare (square_at (left_of s.heading) (end_of s)))
      (sym (left_at_end s.heading (last_side across up s).start
      ∙ ap (square_at (left_of s.heading)) (step_forth s.heading (grid_point across up (end_of s)))))
      (round_in (left_of s.heading) (end_of s)))

  -- ---- from grid squares to unit squares

  -- the unit squares of a grid square are joined
  pub in_joined : (n p : Spot) → cells n ≡ true → InSquare n p → AreJoined squares (grid_point across up n) p
  in_joined n p full at =
      let (d, e) = natural (p.u -ℤ across n.u) (let l = at.0.low in omega (arith, ints)) in
      let (f, g) = natural (p.v -ℤ up n.v) (let l = at.1.low in omega (arith, ints)) in
      let u_is : across n.u +ℤ pos d ≡ p.u = omega (arith, ints, e) in
      let v_is : up n.v +ℤ pos f ≡ p.v = omega (arith, ints, g) in
      let row : AreJoined squares (grid_point across up n) (record { u = across n.u +ℤ pos d; v = up n.v }) =
      row_joined squares (across n.u) (up n.v) d (λ k l. same_in n (record { u = across n.u +ℤ pos k; v = up n.v })
      (record { low = omega (arith, ints); high = omega (arith, ints, at.0.high, u_is) }, on_line up rises_up n.v) ∙ full) in
      let column : AreJoined squares (record { u = across n.u +ℤ pos d; v = up n.v })
      (record { u = across n.u +ℤ pos d; v = up n.v +ℤ pos f }) =
      column_joined squares (across n.u +ℤ pos d) (up n.v) f
      (λ k l. same_in n (record { u = across n.u +ℤ pos d; v = up n.v +ℤ pos k }) (
        record { low = omega (arith, ints); high = omega (arith, ints, at.0.high, u_is) },
        record {
          low = omega
              (arith, ints);
          high = omega (arith, ints, at.1.high, v_is);
        },
      ) ∙ full) in
      subst (AreJoined squares (grid_point across up n))
      (same_spot (record { u = across n.u +ℤ pos d; v = up n.v +ℤ pos f }) p u_is v_is)
      (reaches-onward (AreNeighbours squares) (grid_point across up n) (record { u = across n.u +ℤ pos d; v = up n.v })
      (record { u = across n.u +ℤ pos d; v = up n.v +ℤ pos f }) row column)

  -- those of two neighbours are joined, one to the right of the other
  right_joined : (n : Spot) → cells n ≡ true → cells (spot_after East n) ≡ true
      → AreJoined squares (grid_point across up n) (grid_point across up (spot_after East n))
  right_joined n full full_too =
      let p : Spot = record { u = across (n.u +ℤ pos 1) -ℤ pos 1; v = up n.v } in
      let in_p : InSquare n p = (
        let r = rises_across n.u in record {
          low = omega (arith, ints, r);
          high = omega
              (arith, ints);
        },
        on_line up rises_up n.v,
      ) in
      reaches-then_step (AreNeighbours squares) (grid_point across up n) p (grid_point across up (spot_after East n))
      (in_joined n p full in_p) (
        same_in n p in_p ∙ full,
        same_in (spot_after East n) (grid_point across up (spot_after East n)) (point_in (spot_after East n)) ∙ full_too,
        (East, same_spot _ _ (sym (down_and_up (across (n.u +ℤ pos 1)))) refl),
      )

  -- or above it
  above_joined : (n : Spot) → cells n ≡ true → cells (spot_after North n) ≡ true
      → AreJoined squares (grid_point across up n) (grid_point across up (spot_after North n))
  above_joined n full full_too =
      let p : Spot = record { u = across n.u; v = up (n.v +ℤ pos 1) -ℤ pos 1 } in
      let in_p : InSquare n p = (
        on_line across rises_across n.u,
        let r = rises_up n.v in record {
          low = omega (arith, ints, r);
          high = omega
              (arith, ints);
        },
      ) in
      reaches-then_step (AreNeighbours squares) (grid_point across up n) p (grid_point across up (spot_after North n))
      (in_joined n p full in_p) (
        same_in n p in_p ∙ full,
        same_in (spot_after North n) (grid_point across up (spot_after North n)) (point_in (spot_after North n)) ∙ full_too,
        (North, same_spot _ _ refl (sym (down_and_up (up (n.v +ℤ pos 1))))),
      )

  neighbours_joined : (n m : Spot) → AreNeighbours cells n m → AreJoined squares (grid_point across up n) (grid_point across up m)
  neighbours_joined n m (full, full_too, (h, e)) =
      subst (λ o. AreJoined squares (grid_point across up n) (grid_point across up o)) (sym e)
      (by h (subst (λ o. cells o ≡ true) e full_too))
    where
      by : (k : Heading) → cells (spot_after k n) ≡ true
          → AreJoined squares (grid_point across up n) (grid_point across up (spot_after k n))
      by East f = right_joined n full f
      by North f = above_joined n full f
      by West f = joined-back squares (grid_point across up (spot_after West n)) (grid_point across up n)
          (subst (λ o. AreJoined squares (grid_point across up (spot_after West n)) (grid_point across up o)) (step_back West n)
          (right_joined (spot_after West n) f (ap cells (step_back West n) ∙ full)))
      by South f = joined-back squares (grid_point across up (spot_after South n)) (grid_point across up n)
          (subst (λ o. AreJoined squares (grid_point across up (spot_after South n)) (grid_point across up o)) (step_back South n)
          (above_joined (spot_after South n) f (ap cells (step_back South n) ∙ full)))

  -- unit squares are joined where their grid squares are
  pub cells_joined : (n m : Spot) → AreJoined cells n m → AreJoined squares (grid_point across up n) (grid_point across up m)
  cells_joined = reaches-map (AreNeighbours cells) (AreNeighbours squares) (grid_point across up) neighbours_joined

  -- ---- and back

  step_right : (n m p : Spot) → InSquare n p → InSquare m (spot_after East p) → cells n ≡ true → cells m ≡ true
      → AreJoined cells n m
  step_right n m p at at_too full full_too = by_lt_z (p.u +ℤ pos 1) (across (n.u +ℤ pos 1))
      (λ less. (
        zero,
        one_square n m (spot_after East p)
            (record { low = let l = at.0.low in omega (arith, ints); high = less }, at.1) at_too,
      ))
      (λ most. let e : p.u +ℤ pos 1 ≡ across (n.u +ℤ pos 1) = let l = at.0.high in omega (arith, ints) in
      let in_next : InSquare (spot_after East n) (spot_after East p) =
      (subst (LiesBetween across (n.u +ℤ pos 1)) (sym e) (on_line across rises_across (n.u +ℤ pos 1)), at.1) in
      let is : spot_after East n ≡ m = one_square (spot_after East n) m (spot_after East p) in_next at_too in
      reaches-step (AreNeighbours cells) n m (full, full_too, (East, sym is)))

  step_up : (n m p : Spot) → InSquare n p → InSquare m (spot_after North p) → cells n ≡ true → cells m ≡ true
      → AreJoined cells n m
  step_up n m p at at_too full full_too = by_lt_z (p.v +ℤ pos 1) (up (n.v +ℤ pos 1))
      (λ less. (
        zero,
        one_square n m (spot_after North p)
            (at.0, record { low = let l = at.1.low in omega (arith, ints); high = less }) at_too,
      ))
      (λ most. let e : p.v +ℤ pos 1 ≡ up (n.v +ℤ pos 1) = let l = at.1.high in omega (arith, ints) in
      let in_next : InSquare (spot_after North n) (spot_after North p) =
      (at.0, subst (LiesBetween up (n.v +ℤ pos 1)) (sym e) (on_line up rises_up (n.v +ℤ pos 1))) in
      let is : spot_after North n ≡ m = one_square (spot_after North n) m (spot_after North p) in_next at_too in
      reaches-step (AreNeighbours cells) n m (full, full_too, (North, sym is)))

  step_joined : (p q : Spot) → AreNeighbours squares p q → AreJoined cells (square_of p) (square_of q)
  step_joined p q (full, full_too, (h, e)) = by h e
    where
      here : cells (square_of p) ≡ true
      here = sym (same_in (square_of p) p (square_of-in p)) ∙ full

      there : cells (square_of q) ≡ true
      there = sym (same_in (square_of q) q (square_of-in q)) ∙ full_too

      by : (k : Heading) → q ≡ spot_after k p → AreJoined cells (square_of p) (square_of q)
      by East f = step_right (square_of p) (square_of q) p (square_of-in p)
          (subst (InSquare (square_of q)) f (square_of-in q)) here there
      by North f = step_up (square_of p) (square_of q) p (square_of-in p)
          (subst (InSquare (square_of q)) f (square_of-in q)) here there
      by West f = joined-back cells (square_of q) (square_of p) (step_right (square_of q) (square_of p) q (square_of-in q)
          (subst (InSquare (square_of p)) (sym (ap (spot_after East) f ∙ step_back West p)) (square_of-in p)) there here)
      by South f = joined-back cells (square_of q) (square_of p) (step_up (square_of q) (square_of p) q (square_of-in q)
          (subst (InSquare (square_of p)) (sym (ap (spot_after North) f ∙ step_back South p)) (square_of-in p)) there here)

  -- grid squares are joined where unit squares of them are
  pub squares_joined : (n m p q : Spot) → InSquare n p → InSquare m q → AreJoined squares p q → AreJoined cells n m
  squares_joined n m p q at at_too chain =
      subst (λ o. AreJoined cells o m) (one_square (square_of p) n p (square_of-in p) at)
      (subst (AreJoined cells (square_of p)) (one_square (square_of q) m q (square_of-in q) at_too)
      (reaches-map (AreNeighbours squares) (AreNeighbours cells) square_of step_joined p q chain))

  -- ---- where a border turns two lines cross

  not_between : (line : ℤ → ℤ) → Rises line → (x : ℤ) → ((k : ℤ) → LiesBetween line k (x -ℤ pos 1) → LiesBetween line k x → ⊥)
      → (k : ℤ) × (x ≡ line k)
  not_between line rises x never =
      let (k, at) = some_between line rises x in
      by_lt_z (line k) x
      (λ less. absurd (never k (record { low = omega (arith, ints); high = let h = at.high in omega (arith, ints) }) at))
      (λ most. (k, let l = at.low in omega (arith, ints)))

  pub turn_on_grid : (t : Side) → IsTrue (is_border squares t) → IsTrue (turns squares t)
      → (n : Spot) × (end_of t ≡ grid_point across up n)
  turn_on_grid t border turn =
      let p : Spot = end_of t in
      let (i, i_is) = not_between across rises_across p.u (λ k before at. both_ways (turns squares t) (no_turn squares t border
      (straight_between_columns squares t border
      (let (j, at_v) = some_between up rises_up p.v in
      same_in (record { u = k; v = j }) (spot_after West p) (before, at_v) ∙ sym (same_in (record { u = k; v = j }) p (at, at_v)))
      (let (j, at_v) = some_between up rises_up (p.v -ℤ pos 1) in
      same_in (record { u = k; v = j }) (spot_after West (spot_after South p)) (before, at_v)
      ∙ sym (same_in (record { u = k; v = j }) (spot_after South p) (at, at_v))))) turn) in
      let (j, j_is) = not_between up rises_up p.v (λ k before at. both_ways (turns squares t) (no_turn squares t border
      (straight_between_rows squares t border
      (let (l, at_u) = some_between across rises_across p.u in
      same_in (record { u = l; v = k }) (spot_after South p) (at_u, before)
      ∙ sym (same_in (record { u = l; v = k }) p (at_u, at)))
      (let (l, at_u) = some_between across rises_across (p.u -ℤ pos 1) in
      same_in (record { u = l; v = k }) (spot_after South (spot_after West p)) (at_u, before)
      ∙ sym (same_in (record { u = l; v = k }) (spot_after West p) (at_u, at))))) turn) in
      (record { u = i; v = j }, same_spot (end_of t) (grid_point across up (record { u = i; v = j })) i_is j_is)
