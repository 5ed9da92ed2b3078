-- Of two loops one starts before the other, unless they are one; and each face has a loop.
use Rattle.std.proofs.Common.{◌≡◌, ◌⊎◌, inl, inr, Bool, true, false, not, ◌&&◌, ℕ, zero, suc, List, [], ◌∷◌, map, ℤ, pos, ◌+ℤ◌, ◌-ℤ◌, ◌≤ℤ◌, IsTrue, refl, sym, ◌∙◌, ap, ap₂, subst, subst₂, arith}
use Rattle.std.proofs.lemmas.Bool.{false≢true}
use Rattle.std.proofs.lemmas.Int.{ints}
use Rattle.solid_model.specs.declared.cell.Cell.{Cell}
use Rattle.solid_model.specs.Faces.{BeginsLeast, IsLoopOf, StartsBefore, AreLoopsOf, first_loop}
use Rattle.lemmas.specs.Lists.{Member, Each}
use Rattle.solid_model.specs.Orders.{ComesBefore}
use Rattle.solid_model.specs.Rounds.{Spot, South, West, spot_after, Side, end_of, left_square, right_square, is_border, following, sides_from, IsRound, corners, round_corners, AreNeighbours, AreJoined}
use Rattle.solid_model.proofs.CellOrder.{before_onward, one_or_before}
use Rattle.lemmas.proofs.Chains.{reaches-itself, reaches-onward, reaches-step_then}
use Rattle.lemmas.proofs.Integers.{natural, up_and_down}
use Rattle.face_laws.proofs.JoinedSides.{joined-back, round-joined}
use Rattle.face_laws.proofs.LeastSides.{GoesDown, KeepsOrder, comes_down, one_down, corners_from}
use Rattle.lemmas.proofs.Lists.{least_member}
use Rattle.face_laws.proofs.ListedLoops.{GoesAlong}
use Rattle.face_laws.proofs.RoundStarts.{begins_least_side, one_length}
use Rattle.face_laws.proofs.SomeLoop.{side_of, some_round}
use Rattle.face_laws.proofs.Turns.{same_spot}

-- what starts before a loop starts before whatever that starts before
pub starts_onward : (l m n : List Cell) → StartsBefore l m → StartsBefore m n → StartsBefore l n
starts_onward [] m n h k = absurd (false≢true h)
starts_onward (b ∷ bs) [] n h k = absurd (false≢true h)
starts_onward (b ∷ bs) (c ∷ cs) [] h k = absurd (false≢true k)
starts_onward (b ∷ bs) (c ∷ cs) (d ∷ ds) h k = before_onward b c d h k

module _ (squares : Spot → Bool) (there : Spot → Cell) (keeps : KeepsOrder there) where
  -- ---- two loops

  -- a round that begins at its least corner comes down to it
  begins_down : (s : Side) (n : ℕ) → IsRound squares s n → BeginsLeast (map there (round_corners squares s n)) → GoesDown s.heading
  begins_down s n is begins =
      comes_down squares there keeps s n is.border is.back (begins_least_side squares there keeps s n is begins) s (inl refl) refl

  -- Two rounds that begin at one least corner are one: only one side of the border comes down to it.
  one_first : (s t : Side) (n m : ℕ) → IsRound squares s n → IsRound squares t m → BeginsLeast (map there (round_corners squares s n))
      → BeginsLeast (map there (round_corners squares t m)) → end_of s ≡ end_of t → (s ≡ t) × (n ≡ m)
  one_first s t n m is is_too begins begins_too ends =
      let same : s ≡ t = one_down squares s t is.border is_too.border (begins_down s n is begins) (begins_down t m is_too begins_too) ends in
      (same, one_length squares s n m is (subst (λ x. IsRound squares x m) (sym same) is_too))

  -- the corners of a round that come after its first one
  abbrev later_corners : Side → ℕ → List Cell
  later_corners s n = map there (corners squares (sides_from squares n (following squares s)))

  -- a loop's first corner is the end of its round's first side
  first_corner : (s : Side) (n : ℕ) → IsRound squares s n → map there (round_corners squares s n) ≡ there (end_of s) ∷ later_corners s n
  first_corner s n is = ap (map there) (corners_from squares there keeps s (sides_from squares n (following squares s)) is.corner)

  -- of two loops one starts before the other, unless they are one, and their faces too
  pub loops_in_order : (p q : Spot) (l m : List Cell) → IsLoopOf squares there p l → IsLoopOf squares there q m
      → ((l ≡ m) × AreJoined squares p q) ⊎ (StartsBefore l m ⊎ StartsBefore m l)
  loops_in_order p q l m (s, n, is, joined, e, begins) (t, k, is_too, joined_too, f, begins_too) =
      by (one_or_before (there (end_of s)) (there (end_of t)))
    where
      starts : l ≡ there (end_of s) ∷ later_corners s n
      starts = e ∙ first_corner s n is

      starts_too : m ≡ there (end_of t) ∷ later_corners t k
      starts_too = f ∙ first_corner t k is_too

      -- two that begin at one point are loops of one face
      at_one : (s ≡ t) × (n ≡ k) → (l ≡ m) × AreJoined squares p q
      at_one one = (
        e ∙ ap₂ (λ (x : Side) (j : ℕ). map there (round_corners squares x j)) one.0 one.1 ∙ sym f,
        reaches-onward (AreNeighbours squares) p (left_square t) q (subst (λ (x : Side). AreJoined squares p (left_square x)) one.0 joined)
            (joined-back squares q (left_square t) joined_too),
      )

      by : (there (end_of s) ≡ there (end_of t))
          ⊎ (ComesBefore (there (end_of s)) (there (end_of t)) ⊎ ComesBefore (there (end_of t)) (there (end_of s)))
          → ((l ≡ m) × AreJoined squares p q) ⊎ (StartsBefore l m ⊎ StartsBefore m l)
      by (inl same) = inl (at_one (one_first s t n k is is_too
          (subst BeginsLeast e begins) (subst BeginsLeast f begins_too) (keeps.one (end_of s) (end_of t) same)))
      by (inr (inl first)) = inr (inl (subst₂ StartsBefore (sym starts) (sym starts_too) first))
      by (inr (inr later)) = inr (inr (subst₂ StartsBefore (sym starts_too) (sym starts) later))

  module _ (ps : List Spot) (finite : (p : Spot) → IsTrue (squares p) → Member ps p) where
    -- ---- the loop of a side

    -- each side of the face's border is on a loop of it
    pub side_loop : (q : Spot) (r : Side) → IsTrue (is_border squares r) → AreJoined squares q (left_square r)
        → (loop : List Cell) × IsLoopOf squares there q loop × GoesAlong squares there r loop
    side_loop q r border joined =
        let (s, n, is, begins, on) = some_round squares ps finite there keeps r border in
        let back : AreJoined squares (left_square r) (left_square s) =
        joined-back squares (left_square s) (left_square r) (round-joined squares s n is.border r on) in (
          map there (round_corners squares s n),
          (s, n, is, reaches-onward (AreNeighbours squares) q (left_square r) (left_square s) joined back, refl, begins),
          record { start = s; length = n; is_round = is; is = refl; begins = begins; on = on },
        )

    -- ---- each face has a side

    left_of_side : (p : Spot) → left_square (side_of South p) ≡ p
    left_of_side p = same_spot _ p refl (up_and_down p.v)

    -- where no square lies on the left of a square there is a side
    on_left : (p : Spot) → squares p ≡ true → squares (spot_after West p) ≡ false → is_border squares (side_of South p) ≡ true
    on_left p full none =
        let right : right_square (side_of South p) ≡ spot_after West p = same_spot _ (spot_after West p) refl (up_and_down p.v) in
        ap₂ (λ (b c : Spot). squares b && not (squares c)) (left_of_side p) right ∙ ap₂ (λ (b c : Bool). b && not c) full none

    -- some side, with a square of the face on its left
    abbrev HasSide : Spot → Type 0
    HasSide p = (r : Side) × IsTrue (is_border squares r) × AreJoined squares p (left_square r)

    side_here : (p : Spot) → squares p ≡ true → squares (spot_after West p) ≡ false → HasSide p
    side_here p full none = (
      side_of South p,
      on_left p full none,
      subst (AreJoined squares p) (sym (left_of_side p)) (reaches-itself (AreNeighbours squares) p),
    )

    -- the square to the left has it too, where there is one
    side_farther : (p : Spot) → squares p ≡ true → squares (spot_after West p) ≡ true → HasSide (spot_after West p) → HasSide p
    side_farther p full full_too (r, border, joined) =
        (r, border, reaches-step_then (AreNeighbours squares) p (spot_after West p) (left_square r) (full, full_too, (West, refl)) joined)

    side_by : (p : Spot) → squares p ≡ true → (squares (spot_after West p) ≡ true → HasSide (spot_after West p)) → HasSide p
    side_by p full farther = by (squares (spot_after West p)) refl
      where
        by : (b : Bool) → squares (spot_after West p) ≡ b → HasSide p
        by true e = side_farther p full e (farther e)
        by false e = side_here p full e

    -- so many units from the leftmost squares
    side_within : (leftmost : ℤ) → ((p : Spot) → squares p ≡ true → leftmost ≤ℤ p.u) → (n : ℕ) (p : Spot) → squares p ≡ true
        → p.u ≡ leftmost +ℤ pos n → HasSide p
    side_within leftmost least zero p full near =
        side_by p full (λ e. absurd (let l = least (spot_after West p) e in omega (arith, ints, near)))
    side_within leftmost least (suc n) p full near =
        side_by p full (λ e. side_within leftmost least n (spot_after West p) e (omega (arith, ints, near)))

    some_side : (p : Spot) → squares p ≡ true → HasSide p
    some_side p full =
        let first = least_member (λ (q : Spot). q.u) squares ps p (finite p full) full in
        let least : (q : Spot) → squares q ≡ true → first.0.u ≤ℤ q.u = λ q e. first.3 q (finite q e) e in
        let (n, e) = natural (p.u -ℤ first.0.u) (let l = least p full in omega (arith, ints)) in
        side_within first.0.u least n p full (omega (arith, ints, e))

    -- so it has a loop, and a first one
    pub first_is_loop : (q : Spot) (loops : List (List Cell)) → squares q ≡ true → AreLoopsOf squares there q loops
        → IsLoopOf squares there q (first_loop loops)
    first_is_loop q loops full are =
        let (r, border, joined) = some_side q full in
        let (loop, is, along) = side_loop q r border joined in
        by loops are.each loop (are.complete loop is)
      where
        by : (ls : List (List Cell)) → Each (IsLoopOf squares there q) ls → (l : List Cell) → Member ls l
            → IsLoopOf squares there q (first_loop ls)
        by [] each l m = absurd m
        by (first ∷ ls) each l m = each.0
