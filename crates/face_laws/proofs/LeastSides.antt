-- A round from a side that ends at its least point: it turns there, and comes to this point once.
use Rattle.std.proofs.Common.{◌≡◌, ◌⊎◌, inl, inr, Bool, true, false, not, if◌then◌else◌, ℕ, suc, List, [], ◌∷◌, map, IsTrue, refl, sym, ◌∙◌, ap, subst}
use Rattle.std.proofs.lemmas.Bool.{false≢true, and_parts}
use Rattle.solid_model.specs.declared.cell.Cell.{Cell}
use Rattle.solid_model.specs.Faces.{BeginsLeast}
use Rattle.face_laws.specs.GridRounds.{back_of}
use Rattle.lemmas.specs.Lists.{Member, Each}
use Rattle.solid_model.specs.Orders.{ComesBefore}
use Rattle.solid_model.specs.Rounds.{Spot, Heading, East, North, West, South, same_heading, spot_after, Side, end_of, is_border, heading_after, following, turns, further, sides_from, round_sides, IsRound, corners, round_corners}
use Rattle.solid_model.proofs.CellOrder.{one_or_before}
use Rattle.lemmas.proofs.Lists.{each-map}
use Rattle.face_laws.proofs.SidesInOrder.{member-border, round-following, round-before}
use Rattle.face_laws.proofs.Turns.{same_side, step_back, round, arrives, border_at_end}

-- How spots stand in space, seen from the plane: what lies to the left or below comes before, and no two are in one place.
pub record KeepsOrder (there : Spot → Cell) : Type 0 where
  pub left : (p : Spot) → ComesBefore (there (spot_after West p)) (there p)
  pub below : (p : Spot) → ComesBefore (there (spot_after South p)) (there p)
  pub one : (p q : Spot) → there p ≡ there q → p ≡ q

-- ---- headings

-- to the left or downwards
abbrev pub GoesDown : Heading → Type 0
GoesDown h = (h ≡ West) ⊎ (h ≡ South)

-- to the right or upwards
abbrev GoesUp : Heading → Type 0
GoesUp h = (h ≡ East) ⊎ (h ≡ North)

-- from the one to the other there is a turn
up_turns : (h k : Heading) → GoesDown h → GoesUp k → not (same_heading k h) ≡ true
up_turns h k (inl e) (inl f) = subst (λ x. not (same_heading k x) ≡ true) (sym e)
    (subst (λ x. not (same_heading x West) ≡ true) (sym f) refl)
up_turns h k (inl e) (inr f) = subst (λ x. not (same_heading k x) ≡ true) (sym e)
    (subst (λ x. not (same_heading x West) ≡ true) (sym f) refl)
up_turns h k (inr e) (inl f) = subst (λ x. not (same_heading k x) ≡ true) (sym e)
    (subst (λ x. not (same_heading x South) ≡ true) (sym f) refl)
up_turns h k (inr e) (inr f) = subst (λ x. not (same_heading k x) ≡ true) (sym e)
    (subst (λ x. not (same_heading x South) ≡ true) (sym f) refl)

not_both : (b : Bool) → b ≡ true → not b ≡ true → ⊥
not_both true e f = false≢true f
not_both false e f = false≢true e

-- two that come down to one point have one heading
one_way_down : (r : Heading → Bool) (h k : Heading) → GoesDown h → GoesDown k → arrives r h ≡ true → arrives r k ≡ true → h ≡ k
one_way_down r h k (inl e) (inl f) a b = e ∙ sym f
one_way_down r h k (inr e) (inr f) a b = e ∙ sym f
one_way_down r h k (inl e) (inr f) a b =
    let west : arrives r West ≡ true = subst (λ x. arrives r x ≡ true) e a in
    let south : arrives r South ≡ true = subst (λ x. arrives r x ≡ true) f b in
    absurd (not_both (r East) ((and_parts (r East) (not (r North)) south).0) ((and_parts (r South) (not (r East)) west).1))
one_way_down r h k (inr e) (inl f) a b =
    let west : arrives r West ≡ true = subst (λ x. arrives r x ≡ true) f b in
    let south : arrives r South ≡ true = subst (λ x. arrives r x ≡ true) e a in
    absurd (not_both (r East) ((and_parts (r East) (not (r North)) south).0) ((and_parts (r South) (not (r East)) west).1))

-- of the border's sides one at most comes down to a point
pub one_down : (squares : Spot → Bool) (s t : Side) → IsTrue (is_border squares s) → IsTrue (is_border squares t)
    → GoesDown s.heading → GoesDown t.heading → end_of s ≡ end_of t → s ≡ t
one_down squares s t border border_too down down_too ends =
    let comes : arrives (round squares (end_of t)) s.heading ≡ true =
    subst (λ p. arrives (round squares p) s.heading ≡ true) ends (sym (border_at_end squares s) ∙ border) in
    let heading : s.heading ≡ t.heading =
    one_way_down (round squares (end_of t)) s.heading t.heading down down_too comes (sym (border_at_end squares t) ∙ border_too) in
    same_side s t
    (sym (step_back s.heading s.start) ∙ (λ i. spot_after (back_of (heading i)) (ends i)) ∙ step_back t.heading t.start) heading

-- what holds of the ends of sides holds of their corners
pub corners_each : (squares : Spot → Bool) (P : Spot → Type 0) (ss : List Side) → ((t : Side) → Member ss t → P (end_of t)) → Each P (corners squares ss)
corners_each squares P [] h = tt
corners_each squares P (t ∷ ts) h = by (turns squares t) (h t (inl refl)) (corners_each squares P ts (λ u m. h u (inr m)))
  where
    by : (b : Bool) → P (end_of t) → Each P (corners squares ts) → Each P (if b then (end_of t ∷ corners squares ts) else corners squares ts)
    by true first rest = (first, rest)
    by false first rest = rest

module _ (squares : Spot → Bool) (there : Spot → Cell) (keeps : KeepsOrder there) where
  -- the end of one side comes before that of another
  abbrev EndsBefore : Side → Side → Type 0
  EndsBefore s t = ComesBefore (there (end_of s)) (there (end_of t))

  -- a side that goes to the right or upwards ends after its start; else it goes down
  by_way : (s : Side) → ComesBefore (there s.start) (there (end_of s)) ⊎ GoesDown s.heading
  by_way s = by s.heading s.start
    where
      by : (h : Heading) (p : Spot) → ComesBefore (there p) (there (spot_after h p)) ⊎ GoesDown h
      by East p = inl (subst (λ q. ComesBefore (there q) (there (spot_after East p))) (step_back East p)
          (keeps.left (spot_after East p)))
      by North p = inl (subst (λ q. ComesBefore (there q) (there (spot_after North p))) (step_back North p)
          (keeps.below (spot_after North p)))
      by West p = inr (inl refl)
      by South p = inr (inr refl)

  -- a side that goes to the left or downwards ends before its start; else it goes up
  by_way_back : (s : Side) → ComesBefore (there (end_of s)) (there s.start) ⊎ GoesUp s.heading
  by_way_back s = by s.heading s.start
    where
      by : (h : Heading) (p : Spot) → ComesBefore (there (spot_after h p)) (there p) ⊎ GoesUp h
      by East p = inr (inl refl)
      by North p = inr (inr refl)
      by West p = inl (keeps.left p)
      by South p = inl (keeps.below p)

  module _ (s : Side) (n : ℕ) (border : IsTrue (is_border squares s)) (back : further squares n (following squares s) ≡ s)
      (least : (t : Side) → Member (round_sides squares s n) t → ComesBefore (there (end_of t)) (there (end_of s)) → ⊥) where
    -- what comes to the least point comes down to it
    pub comes_down : (t : Side) → Member (round_sides squares s n) t → end_of t ≡ end_of s → GoesDown t.heading
    comes_down t on e = elim (by_way t) as (λ _. GoesDown t.heading) [
      | inl l ↦ (let r = round-before squares s n back t on in
          let start : end_of r.0 ≡ t.start = ap (λ (x : Side). x.start) r.2 in
          absurd (least r.0 r.1
          (subst (λ p. ComesBefore (there p) (there (end_of s))) (sym start)
          (subst (λ p. ComesBefore (there t.start) (there p)) e l))))
      | inr d ↦ d
    ]

    -- and what leaves it goes up
    goes_up : GoesUp (heading_after squares s)
    goes_up = elim (by_way_back (following squares s)) as (λ _. GoesUp (heading_after squares s)) [
      | inl l ↦ absurd (least (following squares s) (round-following squares s n back s (inl refl)) l)
      | inr u ↦ u
    ]

    -- so there is a turn
    pub least_turns : turns squares s ≡ true
    least_turns = up_turns s.heading (heading_after squares s) (comes_down s (inl refl) refl) goes_up

    -- and no other side of the round comes to it
    pub least_once : (t : Side) → Member (round_sides squares s n) t → end_of t ≡ end_of s → t ≡ s
    least_once t on e =
        one_down squares t s (member-border squares (suc n) s t border on) border (comes_down t on e) (comes_down s (inl refl) refl) e

    -- each other side of the round ends at a later point
    pub least_before : (t : Side) → Member (round_sides squares s n) t → (t ≡ s) ⊎ EndsBefore s t
    least_before t on = elim (one_or_before (there (end_of s)) (there (end_of t))) as (λ _. (t ≡ s) ⊎ EndsBefore s t) [
      | inl e ↦ inl (least_once t on (sym (keeps.one (end_of s) (end_of t) e)))
      | inr l ↦ elim l as (λ _. (t ≡ s) ⊎ EndsBefore s t) [ inl earlier ↦ inr earlier | inr later ↦ absurd (least t on later) ]
    ]

  -- the corners of a round that turns at its first side's end
  pub corners_from : (s : Side) (ss : List Side) → turns squares s ≡ true
      → corners squares (s ∷ ss) ≡ end_of s ∷ corners squares ss
  corners_from s ss e = ap (λ (b : Bool). if b then (end_of s ∷ corners squares ss) else corners squares ss) e

  -- the other sides of a round from its least side end later
  pub least_others : (s : Side) (n : ℕ) → IsTrue (is_border squares s) → further squares n (following squares s) ≡ s
      → (Member (sides_from squares n (following squares s)) s → ⊥)
      → ((t : Side) → Member (round_sides squares s n) t → ComesBefore (there (end_of t)) (there (end_of s)) → ⊥)
      → (t : Side) → Member (sides_from squares n (following squares s)) t → ComesBefore (there (end_of s)) (there (end_of t))
  least_others s n border back once least t m = elim (least_before s n border back least t (inr m)) as (λ _. EndsBefore s t) [
    | inl e ↦ absurd (once (subst (Member (sides_from squares n (following squares s))) e m))
    | inr l ↦ l
  ]

  -- A round from its least side is a round from its least corner, which it passes once.
  pub least_begins : (s : Side) (n : ℕ) → IsTrue (is_border squares s) → further squares n (following squares s) ≡ s
      → (Member (sides_from squares n (following squares s)) s → ⊥)
      → ((t : Side) → Member (round_sides squares s n) t → ComesBefore (there (end_of t)) (there (end_of s)) → ⊥)
      → IsRound squares s n × BeginsLeast (map there (round_corners squares s n))
  least_begins s n border back once least =
      let corner : turns squares s ≡ true = least_turns s n border back least in
      let rest : List Side = sides_from squares n (following squares s) in
      let later : Each (λ p. ComesBefore (there (end_of s)) (there p)) (corners squares rest) =
      corners_each squares (λ p. ComesBefore (there (end_of s)) (there p)) rest (least_others s n border back once least) in (
        record { border = border; corner = corner; back = back; once = once },
        subst (λ ps. BeginsLeast (map there ps)) (sym (corners_from s rest corner))
            (each-map there (ComesBefore (there (end_of s))) (corners squares rest) later),
      )
