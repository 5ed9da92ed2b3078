-- The rounds of the border, told by the numbers of its sides, are the loops round the squares.
use Rattle.std.proofs.Common.{◌≡◌, ◌≢◌, inl, inr, Bool, true, ℕ, suc, ◌<◌, ◌≤◌, List, [], ◌∷◌, map, length, pos, IsTrue, refl, sym, ◌∙◌, ap, ap₂, subst, arith}
use Rattle.faces.specs.Border.{side_at, side_count, is_border_at, following_number, loop_along}
use Rattle.faces.specs.PlaneLoops.{is_spot_before, PlaneLoop, BeginsFirst, IsLoopRound, first_corner_before, ArePlaneLoops}
use Rattle.faces.specs.PlaneSquares.{SquareTable, is_there}
use Rattle.faces.proofs.BorderNumbers.{number_of, IsBorderAt, side-of_number, border_number, one_number, further_at, further_inside, run_at, ends_less}
use Rattle.faces.proofs.LeastEnds.{EndsLeast, one_least_end}
use Rattle.faces.proofs.SideNumbers.{out_of, there, same_order}
use Rattle.rounds.specs.Succession.{node_ahead, run, first, IsInsideRound, AreRounds}
use Rattle.rounds.proofs.Runs.{member-node_ahead, node_ahead-apart}
use Rattle.solid_model.specs.Faces.{BeginsLeast}
use Rattle.lemmas.specs.Lists.{Member, Each, Ascends}
use Rattle.solid_model.specs.Orders.{ComesBefore}
use Rattle.solid_model.specs.Rounds.{Spot, Side, end_of, left_square, following, sides_from, round_sides, corners, round_corners}
use Rattle.solid_model.specs.Rounds.{further, IsRound}
use Rattle.solid_model.proofs.CellOrder.{one_or_before}
use Rattle.face_laws.proofs.FacePlaces.{place_keeps}
use Rattle.face_laws.proofs.LeastSides.{KeepsOrder, corners_from, least_begins}
use Rattle.lemmas.proofs.Lists.{each-at, each-from, each-weaker, each-map, each-from_map, member-map}
use Rattle.face_laws.proofs.RoundStarts.{one_start}
use Rattle.face_laws.proofs.SidesInOrder.{member-earlier}

-- ---- the least corner

-- the order of spots is kept in space
keeps : (up_first : Bool) → KeepsOrder (there up_first)
keeps up_first = place_keeps (out_of up_first) (pos 0)

-- the first corner is the least in space just where it comes first in the plane
begins_first : (up_first : Bool) (ps : List Spot) → BeginsLeast (map (there up_first) ps) → BeginsFirst up_first ps
begins_first up_first [] h = h
begins_first up_first (p ∷ ps) h =
    each-weaker (λ q. ComesBefore (there up_first p) (there up_first q)) (λ q. IsTrue (is_spot_before up_first p q)) ps
    (λ q l. sym (same_order up_first p q) ∙ l) (each-from_map (there up_first) (ComesBefore (there up_first p)) ps h)

begins_least : (up_first : Bool) (ps : List Spot) → BeginsFirst up_first ps → BeginsLeast (map (there up_first) ps)
begins_least up_first [] h = h
begins_least up_first (p ∷ ps) h =
    each-map (there up_first) (ComesBefore (there up_first p)) ps
    (each-weaker (λ q. IsTrue (is_spot_before up_first p q)) (λ q. ComesBefore (there up_first p) (there up_first q)) ps
    (λ q l. same_order up_first p q ∙ l) h)

module _ (t : SquareTable) (up_first : Bool) where
  -- ---- one round

  -- the side with a number
  abbrev side : ℕ → Side
  side = side_at up_first

  -- the number that follows
  abbrev next : ℕ → ℕ
  next = following_number t up_first

  -- a round of sides, by the number of the first
  record IsGone (a : ℕ) (round : List ℕ) : Type 0 where
    others : ℕ
    on : IsBorderAt t up_first a
    sides : map side round ≡ round_sides (is_there t) (side a) others
    is : IsRound (is_there t) (side a) others
    begins : BeginsLeast (map (there up_first) (round_corners (is_there t) (side a) others))
    least : (s : Side) → Member (round_sides (is_there t) (side a) others) s → ComesBefore (there up_first (end_of s)) (there up_first (end_of (side a))) → ⊥

  module _ (a n : ℕ) (on : IsBorderAt t up_first a) (back : node_ahead next (suc n) a ≡ a) (once : Ascends ◌≢◌ (run next (suc n) a))
      (least : Each (λ b. a ≤ b) (run next (suc n) a)) where
    comes_back : further (is_there t) n (following (is_there t) (side a)) ≡ side a
    comes_back = sym (further_at t up_first (suc n) a on) ∙ ap side back

    passes_once : Member (sides_from (is_there t) n (following (is_there t) (side a))) (side a) → ⊥
    passes_once m =
        let (k, less, e) = member-earlier (is_there t) n (following (is_there t) (side a)) (side a) m in
        node_ahead-apart next (suc n) 0 (suc k) a once (omega arith) (omega (arith, less))
        (sym (one_number t up_first (node_ahead next (suc k) a) a (further_at t up_first (suc k) a on ∙ e)))

    ends_least : (s : Side) → Member (round_sides (is_there t) (side a) n) s → ComesBefore (there up_first (end_of s)) (there up_first (end_of (side a))) → ⊥
    ends_least s m l =
        let (k, less, e) = member-earlier (is_there t) (suc n) (side a) s m in
        let b = node_ahead next k a in
        let no_less = each-at (λ c. a ≤ c) (run next (suc n) a) b least (member-node_ahead next (suc n) k a less) in
        let is : s ≡ side b = sym e ∙ sym (further_at t up_first k a on) in
        let earlier = ends_less t up_first b a (further_inside t up_first k a on) on
        (subst (λ (x : Side). ComesBefore (there up_first (end_of x)) (there up_first (end_of (side a)))) is l) in
        omega (arith, no_less, earlier)

    gone : (round : List ℕ) → round ≡ run next (suc n) a → IsGone a round
    gone round e =
        let is = least_begins (is_there t) (there up_first) (keeps up_first) (side a) n on.1 comes_back passes_once ends_least in record {
          others = n;
          on = on;
          sides = ap (map side) e ∙ run_at t up_first (suc n) a on;
          is = is.0;
          begins = is.1;
          least = ends_least;
        }

  -- each round of numbers is one of sides
  gone_round : (round : List ℕ) → IsInsideRound (side_count) (is_border_at t up_first) next round → IsGone (first round) round
  gone_round [] is = absurd (omega (arith, is.from.some))
  gone_round (a ∷ rest) is =
      let steps : a ∷ rest ≡ run next (suc (length rest)) a = is.from.steps in
      gone a (length rest) is.within.0 is.from.back (subst (Ascends ◌≢◌) steps is.from.once) (subst (Each (λ b. a ≤ b)) steps is.least) (a ∷ rest) steps

  -- it is a loop
  gone_loop : (round : List ℕ) → IsGone (first round) round → IsLoopRound (is_there t) up_first (loop_along t up_first round)
  gone_loop round is =
      let corners_too : corners (is_there t) (map side round) ≡ round_corners (is_there t) (side (first round)) is.others =
      ap (corners (is_there t)) is.sides in (
        side (first round),
        is.others,
        is.is,
        refl,
        corners_too,
        subst (BeginsFirst up_first) (sym corners_too) (begins_first up_first (round_corners (is_there t) (side (first round)) is.others) is.begins),
      )

  -- ---- two rounds

  ends_least_too : (a : ℕ) (round : List ℕ) → IsGone a round → EndsLeast (is_there t) (there up_first) (keeps up_first) (side a)
  ends_least_too a round is = record { length = is.others; border = is.is.border; back = is.is.back; least = is.least }

  -- the one that has a lesser first number has an earlier first corner
  first_end_before : (a b : ℕ) (round other : List ℕ) → IsGone a round → IsGone b other → a < b
      → is_spot_before up_first (end_of (side a)) (end_of (side b)) ≡ true
  first_end_before a b round other is is_too less =
      elim (one_or_before (there up_first (end_of (side a))) (there up_first (end_of (side b)))) as (λ _. is_spot_before up_first (end_of (side a)) (end_of (side b)) ≡ true) [
        | inl e ↦ (let same : a ≡ b = one_number t up_first a b
            (one_least_end (is_there t) (there up_first) (keeps up_first) (side a) (side b) (ends_least_too a round is) (ends_least_too b other is_too)
            ((keeps up_first).one (end_of (side a)) (end_of (side b)) e)) in
            absurd (omega (arith, same)))
        | inr l ↦ elim l as (λ _. is_spot_before up_first (end_of (side a)) (end_of (side b)) ≡ true) [
          | inl before ↦ sym (same_order up_first (end_of (side a)) (end_of (side b))) ∙ before
          | inr after ↦ (let more = ends_less t up_first b a is_too.on is.on after in absurd (omega (arith, more)))
        ]
      ]

  -- its first corner is the end of its first side
  first_corner : (a : ℕ) (round : List ℕ) → IsGone a round
      → (ps : List Spot) × (corners (is_there t) (map side round) ≡ end_of (side a) ∷ ps)
  first_corner a round is =
      let rest = sides_from (is_there t) is.others (following (is_there t) (side a)) in
      (corners (is_there t) rest, ap (corners (is_there t)) is.sides ∙ corners_from (is_there t) (there up_first) (keeps up_first) (side a) rest is.is.corner)

  loop_before : (a b : ℕ) (round other : List ℕ) → IsGone a round → IsGone b other → a < b
      → first_corner_before up_first (corners (is_there t) (map side round)) (corners (is_there t) (map side other)) ≡ true
  loop_before a b round other is is_too less =
      let (ps, e) = first_corner a round is in
      let (qs, f) = first_corner b other is_too in
      ap₂ (first_corner_before up_first) e f ∙ first_end_before a b round other is is_too less

  -- ---- all rounds

  loops_each : (rounds : List (List ℕ)) → Each (IsInsideRound (side_count) (is_border_at t up_first) next) rounds
      → Each (IsLoopRound (is_there t) up_first) (map (loop_along t up_first) rounds)
  loops_each rounds each =
      each-map (loop_along t up_first) (IsLoopRound (is_there t) up_first) rounds
      (each-weaker (IsInsideRound (side_count) (is_border_at t up_first) next) (λ r. IsLoopRound (is_there t) up_first (loop_along t up_first r)) rounds
      (λ r is. gone_loop r (gone_round r is)) each)

  loops_in_order : (rounds : List (List ℕ)) → Each (IsInsideRound (side_count) (is_border_at t up_first) next) rounds
      → Ascends (λ r s. first r < first s) rounds
      → Ascends (λ (l m : PlaneLoop). IsTrue (first_corner_before up_first l.corners m.corners)) (map (loop_along t up_first) rounds)
  loops_in_order [] each ordered = tt
  loops_in_order (r ∷ rounds) each ordered = (
    each-map (loop_along t up_first) (λ (m : PlaneLoop). IsTrue (first_corner_before up_first (loop_along t up_first r).corners m.corners)) rounds
        (each-from (λ s. IsTrue (first_corner_before up_first (loop_along t up_first r).corners (loop_along t up_first s).corners)) rounds
        (λ s m. loop_before (first r) (first s) r s (gone_round r each.0)
        (gone_round s (each-at (IsInsideRound (side_count) (is_border_at t up_first) next) rounds s each.1 m))
        (each-at (λ x. first r < first x) rounds s ordered.0 m))),
    loops_in_order rounds each.1 ordered.1,
  )

  loops_complete : (rounds : List (List ℕ)) → AreRounds side_count (is_border_at t up_first) next rounds
      → (l : PlaneLoop) → IsLoopRound (is_there t) up_first l → Member (map (loop_along t up_first) rounds) l
  loops_complete rounds are l (s, n, is, square, corner, begins) =
      let (r, among, on) = are.complete (number_of t up_first s) (border_number t up_first s is.border) in
      let gone = gone_round r (each-at (IsInsideRound (side_count) (is_border_at t up_first) next) rounds r are.each among) in
      let start = side (first r) in
      let on_side : Member (round_sides (is_there t) start gone.others) s =
      subst (Member (round_sides (is_there t) start gone.others)) (side-of_number t up_first s is.border)
      (subst (λ ss. Member ss (side (number_of t up_first s))) gone.sides (member-map side r (number_of t up_first s) on)) in
      let one : (s ≡ start) × (n ≡ gone.others) =
      one_start (is_there t) (there up_first) (keeps up_first) s start s n gone.others is gone.is
      (begins_least up_first (round_corners (is_there t) s n) (subst (BeginsFirst up_first) corner begins)) gone.begins (inl refl) on_side in
      let squares : left_square start ≡ l.square = ap left_square (sym one.0) ∙ sym square in
      let all_corners : corners (is_there t) (map side r) ≡ l.corners =
      ap (corners (is_there t)) gone.sides ∙ ap₂ (round_corners (is_there t)) (sym one.0) (sym one.1) ∙ sym corner in
      let same : loop_along t up_first r ≡ l = λ i. record { square = squares i; corners = all_corners i } in
      subst (Member (map (loop_along t up_first) rounds)) same (member-map (loop_along t up_first) rounds r among)

  -- the loops along all rounds are all loops
  pub loops_along : (rounds : List (List ℕ)) → AreRounds side_count (is_border_at t up_first) next rounds
      → ArePlaneLoops (is_there t) up_first (map (loop_along t up_first) rounds)
  loops_along rounds are = record {
    each = loops_each rounds are.each;
    ordered = loops_in_order rounds are.each are.ordered;
    complete = loops_complete rounds are;
  }

-- the same of a table and an order that are told twice
pub loops_listed : (t s : SquareTable) (up_first order : Bool) (rounds others : List (List ℕ)) (loops : List PlaneLoop) → s ≡ t → order ≡ up_first
    → AreRounds side_count (is_border_at s order) (following_number s order) rounds → others ≡ rounds
    → loops ≡ map (loop_along s order) others → ArePlaneLoops (is_there t) up_first loops
loops_listed t s up_first order rounds others loops e f are same is =
    subst (λ (x : SquareTable × Bool). ArePlaneLoops (is_there x.0) x.1 loops) (λ i. (e i, f i))
    (subst (ArePlaneLoops (is_there s) order) (sym (is ∙ ap (map (loop_along s order)) same)) (loops_along s order rounds are))
