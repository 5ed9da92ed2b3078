-- The squares of a table as the nodes of a graph.
use Rattle.std.proofs.Common.{◌≡◌, ◌↔◌, Bool, true, false, ◌&&◌, if◌then◌else◌, ℕ, ◌<◌, List, Some, None, refl, ap, sym, subst, ◌∙◌, arith}
use Rattle.std.proofs.lemmas.Bool.{false≢true, and_parts, and_from}
use Rattle.std.proofs.lemmas.Option.{same_Some, none-some}
use Rattle.cell_rows.proofs.BitPlaces.{bit_there}
use Rattle.lemmas.specs.Bits.{bit_of}
use Rattle.lemmas.specs.Chains.{Reaches}
use Rattle.solid_model.specs.WalledBoxes.{place_of_number}
use Rattle.solid_model.specs.Rounds.{Spot, spot_after, AreNeighbours, AreJoined}
use Rattle.lemmas.proofs.Chains.{reaches-map, reaches-step}
use Rattle.face_laws.proofs.JoinedSides.{neighbours-back}
use Rattle.flood.specs.Graph.{Leads, GoesBack, AreComponentsOf}
use Rattle.faces.specs.PlaneSquares.{SquareTable, square_place, is_there}
use Rattle.faces.specs.Ways.{heading_number, heading_at}
use Rattle.faces.specs.SquareSteps.{place_count, square_at_place, IsSquareStep, next_square, AreSquareComponents}
use Rattle.faces.proofs.SquarePlaces.{in_table-numbers, there-parts, square_own, place_there, place_own}
use Rattle.faces.proofs.SideNumbers.{heading-below, heading-number}

some_if : (b : Bool) (n : ℕ) → b ≡ true → (if b then Some n else None) ≡ Some n
some_if true n e = refl
some_if false n e = absurd (false≢true e)

from_if : (b : Bool) (n m : ℕ) → (if b then Some n else None) ≡ Some m → (n ≡ m) × (b ≡ true)
from_if true n m e = (same_Some n m e, refl)
from_if false n m e = absurd (none-some m e)

module _ (t : SquareTable) where
  -- a square that is there stands at its place
  pub there-place : (q : Spot) → is_there t q ≡ true → (square_place q < place_count t) × (square_at_place (square_place q) ≡ q)
  there-place q there =
      let has = in_table-numbers q (there-parts t q there).0 in
      (place_there t q there, square_own q has)

  -- steps are what ways lead to
  pub steps_lead : (a b : ℕ) → a < place_count t → IsSquareStep t a b ↔ Leads 4 (next_square t) a b
  steps_lead a b within = (leads, comes)
    where
      here : Spot
      here = square_at_place a

      leads : IsSquareStep t a b → Leads 4 (next_square t) a b
      leads step =
          let (here_there, b_there, (h, e)) = step.neighbours in
          let few = heading-below h in
          let is = heading-number h in
          let next : spot_after (heading_at (heading_number h)) here ≡ square_at_place b = ap (λ k. spot_after k here) is ∙ sym e in
          let both : (is_there t here && is_there t (spot_after (heading_at (heading_number h)) here)) ≡ true =
          and_from (is_there t here) (is_there t (spot_after (heading_at (heading_number h)) here)) here_there (ap (is_there t) next ∙ b_there) in (
            heading_number h,
            few,
            some_if (is_there t here && is_there t (spot_after (heading_at (heading_number h)) here)) (square_place (spot_after (heading_at (heading_number h)) here)) both
                ∙ ap Some (ap (square_place) next ∙ place_own b),
          )

      comes : Leads 4 (next_square t) a b → IsSquareStep t a b
      comes (way, few, e) =
          let next : Spot = spot_after (heading_at way) here in
          let (place, both) = from_if (is_there t here && is_there t next) (square_place next) b e in
          let (here_there, next_there) = and_parts (is_there t here) (is_there t next) both in
          let own = there-place next next_there in
          let same : square_at_place b ≡ next = ap (square_at_place) (sym place) ∙ own.1 in
          record {
            from = within;
            to = subst (λ n. n < place_count t) place own.0;
            neighbours = (here_there, ap (is_there t) same ∙ next_there, (heading_at way, same));
          }

  -- and go back
  pub steps_back : GoesBack (place_count t) (IsSquareStep t)
  steps_back a b a_in b_in step = record {
    from = b_in;
    to = a_in;
    neighbours = neighbours-back (is_there t) (square_at_place a) (square_at_place b) step.neighbours;
  }

  -- chains of steps join squares
  chains_join : (p q : Spot) → is_there t p ≡ true → is_there t q ≡ true
      → Reaches (IsSquareStep t) (square_place p) (square_place q) ↔ AreJoined (is_there t) p q
  chains_join p q p_there q_there = (
    λ chain. subst (λ (x : Spot × Spot). AreJoined (is_there t) x.0 x.1) (λ i. ((there-place p p_there).1 i, (there-place q q_there).1 i))
        (reaches-map (IsSquareStep t) (AreNeighbours (is_there t)) (square_at_place)
        (λ a b step. reaches-step (AreNeighbours (is_there t)) (square_at_place a) (square_at_place b) step.neighbours)
        (square_place p) (square_place q) chain),
    λ joined. reaches-map (AreNeighbours (is_there t)) (IsSquareStep t) (square_place)
        (λ r s neighbours.
        let r_own = there-place r neighbours.0 in
        let s_own = there-place s neighbours.1 in
        reaches-step (IsSquareStep t) (square_place r) (square_place s) (record {
          from = r_own.0;
          to = s_own.0;
          neighbours = subst (λ (x : Spot × Spot). AreNeighbours (is_there t) x.0 x.1) (λ i. (sym r_own.1 i, sym s_own.1 i)) neighbours;
        }))
        p q joined,
  )

  -- the bit of a square that is there
  asked : (rows : List ℕ) → rows ≡ t.rows → (q : Spot) → is_there t q ≡ true → bit_of rows (square_place q) ≡ true
  asked rows e q there =
      let parts = there-parts t q there in
      let has = in_table-numbers q parts.0 in
      let u : place_of_number q.u ≡ has.u.number = ap place_of_number has.u.is in
      ap (λ w. bit_of w (square_place q)) e
      ∙ bit_there t.rows (place_of_number q.v) (place_of_number q.u) (omega (arith, u, has.u.less))
      ∙ parts.1

  -- the components of the graph are the joined squares
  pub joined_components : (rows : List ℕ) → rows ≡ t.rows → (numbers : List ℕ) (count : ℕ)
      → AreComponentsOf (IsSquareStep t) (place_count t) (bit_of rows) numbers count → AreSquareComponents t numbers count
  joined_components rows e numbers count are = record {
    listed = are.listed;
    below = λ p there. are.below (square_place p) (asked rows e p there) (there-place p there).0;
    joined = λ p q p_there q_there.
        let same = are.joined (square_place p) (square_place q) (asked rows e p p_there) (asked rows e q q_there) (there-place p p_there).0 (there-place q q_there).0 in
        let chains = chains_join p q p_there q_there in
        (λ e. chains.0 (same.0 e), λ j. same.1 (chains.1 j));
  }
