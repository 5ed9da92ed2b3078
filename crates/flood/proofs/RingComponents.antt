-- The enclosed components of a box are the components of its ringed graph but the first, which holds all that leads out.
use Rattle.std.proofs.Common.{◌≡◌, ◌↔◌, ℕ, zero, suc, ◌-◌, ◌<◌, List, length, Option, Some, None, IsTrue, refl, sym, ◌∙◌, ap, subst, arith}
use Rattle.std.proofs.lemmas.Int.{ints}
use Rattle.solid_model.specs.declared.cell.Axis.TheVariants.{X, Y, Z}
use Rattle.solid_model.specs.declared.cell.Cell.{Cell}
use Rattle.lemmas.specs.Chains.{Reaches}
use Rattle.solid_model.specs.Orders.{ComesBefore}
use Rattle.solid_model.specs.WalledBoxes.{Sizes, box_count, is_within, Walls, Passes, LeadsOut, number_at, IsEarlier, AreEnclosed}
use Rattle.lemmas.proofs.Chains.{reaches-onward}
use Rattle.flood.specs.Graph.{component, AreComponents}
use Rattle.flood.specs.Ring.{ring_count, ring_place, ring_cell, OwnWalls, RingStep, enclosed_of, IsRinged}
use Rattle.flood.proofs.RingPlaces.{within-ringed, ring_place-below, ring_cell-ringed, ring_place-ring_cell, before-earlier}
use Rattle.flood.proofs.Outside.{first_corner, outside-first_corner}
use Rattle.flood.proofs.RingChains.{ring_chain-back, places_chain_iff_cells}
use Rattle.flood.proofs.LeadingOut.{enclosed-within, leads_out_iff_own, passages_iff_own}

-- ---- the first node

-- the ring's first cell stands in the ring
first_corner-ringed : (sizes : Sizes) → IsRinged sizes first_corner
first_corner-ringed sizes X = (omega (arith, ints), omega (arith, ints))
first_corner-ringed sizes Y = (omega (arith, ints), omega (arith, ints))
first_corner-ringed sizes Z = (omega (arith, ints), omega (arith, ints))

-- it has the first node
first_corner-place : (sizes : Sizes) → ring_place sizes first_corner ≡ 0
first_corner-place sizes = omega arith

-- so there is one
pub some_node : (sizes : Sizes) → 0 < ring_count sizes
some_node sizes = subst (λ p. p < ring_count sizes) (first_corner-place sizes) (ring_place-below sizes first_corner (first_corner-ringed sizes))

module _ (sizes : Sizes) (wall : Walls) where
  -- a chain of nodes from the first one leads to whatever leads out
  pub first_node_iff_leads_out : (n : Cell) → IsRinged sizes n → Reaches (RingStep sizes wall) 0 (ring_place sizes n) ↔ LeadsOut sizes wall n
  first_node_iff_leads_out n ring = (
    λ chain. let from_corner = subst (λ p. Reaches (RingStep sizes wall) p (ring_place sizes n)) (sym start) chain in
        (leads_out_iff_own sizes wall n).1
        (first_corner, to_corner.0 (ring_chain-back sizes wall (ring_place sizes first_corner) (ring_place sizes n) from_corner), refl),
    λ leads. let own = (leads_out_iff_own sizes wall n).0 leads in
        subst (λ p. Reaches (RingStep sizes wall) p (ring_place sizes n)) start
        (ring_chain-back sizes wall (ring_place sizes n) (ring_place sizes first_corner) (to_corner.1
        (reaches-onward (Passes (OwnWalls sizes wall)) n own.0 first_corner own.1 (outside-first_corner sizes wall own.0 own.2)))),
  )
    where
      start : ring_place sizes first_corner ≡ 0
      start = first_corner-place sizes

      to_corner : Reaches (RingStep sizes wall) (ring_place sizes n) (ring_place sizes first_corner)
          ↔ Reaches (Passes (OwnWalls sizes wall)) n first_corner
      to_corner = places_chain_iff_cells sizes wall n first_corner ring (first_corner-ringed sizes)

  -- the same by the node
  pub ring_chain_iff_leads_out : (p : ℕ) → p < ring_count sizes → Reaches (RingStep sizes wall) 0 p ↔ LeadsOut sizes wall (ring_cell sizes p)
  ring_chain_iff_leads_out p below =
      subst (λ q. Reaches (RingStep sizes wall) 0 q ↔ LeadsOut sizes wall (ring_cell sizes p)) (ring_place-ring_cell sizes p)
      (first_node_iff_leads_out (ring_cell sizes p) (ring_cell-ringed sizes p below))

-- ---- the number of a component among the enclosed ones

-- the first component isn't enclosed
enclosed_of-none : (k : ℕ) → enclosed_of k ≡ None → k ≡ 0
enclosed_of-none zero e = refl
enclosed_of-none (suc k) e = cc

-- an enclosed component is the component after its number
enclosed_of-some : (j k : ℕ) → enclosed_of j ≡ Some k → j ≡ suc k
enclosed_of-some zero k e = cc
enclosed_of-some (suc j) k e = cc

-- components of one such number are one
enclosed_of-one : (j k : ℕ) → enclosed_of j ≡ enclosed_of k → j ≡ k
enclosed_of-one zero k e = sym (enclosed_of-none k (sym e))
enclosed_of-one (suc j) k e = sym (enclosed_of-some k j (sym e))

-- an earlier component isn't enclosed, or is an earlier one
enclosed_of-earlier : (j k : ℕ) → j < suc k → IsEarlier k (enclosed_of j)
enclosed_of-earlier zero k l = tt
enclosed_of-earlier (suc j) k l = omega arith

module _ (sizes : Sizes) (wall : Walls) (numbers : List ℕ) (count : ℕ)
    (are : AreComponents (RingStep sizes wall) (ring_count sizes) numbers count) where
  -- the first node is in the first component
  pub first_component : component numbers 0 ≡ 0
  first_component = at first.0 first.2 first.3
    where
      some : 0 < count
      some = let below = are.below 0 (some_node sizes) in omega arith

      first : (a : ℕ) × (a < ring_count sizes) × (component numbers a ≡ 0) × ((b : ℕ) → b < a → component numbers b < 0)
      first = are.first 0 some

      at : (a : ℕ) → component numbers a ≡ 0 → ((b : ℕ) → b < a → component numbers b < 0) → component numbers 0 ≡ 0
      at zero is none = is
      at (suc a) is none = let below = none 0 (omega arith) in absurd (omega arith)

  -- which holds all that leads out
  pub first_component_iff_leads_out : (n : Cell) → IsRinged sizes n → (component numbers (ring_place sizes n) ≡ 0) ↔ LeadsOut sizes wall n
  first_component_iff_leads_out n ring =
      let joined = are.joined 0 (ring_place sizes n) (some_node sizes) (ring_place-below sizes n ring) in
      let leads = first_node_iff_leads_out sizes wall n ring in
      (λ e. leads.0 (joined.0 (first_component ∙ sym e)), λ out. sym (joined.1 (leads.1 out)) ∙ first_component)

  module _ (enclosed : List (Option ℕ)) (listed : length enclosed ≡ box_count sizes)
      (at : (n : Cell) → IsTrue (is_within sizes n) → number_at sizes enclosed n ≡ enclosed_of (component numbers (ring_place sizes n))) where
    -- the first cell of an enclosed component, by the first node of its component
    first_of_enclosed : (k : ℕ) → k < count - 1 → (n : Cell) × IsTrue (is_within sizes n) × (number_at sizes enclosed n ≡ Some k)
        × ((m : Cell) → IsTrue (is_within sizes m) → ComesBefore m n → IsEarlier k (number_at sizes enclosed m))
    first_of_enclosed k below =
        let first = are.first (suc k) (omega arith) in
        let p = first.0 in
        let n = ring_cell sizes p in
        let ring = ring_cell-ringed sizes p first.1 in
        let place = ring_place-ring_cell sizes p in
        let is : component numbers (ring_place sizes n) ≡ suc k = ap (component numbers) place ∙ first.2 in
        let leads_out = first_component_iff_leads_out n ring in
        let within = enclosed-within sizes wall n (λ leads. let none = leads_out.1 leads in omega arith) in (
          n,
          within,
          at n within ∙ ap enclosed_of is,
          λ m m_within before.
              let earlier = before-earlier sizes m n (within-ringed sizes m m_within) ring before in
              let smaller = first.3 (ring_place sizes m) (omega arith) in
              subst (IsEarlier k) (sym (at m m_within)) (enclosed_of-earlier (component numbers (ring_place sizes m)) k smaller),
        )

    -- the enclosed components of a box, by the components of its ringed graph
    pub enclosed_of_components : AreEnclosed sizes wall enclosed (count - 1)
    enclosed_of_components = record {
      listed = listed;
      outside = λ n within.
          let leads = first_component_iff_leads_out n (within-ringed sizes n within) in (
            λ e. leads.0 (enclosed_of-none (component numbers (ring_place sizes n)) (sym (at n within) ∙ e)),
            λ out. at n within ∙ ap enclosed_of (leads.1 out),
          );
      joined = λ n m n_within m_within none.
          let n_ring = within-ringed sizes n n_within in let m_ring = within-ringed sizes m m_within in
          let p = ring_place sizes n in let q = ring_place sizes m in
          let same = are.joined p q (ring_place-below sizes n n_ring) (ring_place-below sizes m m_ring) in
          let chains = places_chain_iff_cells sizes wall n m n_ring m_ring in
          let own = passages_iff_own sizes wall n m none in (
            λ e. own.1 (chains.0 (same.0 (enclosed_of-one (component numbers p) (component numbers q) (sym (at n n_within) ∙ e ∙ at m m_within)))),
            λ chain. at n n_within ∙ ap enclosed_of (same.1 (chains.1 (own.0 chain))) ∙ sym (at m m_within),
          );
      below = λ n k within e.
          let is = enclosed_of-some (component numbers (ring_place sizes n)) k (sym (at n within) ∙ e) in
          let some = are.below (ring_place sizes n) (ring_place-below sizes n (within-ringed sizes n within)) in omega arith;
      first = first_of_enclosed;
    }
