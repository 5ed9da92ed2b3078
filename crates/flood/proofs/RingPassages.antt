-- With the right bars, the ways between nodes are the steps of the ringed box.
use Rattle.std.proofs.Common.{◌≡◌, ◌↔◌, ◌⊎◌, inl, inr, Bool, true, false, ◌&&◌, ◌||◌, ℕ, zero, suc, ◌<◌, ℤ, pos, negsuc, ◌-ℤ◌, ◌≤ℤ◌, List, slice_index_or, IsTrue, refl, ap, sym, subst, ◌∙◌, arith, ◌+ℤ◌}
use Rattle.std.proofs.lemmas.Bool.{false≢true, and_from, both_ways, false_from_ne_true}
use Rattle.std.proofs.lemmas.Int.{ints}
use Rattle.std.specs.Ordering.{int_eq}
use Rattle.solid_model.specs.declared.cell.Axis.{Axis}
use Rattle.solid_model.specs.declared.cell.Axis.TheVariants.{X, Y, Z}
use Rattle.solid_model.specs.declared.cell.Cell.{Cell}
use Rattle.solid_model.specs.Cells.{coordinate, cell_before}
use Rattle.solid_model.specs.WalledBoxes.{Sizes, is_within, box_place, Walls}
use Rattle.solid_model.proofs.InGrid.{placed_at}
use Rattle.solid_model.proofs.BoxPlaces.{one_cell}
use Rattle.lemmas.proofs.Pushed.{HoldsSoFar}
use Rattle.flood.specs.Graph.{GoesBack}
use Rattle.flood.specs.declared.cell_bars.CellBars.{CellBars}
use Rattle.flood.specs.Passages.{PassageParts, no_bars, has_bar, LeadsBack, StepsAlong}
use Rattle.flood.specs.Ring.{ringed, inner, outer, IsRinged, IsRingedNumber, ring_count, ring_place, ring_cell, ring_stride, OwnWalls, RingStep, touches_box, has_bar_before, AreBarsBefore, AreAllBars, ArePassages}
use Rattle.flood.proofs.RingPlaces.{ring_cell-ringed, ring_place-ring_cell, ring_cell-ring_place, ring_place-before, ring_place-below, outer-within}

-- steps go back
pub steps_back : (g : PassageParts) → GoesBack g.count (StepsAlong g)
steps_back g p q l m step = record { from = step.to; to = step.from; leads = (step.leads.0, turned step.leads.1) }
  where
    turned : {A B : Type 0} → A ⊎ B → B ⊎ A
    turned (inl a) = inr a
    turned (inr b) = inl b

-- walls, as they are told
abbrev pub Standing : (Axis → Cell → Bool) → Walls
Standing stands a n = IsTrue (stands a n)

-- the cell before one that isn't the ring's first stands in the box or its ring too
ringed-before : (sizes : Sizes) (a : Axis) (n : Cell) → IsRinged sizes n → (coordinate a n ≡ negsuc 0 → ⊥) → IsRinged sizes (cell_before a n)
ringed-before sizes a n ringed not_first b = at a b (not_first_number (coordinate a n) (ringed a).0 not_first)
  where
    not_first_number : (z : ℤ) → negsuc 0 ≤ℤ z → (z ≡ negsuc 0 → ⊥) → pos 0 ≤ℤ z
    not_first_number (pos k) from other = omega (arith, ints)
    not_first_number (negsuc zero) from other = absurd (other refl)
    not_first_number (negsuc (suc k)) from other = absurd (omega (arith, ints))

    at : (c d : Axis) → pos 0 ≤ℤ coordinate c n → IsRingedNumber (sizes d) (coordinate d (cell_before c n))
    at X X from = let h = ringed X in (omega (arith, ints), omega (arith, ints))
    at X Y from = ringed Y
    at X Z from = ringed Z
    at Y X from = ringed X
    at Y Y from = let h = ringed Y in (omega (arith, ints), omega (arith, ints))
    at Y Z from = ringed Z
    at Z X from = ringed X
    at Z Y from = ringed Y
    at Z Z from = let h = ringed Z in (omega (arith, ints), omega (arith, ints))

module _ (sizes : Sizes) (stands : Axis → Cell → Bool) (a : Axis) (n : Cell) where
  -- where a way is barred the cell before is none of the ring, or a wall of the box stands
  record IsFree : Type 0 where
    not_first : coordinate a n ≡ negsuc 0 → ⊥
    no_wall : OwnWalls sizes (Standing stands) a n → ⊥

  free-parts : has_bar_before sizes stands a n ≡ false → IsFree
  free-parts free = record {
    not_first = λ first. by_first first;
    no_wall = λ wall. by_wall wall;
  }
    where
      by_first : coordinate a n ≡ negsuc 0 → ⊥
      by_first first =
          let same : int_eq (coordinate a n) (negsuc 0) ≡ true = ap (λ z. int_eq z (negsuc 0)) first in
          both_ways (has_bar_before sizes stands a n) free (ap (λ (b : Bool). b || (touches_box sizes a n && stands a n)) same)

      by_wall : OwnWalls sizes (Standing stands) a n → ⊥
      by_wall wall = both_ways (has_bar_before sizes stands a n) free
          (or_right (int_eq (coordinate a n) (negsuc 0)) (touches_box sizes a n && stands a n) (and_from (touches_box sizes a n) (stands a n) wall.0 wall.1))
        where
          or_right : (b c : Bool) → c ≡ true → (b || c) ≡ true
          or_right true c e = refl
          or_right false c e = e

  parts-free : IsFree → has_bar_before sizes stands a n ≡ false
  parts-free free = false_from_ne_true (has_bar_before sizes stands a n) (λ barred. by (int_eq (coordinate a n) (negsuc 0)) (touches_box sizes a n) (stands a n) refl refl refl barred)
    where
      by : (first touches wall : Bool) → int_eq (coordinate a n) (negsuc 0) ≡ first → touches_box sizes a n ≡ touches → stands a n ≡ wall
          → (first || (touches && wall)) ≡ true → ⊥
      by true touches wall e f h barred = free.not_first (grind (arith, ints, e))
      by false true true e f h barred = free.no_wall (f, h)
      by false true false e f h barred = false≢true barred
      by false false wall e f h barred = false≢true barred

module _ (sizes : Sizes) (stands : Axis → Cell → Bool) (g : PassageParts) (are : ArePassages sizes stands g) where
  -- a node before another along an axis stands for the cell before, and no wall is between
  back-passes : (a : Axis) (p q : ℕ) → p < ring_count sizes → LeadsBack g a p q
      → (ring_cell sizes q ≡ cell_before a (ring_cell sizes p)) × (OwnWalls sizes (Standing stands) a (ring_cell sizes p) → ⊥)
  back-passes a p q below leads = (same, free.no_wall)
    where
      n : Cell
      n = ring_cell sizes p

      ringed_n : IsRinged sizes n
      ringed_n = ring_cell-ringed sizes p below

      place : ring_place sizes n ≡ p
      place = ring_place-ring_cell sizes p

      free : IsFree sizes stands a n
      free = free-parts sizes stands a n (sym (are.bars n ringed_n a) ∙ ap (has_bar g a) place ∙ leads.free)

      ringed_before : IsRinged sizes (cell_before a n)
      ringed_before = ringed-before sizes a n ringed_n free.not_first

      same : ring_cell sizes q ≡ cell_before a n
      same =
          let apart = ring_place-before sizes a n ringed_before in
          let stride : g.strides a ≡ ring_stride sizes a = λ t. are.strides t a in
          let there : q ≡ ring_place sizes (cell_before a n) = omega (arith, leads.apart, place, apart, stride) in
          ap (ring_cell sizes) there ∙ ring_cell-ring_place sizes (cell_before a n) ringed_before

  -- and the other way round
  passes-back : (a : Axis) (p q : ℕ) → p < ring_count sizes → q < ring_count sizes → ring_cell sizes q ≡ cell_before a (ring_cell sizes p)
      → (OwnWalls sizes (Standing stands) a (ring_cell sizes p) → ⊥) → LeadsBack g a p q
  passes-back a p q p_below q_below same no_wall = record {
    apart =
        let apart = ring_place-before sizes a n ringed_before in
        let stride : g.strides a ≡ ring_stride sizes a = λ t. are.strides t a in
        omega (arith, place_p, place_q, apart, ap (ring_place sizes) same, stride);
    free = ap (has_bar g a) (sym place_p) ∙ are.bars n ringed_n a ∙ parts-free sizes stands a n (record { not_first = not_first; no_wall = no_wall });
  }
    where
      n : Cell
      n = ring_cell sizes p

      ringed_n : IsRinged sizes n
      ringed_n = ring_cell-ringed sizes p p_below

      place_p : ring_place sizes n ≡ p
      place_p = ring_place-ring_cell sizes p

      place_q : ring_place sizes (ring_cell sizes q) ≡ q
      place_q = ring_place-ring_cell sizes q

      ringed_before : IsRinged sizes (cell_before a n)
      ringed_before = subst (IsRinged sizes) same (ring_cell-ringed sizes q q_below)

      not_first : coordinate a n ≡ negsuc 0 → ⊥
      not_first first =
          let at = placed_at a (coordinate a n -ℤ pos 1) n in
          let h = (ringed_before a).0 in
          omega (arith, ints)

  -- so steps are steps
  pub steps_iff_ring : (p q : ℕ) → StepsAlong g p q ↔ RingStep sizes (Standing stands) p q
  steps_iff_ring p q = (there, back)
    where
      there : StepsAlong g p q → RingStep sizes (Standing stands) p q
      there step =
          let from = subst (λ c. p < c) are.count step.from in
          let to = subst (λ c. q < c) are.count step.to in
          record { from = from; to = to; passes = (step.leads.0, by step.leads.0 from to step.leads.1) }
        where
          by : (a : Axis) → p < ring_count sizes → q < ring_count sizes → LeadsBack g a p q ⊎ LeadsBack g a q p
              → ((ring_cell sizes q ≡ cell_before a (ring_cell sizes p)) × (OwnWalls sizes (Standing stands) a (ring_cell sizes p) → ⊥))
              ⊎ ((ring_cell sizes p ≡ cell_before a (ring_cell sizes q)) × (OwnWalls sizes (Standing stands) a (ring_cell sizes q) → ⊥))
          by a from to (inl leads) = inl (back-passes a p q from leads)
          by a from to (inr leads) = inr (back-passes a q p to leads)

      back : RingStep sizes (Standing stands) p q → StepsAlong g p q
      back step = record {
        from = subst (λ c. p < c) (sym are.count) step.from;
        to = subst (λ c. q < c) (sym are.count) step.to;
        leads = (step.passes.0, by step.passes.0 step.passes.1);
      }
        where
          by : (a : Axis)
              → ((ring_cell sizes q ≡ cell_before a (ring_cell sizes p)) × (OwnWalls sizes (Standing stands) a (ring_cell sizes p) → ⊥))
              ⊎ ((ring_cell sizes p ≡ cell_before a (ring_cell sizes q)) × (OwnWalls sizes (Standing stands) a (ring_cell sizes q) → ⊥))
              → LeadsBack g a p q ⊎ LeadsBack g a q p
          by a (inl passes) = inl (passes-back a p q step.from step.to passes.0 passes.1)
          by a (inr passes) = inr (passes-back a q p step.to step.from passes.0 passes.1)

-- ---- the bars, as they are told one by one

-- counted from the ring and back it is the same
pub inner-outer : (n : Cell) → inner (outer n) ≡ n
inner-outer n = λ t. record { x = back n.x t; y = back n.y t; z = back n.z t }
  where
    back : (z : ℤ) → (z +ℤ pos 1) -ℤ pos 1 ≡ z
    back z = omega (arith, ints)

-- bars are those before the cell that has this place, counted from the ring
abbrev pub AreBarsAt : Sizes → (Axis → Cell → Bool) → ℕ → CellBars → Type 0
AreBarsAt sizes stands p bars = (c : Cell) → IsTrue (is_within (ringed sizes) c) → box_place (ringed sizes) c ≡ p → AreBarsBefore sizes stands (inner c) bars

-- those before a cell are
pub bars_at : (sizes : Sizes) (stands : Axis → Cell → Bool) (c : Cell) (p : ℕ) (bars : CellBars) → IsTrue (is_within (ringed sizes) c)
    → p ≡ box_place (ringed sizes) c → AreBarsBefore sizes stands (inner c) bars → AreBarsAt sizes stands p bars
bars_at sizes stands c p bars within there are d d_within e =
    subst (λ m. AreBarsBefore sizes stands (inner m) bars) (one_cell (ringed sizes) c d within d_within (sym there ∙ sym e)) are

-- all of them are those before each node
pub all_bars_told : (sizes : Sizes) (stands : Axis → Cell → Bool) (bars : List CellBars) (count : ℕ) → HoldsSoFar (AreBarsAt sizes stands) bars count
    → count ≡ ring_count sizes → AreAllBars sizes stands bars
all_bars_told sizes stands bars count so_far all n ring =
    subst (λ m. AreBarsBefore sizes stands m (slice_index_or bars (ring_place sizes n) no_bars)) (inner-outer n)
    (so_far.each (ring_place sizes n) no_bars (subst (λ c. ring_place sizes n < c) (sym all) (ring_place-below sizes n ring))
    (outer n) (outer-within sizes n ring) refl)
