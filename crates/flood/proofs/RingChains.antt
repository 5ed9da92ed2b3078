-- Chains of steps between the nodes of a ringed box are chains between the cells: a chain on the lattice is brought into the
-- ring by taking each cell to the nearest one of the box or its ring.
use Rattle.std.proofs.Common.{◌≡◌, ◌↔◌, ◌⊎◌, inl, inr, ⊎_elim, Bool, true, ◌&&◌, ◌||◌, ℕ, zero, suc, ◌<◌, ◌≤◌, min, ltb, ℤ, pos, negsuc, ◌+ℤ◌, ◌-ℤ◌, ◌≤ℤ◌, IsTrue, refl, sym, ◌∙◌, ap, ap₂, subst, subst₂, arith}
use Rattle.std.proofs.lemmas.Bool.{cases_lt, or_cases, le-ltb}
use Rattle.std.proofs.lemmas.Int.{ints}
use Rattle.solid_model.specs.declared.cell.Axis.{Axis}
use Rattle.solid_model.specs.declared.cell.Axis.TheVariants.{X, Y, Z}
use Rattle.solid_model.specs.declared.cell.Cell.{Cell}
use Rattle.solid_model.specs.Cells.{coordinate, placed, cell_before}
use Rattle.lemmas.specs.Chains.{Reaches}
use Rattle.solid_model.specs.WalledBoxes.{Sizes, is_below, is_within, Walls, Passes}
use Rattle.solid_model.proofs.BoxCells.{below-bounds, within-below}
use Rattle.lemmas.proofs.Chains.{reaches-step, reaches-back, reaches-map}
use Rattle.solid_model.proofs.Fullness.{same_coordinates}
use Rattle.solid_model.proofs.Passages.{passes-back}
use Rattle.flood.specs.Graph.{GoesBack}
use Rattle.flood.specs.Ring.{ring_count, ring_place, ring_cell, OwnWalls, RingStep, IsRingedNumber, IsRinged}
use Rattle.flood.proofs.RingPlaces.{within-ringed, ring_place-below, ring_cell-ring_place, ring_cell-ringed, ring_place-ring_cell}

-- ---- numbers brought into the ring

-- the nearest number from -1 to the size
abbrev nearest : ℕ → ℤ → ℤ
nearest size (pos k) = pos (min k size)
nearest size (negsuc k) = negsuc 0

-- it is such a number
nearest-ringed : (size : ℕ) (z : ℤ) → IsRingedNumber size (nearest size z)
nearest-ringed size (pos k) = (omega (arith, ints), omega (arith, ints))
nearest-ringed size (negsuc k) = (omega (arith, ints), omega (arith, ints))

-- of such a number it is the number
nearest-itself : (size : ℕ) (z : ℤ) → IsRingedNumber size z → nearest size z ≡ z
nearest-itself size (pos k) ring = let to = ring.1 in omega (arith, ints)
nearest-itself size (negsuc k) ring = let from = ring.0 in omega (arith, ints)

-- it is in the box where the number is
nearest-below : (size : ℕ) (z : ℤ) → is_below size (nearest size z) ≡ is_below size z
nearest-below size (pos k) = by (cases_lt k size)
  where
    by : (k < size) ⊎ (size ≤ k) → ltb (min k size) size ≡ ltb k size
    by (inl l) = let e : min k size ≡ k = omega arith in ap (λ m. ltb m size) e
    by (inr l) = le-ltb (min k size) size (omega arith) ∙ sym (le-ltb k size l)
nearest-below size (negsuc k) = refl

-- of the number before it is the same, or the one before
nearest-before : (size : ℕ) (z : ℤ) → (nearest size (z -ℤ pos 1) ≡ nearest size z) ⊎ (nearest size (z -ℤ pos 1) ≡ nearest size z -ℤ pos 1)
nearest-before size (pos zero) = let e : min 0 size ≡ 0 = omega arith in inr (ap (λ m. pos m -ℤ pos 1) (sym e))
nearest-before size (pos (suc k)) = by (cases_lt k size)
  where
    back : pos (suc k) -ℤ pos 1 ≡ pos k
    back = omega (arith, ints)

    by : (k < size) ⊎ (size ≤ k)
        → (nearest size (pos (suc k) -ℤ pos 1) ≡ pos (min (suc k) size)) ⊎ (nearest size (pos (suc k) -ℤ pos 1) ≡ pos (min (suc k) size) -ℤ pos 1)
    by (inl l) = let e : pos (min k size) ≡ pos (min (suc k) size) -ℤ pos 1 = omega (arith, ints) in inr (ap (nearest size) back ∙ e)
    by (inr l) = let e : pos (min k size) ≡ pos (min (suc k) size) = omega (arith, ints) in inl (ap (nearest size) back ∙ e)
nearest-before size (negsuc k) = inl refl

-- ---- cells brought into the ring

-- the nearest cell of the box or its ring
abbrev nearest_cell : Sizes → Cell → Cell
nearest_cell sizes n = record { x = nearest (sizes X) n.x; y = nearest (sizes Y) n.y; z = nearest (sizes Z) n.z }

-- it is such a cell
nearest_cell-ringed : (sizes : Sizes) (n : Cell) → IsRinged sizes (nearest_cell sizes n)
nearest_cell-ringed sizes n X = nearest-ringed (sizes X) n.x
nearest_cell-ringed sizes n Y = nearest-ringed (sizes Y) n.y
nearest_cell-ringed sizes n Z = nearest-ringed (sizes Z) n.z

-- of such a cell it is the cell
nearest_cell-itself : (sizes : Sizes) (n : Cell) → IsRinged sizes n → nearest_cell sizes n ≡ n
nearest_cell-itself sizes n ring = same_coordinates (nearest_cell sizes n) n
    (nearest-itself (sizes X) n.x (ring X)) (nearest-itself (sizes Y) n.y (ring Y)) (nearest-itself (sizes Z) n.z (ring Z))

-- it is in the box where the cell is
nearest_cell-within : (sizes : Sizes) (n : Cell) → is_within sizes (nearest_cell sizes n) ≡ is_within sizes n
nearest_cell-within sizes n =
    let x = nearest-below (sizes X) n.x in let y = nearest-below (sizes Y) n.y in let z = nearest-below (sizes Z) n.z in
    λ t. x t && (y t && z t)

-- of the cell before it is the same, or the cell before
nearest_cell-before : (sizes : Sizes) (a : Axis) (n : Cell)
    → (nearest_cell sizes (cell_before a n) ≡ nearest_cell sizes n) ⊎ (nearest_cell sizes (cell_before a n) ≡ cell_before a (nearest_cell sizes n))
nearest_cell-before sizes a n = by a (nearest-before (sizes a) (coordinate a n))
  where
    near : Cell
    near = nearest_cell sizes n

    by : (b : Axis) → (nearest (sizes b) (coordinate b n -ℤ pos 1) ≡ nearest (sizes b) (coordinate b n))
        ⊎ (nearest (sizes b) (coordinate b n -ℤ pos 1) ≡ nearest (sizes b) (coordinate b n) -ℤ pos 1)
        → (nearest_cell sizes (cell_before b n) ≡ near) ⊎ (nearest_cell sizes (cell_before b n) ≡ cell_before b near)
    by X = ⊎_elim (λ e. inl (λ t. placed X (e t) near)) (λ e. inr (λ t. placed X (e t) near))
    by Y = ⊎_elim (λ e. inl (λ t. placed Y (e t) near)) (λ e. inr (λ t. placed Y (e t) near))
    by Z = ⊎_elim (λ e. inl (λ t. placed Z (e t) near)) (λ e. inr (λ t. placed Z (e t) near))

-- ---- chains

-- a cell behind one of the box stands in the box or its ring
behind_within-ringed : (sizes : Sizes) (a : Axis) (n : Cell) → IsTrue (is_within sizes (cell_before a n)) → IsRinged sizes n
behind_within-ringed sizes a n within b =
    let near = one_back a b in
    let at = below-bounds (sizes b) (coordinate b (cell_before a n)) (within-below sizes (cell_before a n) within b) in
    (omega (arith, ints), omega (arith, ints))
  where
    one_back : (c d : Axis) → (coordinate d (cell_before c n) ≤ℤ coordinate d n) × (coordinate d n ≤ℤ (coordinate d (cell_before c n) +ℤ pos 1))
    one_back X X = (omega (arith, ints), omega (arith, ints))
    one_back Y Y = (omega (arith, ints), omega (arith, ints))
    one_back Z Z = (omega (arith, ints), omega (arith, ints))
    one_back _ _ = (omega (arith, ints), omega (arith, ints))

module _ (sizes : Sizes) (wall : Walls) where
  -- the step between two nodes goes back
  pub ring_step-back : GoesBack (ring_count sizes) (RingStep sizes wall)
  ring_step-back p q p_below q_below step =
      record { from = step.to; to = step.from; passes = passes-back (OwnWalls sizes wall) (ring_cell sizes p) (ring_cell sizes q) step.passes }

  -- and so does each chain of them
  pub ring_chain-back : (p q : ℕ) → Reaches (RingStep sizes wall) p q → Reaches (RingStep sizes wall) q p
  ring_chain-back = reaches-back (RingStep sizes wall) (λ p q step. ring_step-back p q step.from step.to step)

  -- a chain of nodes is one of their cells
  pub ring_chain-cells : (p q : ℕ) → Reaches (RingStep sizes wall) p q
      → Reaches (Passes (OwnWalls sizes wall)) (ring_cell sizes p) (ring_cell sizes q)
  ring_chain-cells = reaches-map (RingStep sizes wall) (Passes (OwnWalls sizes wall)) (ring_cell sizes)
      (λ p q step. reaches-step (Passes (OwnWalls sizes wall)) (ring_cell sizes p) (ring_cell sizes q) step.passes)

  -- the node of the nearest cell
  abbrev node : Cell → ℕ
  node n = ring_place sizes (nearest_cell sizes n)

  -- a step between two cells of the box or its ring is one between their nodes
  step_of_cells : (n m : Cell) → IsRinged sizes n → IsRinged sizes m → Passes (OwnWalls sizes wall) n m
      → RingStep sizes wall (ring_place sizes n) (ring_place sizes m)
  step_of_cells n m n_ring m_ring passes = record {
    from = ring_place-below sizes n n_ring;
    to = ring_place-below sizes m m_ring;
    passes = subst₂ (Passes (OwnWalls sizes wall)) (sym (ring_cell-ring_place sizes n n_ring)) (sym (ring_cell-ring_place sizes m m_ring)) passes;
  }

  -- a wall between the nearest cells of two neighbours is one between the two
  wall_of_nearest : (a : Axis) (n : Cell) → nearest_cell sizes (cell_before a n) ≡ cell_before a (nearest_cell sizes n)
      → OwnWalls sizes wall a (nearest_cell sizes n) → OwnWalls sizes wall a n
  wall_of_nearest a n moved own = subst (OwnWalls sizes wall a) (nearest_cell-itself sizes n (ring (or_cases here back has))) own
    where
      here : Bool
      here = is_within sizes n

      back : Bool
      back = is_within sizes (cell_before a n)

      has : IsTrue (here || back)
      has =
          let same_here = nearest_cell-within sizes n in
          let same_back = ap (is_within sizes) (sym moved) ∙ nearest_cell-within sizes (cell_before a n) in
          sym (ap₂ ◌||◌ same_here same_back) ∙ own.0

      ring : (here ≡ true) ⊎ (back ≡ true) → IsRinged sizes n
      ring (inl within) = within-ringed sizes n within
      ring (inr within) = behind_within-ringed sizes a n within

  -- a step to the cell before gives a chain of nodes, of one step or none
  node_before : (a : Axis) (n : Cell) → (OwnWalls sizes wall a n → ⊥) → Reaches (RingStep sizes wall) (node n) (node (cell_before a n))
  node_before a n no_wall = by (nearest_cell-before sizes a n)
    where
      near : Cell
      near = nearest_cell sizes n

      near_before : Cell
      near_before = nearest_cell sizes (cell_before a n)

      by : (near_before ≡ near) ⊎ (near_before ≡ cell_before a near) → Reaches (RingStep sizes wall) (node n) (node (cell_before a n))
      by (inl same) = (zero, ap (ring_place sizes) (sym same))
      by (inr moved) = reaches-step (RingStep sizes wall) (node n) (node (cell_before a n))
          (step_of_cells near near_before (nearest_cell-ringed sizes n) (nearest_cell-ringed sizes (cell_before a n))
          (a, inl (moved, λ own. no_wall (wall_of_nearest a n moved own))))

  -- and so does each step
  node_step : (n m : Cell) → Passes (OwnWalls sizes wall) n m → Reaches (RingStep sizes wall) (node n) (node m)
  node_step n m (a, inl (e, no_wall)) = subst (λ c. Reaches (RingStep sizes wall) (node n) (node c)) (sym e) (node_before a n no_wall)
  node_step n m (a, inr (e, no_wall)) =
      ring_chain-back (node m) (node n) (subst (λ c. Reaches (RingStep sizes wall) (node m) (node c)) (sym e) (node_before a m no_wall))

  -- a chain between two cells of the box or its ring is one of their nodes
  pub cells-ring_chain : (n m : Cell) → IsRinged sizes n → IsRinged sizes m → Reaches (Passes (OwnWalls sizes wall)) n m
      → Reaches (RingStep sizes wall) (ring_place sizes n) (ring_place sizes m)
  cells-ring_chain n m n_ring m_ring chain =
      let n_itself = nearest_cell-itself sizes n n_ring in let m_itself = nearest_cell-itself sizes m m_ring in
      subst₂ (Reaches (RingStep sizes wall)) (ap (ring_place sizes) n_itself) (ap (ring_place sizes) m_itself)
      (reaches-map (Passes (OwnWalls sizes wall)) (RingStep sizes wall) node node_step n m chain)

  -- chains between the nodes of such cells are chains between the cells
  pub places_chain_iff_cells : (n m : Cell) → IsRinged sizes n → IsRinged sizes m
      → Reaches (RingStep sizes wall) (ring_place sizes n) (ring_place sizes m) ↔ Reaches (Passes (OwnWalls sizes wall)) n m
  places_chain_iff_cells n m n_ring m_ring = (
    λ chain. subst₂ (Reaches (Passes (OwnWalls sizes wall))) (ring_cell-ring_place sizes n n_ring) (ring_cell-ring_place sizes m m_ring)
        (ring_chain-cells (ring_place sizes n) (ring_place sizes m) chain),
    cells-ring_chain n m n_ring m_ring,
  )

  -- and those between nodes are chains between their cells
  pub ring_chain_iff_cells : (p q : ℕ) → p < ring_count sizes → q < ring_count sizes
      → Reaches (RingStep sizes wall) p q ↔ Reaches (Passes (OwnWalls sizes wall)) (ring_cell sizes p) (ring_cell sizes q)
  ring_chain_iff_cells p q p_below q_below = (
    ring_chain-cells p q,
    λ chain. subst₂ (Reaches (RingStep sizes wall)) (ring_place-ring_cell sizes p) (ring_place-ring_cell sizes q)
        (cells-ring_chain (ring_cell sizes p) (ring_cell sizes q) (ring_cell-ringed sizes p p_below) (ring_cell-ringed sizes q q_below) chain),
  )
