-- The nodes of a ringed box and the cells that they stand for: each is the other's, and nodes come in the order of cells.
use Rattle.std.proofs.Common.{◌≡◌, ◌↔◌, true, ℕ, zero, suc, ◌+◌, ◌*◌, ◌<◌, ℤ, pos, negsuc, ◌+ℤ◌, ◌-ℤ◌, ◌≤ℤ◌, IsTrue, refl, sym, ◌∙◌, ap, arith}
use Rattle.std.proofs.lemmas.Int.{ints}
use Rattle.solid_model.specs.declared.cell.Axis.{Axis}
use Rattle.solid_model.specs.declared.cell.Axis.TheVariants.{X, Y, Z}
use Rattle.solid_model.specs.declared.cell.Cell.{Cell}
use Rattle.solid_model.specs.Cells.{coordinate, placed, cell_before, cell_after}
use Rattle.solid_model.specs.Orders.{ComesBefore}
use Rattle.solid_model.specs.WalledBoxes.{Sizes, is_below, is_within, place_of_number, box_place}
use Rattle.solid_model.proofs.BoxCells.{below-bounds, bounds-below, within-below, below-within}
use Rattle.solid_model.proofs.BoxPlaces.{cell_there, cell_of_place, cell_of_place-within, cell_of_place-there, cell_of_place-own, before_earlier, earlier_before}
use Rattle.solid_model.proofs.CellOrder.{LiesBefore, before-lies, lies-before}
use Rattle.flood.specs.Ring.{ringed, IsRingedNumber, IsRinged, ring_count, inner, outer, ring_place, ring_cell, ring_stride}
use Rattle.lemmas.proofs.Integers.{up_and_down, down_and_up}

-- ---- cells of the box and of its ring

-- a cell of the box stands in the box or in its ring
pub within-ringed : (sizes : Sizes) (n : Cell) → IsTrue (is_within sizes n) → IsRinged sizes n
within-ringed sizes n within a =
    let h = below-bounds (sizes a) (coordinate a n) (within-below sizes n within a) in (omega (arith, ints), omega (arith, ints))

-- ---- with its ring a box is a box once more

-- which has the cells of the box and of its ring,
pub outer-within : (sizes : Sizes) (n : Cell) → IsRinged sizes n → is_within (ringed sizes) (outer n) ≡ true
outer-within sizes n ring = below-within (ringed sizes) (outer n) at
  where
    from_ring : (size : ℕ) (z : ℤ) → IsRingedNumber size z → is_below (size + 2) (z +ℤ pos 1) ≡ true
    from_ring size z h = let from = h.0 in let to = h.1 in bounds-below (size + 2) (z +ℤ pos 1) (omega (arith, ints)) (omega (arith, ints))

    at : (a : Axis) → is_below (ringed sizes a) (coordinate a (outer n)) ≡ true
    at X = from_ring (sizes X) n.x (ring X)
    at Y = from_ring (sizes Y) n.y (ring Y)
    at Z = from_ring (sizes Z) n.z (ring Z)

-- and no others
inner-ringed : (sizes : Sizes) (c : Cell) → is_within (ringed sizes) c ≡ true → IsRinged sizes (inner c)
inner-ringed sizes c within = at
  where
    to_ring : (size : ℕ) (z : ℤ) → is_below (size + 2) z ≡ true → IsRingedNumber size (z -ℤ pos 1)
    to_ring size z below = let h = below-bounds (size + 2) z below in (omega (arith, ints, h.0, h.1), omega (arith, ints, h.0, h.1))

    at : (a : Axis) → IsRingedNumber (sizes a) (coordinate a (inner c))
    at X = to_ring (sizes X) c.x (within-below (ringed sizes) c within X)
    at Y = to_ring (sizes Y) c.y (within-below (ringed sizes) c within Y)
    at Z = to_ring (sizes Z) c.z (within-below (ringed sizes) c within Z)

-- cells come in one order by either number
outer-before : (n m : Cell) → ComesBefore n m ↔ ComesBefore (outer n) (outer m)
outer-before n m =
    (λ h. lies-before (outer n) (outer m) (up (before-lies n m h)), λ h. lies-before n m (down (before-lies (outer n) (outer m) h)))
  where
    up : LiesBefore n m → LiesBefore (outer n) (outer m)
    up h = grind (arith, ints)

    down : LiesBefore (outer n) (outer m) → LiesBefore n m
    down h = grind (arith, ints)

-- ---- nodes and cells

-- a cell of the box or of its ring has a node
pub ring_place-below : (sizes : Sizes) (n : Cell) → IsRinged sizes n → ring_place sizes n < ring_count sizes
ring_place-below sizes n ring = cell_there (ringed sizes) (outer n) (outer-within sizes n ring)

-- which stands for that cell
pub ring_cell-ring_place : (sizes : Sizes) (n : Cell) → IsRinged sizes n → ring_cell sizes (ring_place sizes n) ≡ n
ring_cell-ring_place sizes n ring =
    ap inner (cell_of_place-own (ringed sizes) (outer n) (outer-within sizes n ring))
    ∙ (λ t. record { x = up_and_down n.x t; y = up_and_down n.y t; z = up_and_down n.z t })

-- a node stands for a cell of the box or of its ring
pub ring_cell-ringed : (sizes : Sizes) (p : ℕ) → p < ring_count sizes → IsRinged sizes (ring_cell sizes p)
ring_cell-ringed sizes p below = inner-ringed sizes (cell_of_place (ringed sizes) p) (cell_of_place-within (ringed sizes) p below)

-- whose node it is
pub ring_place-ring_cell : (sizes : Sizes) (p : ℕ) → ring_place sizes (ring_cell sizes p) ≡ p
ring_place-ring_cell sizes p =
    let c = cell_of_place (ringed sizes) p in
    (λ t. box_place (ringed sizes) (record { x = down_and_up c.x t; y = down_and_up c.y t; z = down_and_up c.z t })) ∙ cell_of_place-there (ringed sizes) p

-- ---- the order of nodes

module _ (sizes : Sizes) (n m : Cell) (ring_n : IsRinged sizes n) (ring_m : IsRinged sizes m) where
  -- the node of a cell that comes before another comes earlier
  pub before-earlier : ComesBefore n m → ring_place sizes n < ring_place sizes m
  before-earlier before =
      before_earlier (ringed sizes) (outer n) (outer m) (outer-within sizes n ring_n) (outer-within sizes m ring_m) ((outer-before n m).0 before)

  -- nodes come in the order of their cells
  pub earlier-before : ring_place sizes n < ring_place sizes m → ComesBefore n m
  earlier-before earlier =
      (outer-before n m).1 (earlier_before (ringed sizes) (outer n) (outer m) (outer-within sizes n ring_n) (outer-within sizes m ring_m) earlier)

  -- the order of nodes is the order of cells
  pub earlier_iff_before : (ring_place sizes n < ring_place sizes m) ↔ ComesBefore n m
  earlier_iff_before = (earlier-before, before-earlier)

-- ---- neighbours

-- a cell's number along an axis, counted from the ring
abbrev ring_number : Axis → Cell → ℕ
ring_number a n = place_of_number (coordinate a n +ℤ pos 1)

-- the node of the next cell along an axis
pub ring_place-after : (sizes : Sizes) (a : Axis) (n : Cell) → IsRinged sizes n
    → ring_place sizes (cell_after a n) ≡ ring_place sizes n + ring_stride sizes a
ring_place-after sizes a n ring = at a (next a (coordinate a n) (ring a).0)
  where
    next : (b : Axis) (z : ℤ) → negsuc 0 ≤ℤ z → place_of_number ((z +ℤ pos 1) +ℤ pos 1) ≡ place_of_number (z +ℤ pos 1) + 1
    next b (pos k) from = refl
    next b (negsuc zero) from = refl
    next b (negsuc (suc k)) from = absurd (omega (arith, ints))

    at : (b : Axis) → place_of_number ((coordinate b n +ℤ pos 1) +ℤ pos 1) ≡ ring_number b n + 1
        → ring_place sizes (cell_after b n) ≡ ring_place sizes n + ring_stride sizes b
    at X e = ap (λ k. (ring_number Z n * ringed sizes Y + ring_number Y n) * ringed sizes X + k) e ∙ omega arith
    at Y e = ap (λ k. (ring_number Z n * ringed sizes Y + k) * ringed sizes X + ring_number X n) e ∙ omega arith
    at Z e = ap (λ k. (k * ringed sizes Y + ring_number Y n) * ringed sizes X + ring_number X n) e ∙ omega arith

-- and of a cell whose neighbour before it has a node
pub ring_place-before : (sizes : Sizes) (a : Axis) (n : Cell) → IsRinged sizes (cell_before a n)
    → ring_place sizes n ≡ ring_place sizes (cell_before a n) + ring_stride sizes a
ring_place-before sizes a n ring = ap (ring_place sizes) (sym (after_before a)) ∙ ring_place-after sizes a (cell_before a n) ring
  where
    after_before : (b : Axis) → cell_after b (cell_before b n) ≡ n
    after_before X = λ t. placed X (down_and_up n.x t) n
    after_before Y = λ t. placed Y (down_and_up n.y t) n
    after_before Z = λ t. placed Z (down_and_up n.z t) n
