-- A box with a ring of cells round it, as a graph: whatever stands outside the box is one with the ring.
use Rattle.std.specs.Prelude.{◌≡◌, ◌||◌, ◌&&◌, Bool, ℕ, zero, suc, ◌+◌, ◌*◌, ◌/◌, ◌%◌, ◌<◌, List, length, slice_index_or, Option, Some, None, ℤ, pos, negsuc, ◌-ℤ◌, ◌+ℤ◌, ◌≤ℤ◌, IsTrue}
use Rattle.std.specs.Ordering.{int_eq}
use Rattle.solid_model.specs.declared.cell.Axis.{Axis}
use Rattle.solid_model.specs.declared.cell.Axis.TheVariants.{X, Y, Z}
use Rattle.solid_model.specs.declared.cell.Cell.{Cell}
use Rattle.solid_model.specs.Cells.{coordinate, cell_before}
use Rattle.solid_model.specs.WalledBoxes.{Sizes, box_place, box_count, is_within, Walls, Passes, number_at}
use Rattle.flood.specs.declared.cell_bars.CellBars.{CellBars}
use Rattle.flood.specs.Passages.{PassageParts, no_bars, bar_along}

-- how many cells stand in a row with the ring: one more at either end
abbrev pub ringed : Sizes → Sizes
ringed sizes a = sizes a + 2

-- a number stands from -1 to the size
abbrev pub IsRingedNumber : ℕ → ℤ → Type 0
IsRingedNumber size z = (negsuc 0 ≤ℤ z) × (z ≤ℤ pos size)

-- a cell stands in the box or in its ring
abbrev pub IsRinged : Sizes → Cell → Type 0
IsRinged sizes n = (a : Axis) → IsRingedNumber (sizes a) (coordinate a n)

-- how many nodes the graph has
abbrev pub ring_count : Sizes → ℕ
ring_count sizes = box_count (ringed sizes)

-- The number that a cell has in the box, by that which it has with the ring, whose first cell is (0, 0, 0).
abbrev pub inner : Cell → Cell
inner c = record { x = c.x -ℤ pos 1; y = c.y -ℤ pos 1; z = c.z -ℤ pos 1 }

-- and the other way round
abbrev pub outer : Cell → Cell
outer n = record { x = n.x +ℤ pos 1; y = n.y +ℤ pos 1; z = n.z +ℤ pos 1 }

-- the node that stands for a cell of the box or of the ring, in which the box's first cell is (1, 1, 1)
abbrev pub ring_place : Sizes → Cell → ℕ
ring_place sizes n = box_place (ringed sizes) (outer n)

-- the cell for which a node stands
abbrev pub ring_cell : Sizes → ℕ → Cell
ring_cell sizes p = record {
  x = pos (p % ringed sizes X) -ℤ pos 1;
  y = pos ((p / ringed sizes X) % ringed sizes Y) -ℤ pos 1;
  z = pos ((p / ringed sizes X) / ringed sizes Y) -ℤ pos 1;
}

-- how far apart the nodes of two neighbours along an axis are
abbrev pub ring_stride : Sizes → Axis → ℕ
ring_stride sizes X = 1
ring_stride sizes Y = ringed sizes X
ring_stride sizes Z = ringed sizes X * ringed sizes Y

-- one of the two cells on the sides of a face stands in the box
abbrev pub touches_box : Sizes → Axis → Cell → Bool
touches_box sizes a n = is_within sizes n || is_within sizes (cell_before a n)

-- the walls that the box has: each has a cell of the box on at least one side
abbrev pub OwnWalls : Sizes → Walls → Walls
OwnWalls sizes wall a n = IsTrue (touches_box sizes a n) × wall a n

-- one step of the graph
pub record RingStep (sizes : Sizes) (wall : Walls) (p q : ℕ) : Type 0 where
  pub from : p < ring_count sizes
  pub to : q < ring_count sizes
  pub passes : Passes (OwnWalls sizes wall) (ring_cell sizes p) (ring_cell sizes q)

-- A component's number among the enclosed ones. The first component is that of the ring, and of all that leads out: it isn't
-- enclosed.
abbrev pub enclosed_of : ℕ → Option ℕ
enclosed_of zero = None
enclosed_of (suc k) = Some k

-- what bars the way back from a cell along an axis: nothing of the ring comes before it, or a wall of the box does
abbrev pub has_bar_before : Sizes → (Axis → Cell → Bool) → Axis → Cell → Bool
has_bar_before sizes stands a n = int_eq (coordinate a n) (negsuc 0) || (touches_box sizes a n && stands a n)

-- those before a cell along each axis
abbrev pub AreBarsBefore : Sizes → (Axis → Cell → Bool) → Cell → CellBars → Type 0
AreBarsBefore sizes stands n bars = (a : Axis) → bar_along a bars ≡ has_bar_before sizes stands a n

-- those before each node
abbrev pub AreAllBars : Sizes → (Axis → Cell → Bool) → List CellBars → Type 0
AreAllBars sizes stands bars = (n : Cell) → IsRinged sizes n → AreBarsBefore sizes stands n (slice_index_or bars (ring_place sizes n) no_bars)

-- the nodes of the ringed box with such bars before them
pub record ArePassages (sizes : Sizes) (stands : Axis → Cell → Bool) (g : PassageParts) : Type 0 where
  pub count : g.count ≡ ring_count sizes
  pub strides : g.strides ≡ ring_stride sizes
  pub bars : AreAllBars sizes stands g.bars

-- the numbers of the enclosed components of a box's cells, where each node of the ringed box is in a component
pub record AreEnclosedNumbers (sizes : Sizes) (component : ℕ → ℕ) (enclosed : List (Option ℕ)) : Type 0 where
  pub listed : length enclosed ≡ box_count sizes
  pub each : (n : Cell) → IsTrue (is_within sizes n) → number_at sizes enclosed n ≡ enclosed_of (component (ring_place sizes n))
