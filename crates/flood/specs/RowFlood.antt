-- Floods over rows of cells. A row is a word, whose bit k is its cell of number k; rows are listed layer by layer.
use Rattle.std.specs.Prelude.{◌≡◌, ◌≢◌, ◌⊎◌, ◌||◌, ◌&&◌, Bool, true, false, nat_le, ℕ, zero, suc, ◌+◌, ◌-◌, ◌<◌, ◌≤◌, ◌^◌, List, [], ◌∷◌, length, slice_index_or, IsTrue}
use Rattle.lemmas.specs.Bits.{is_set}
use Rattle.lemmas.specs.Chains.{Reaches}
use Rattle.flood.specs.declared.row_flood.RowWays.{RowWays}

-- how many rows a layer has, and where nothing stands between a cell and the one before: in its row, in the row before, and in
-- the layer before
pub record RowParts : Type 0 where
  pub layer : ℕ
  pub along : List ℕ
  pub beside : List ℕ
  pub behind : List ℕ

-- those that are kept
abbrev pub ways_of : RowWays → RowParts
ways_of w = record { layer = w.layer; along = w.along.items; beside = w.beside.items; behind = w.behind.items }

-- there is a word of each kind for so many rows, and not too many
pub record AreAsMany (w : RowParts) (rows : ℕ) : Type 0 where
  pub few : rows ≤ 2 ^ 32
  pub layer : w.layer ≤ 2 ^ 32
  pub along : length w.along ≡ rows
  pub beside : length w.beside ≡ rows
  pub behind : length w.behind ≡ rows

-- rows have a cell: a row, and a number in it
abbrev pub has_cell : List ℕ → ℕ → ℕ → Bool
has_cell rows r k = is_set (slice_index_or rows r 0) k

-- q comes right after p along an axis, and nothing stands between
abbrev pub IsOpenNext : RowParts → ℕ × ℕ → ℕ × ℕ → Type 0
IsOpenNext w p q = ((q ≡ (p.0, suc p.1)) × IsTrue (has_cell w.along q.0 q.1))
    ⊎ (((q ≡ (p.0 + 1, p.1)) × IsTrue (has_cell w.beside q.0 q.1)) ⊎ ((q ≡ (p.0 + w.layer, p.1)) × IsTrue (has_cell w.behind q.0 q.1)))

-- one step, forth or back
abbrev pub Joins : RowParts → ℕ × ℕ → ℕ × ℕ → Type 0
Joins w p q = IsOpenNext w p q ⊎ IsOpenNext w q p

-- a chain of steps leads to a cell from one of these
abbrev pub IsReached : RowParts → List ℕ → ℕ × ℕ → Type 0
IsReached w rows q = (p : ℕ × ℕ) × IsTrue (has_cell rows p.0 p.1) × Reaches (Joins w) p q

-- one step leads to a cell from a row that stands so far before or after its own
abbrev pub leads_across : List ℕ → ℕ → List ℕ → ℕ → ℕ → Bool
leads_across ways stride rows r k =
    (nat_le stride r && (has_cell rows (r - stride) k && has_cell ways r k)) || (has_cell rows (r + stride) k && has_cell ways (r + stride) k)

-- or from the cell before it in its own row
abbrev pub leads_along : List ℕ → List ℕ → ℕ → ℕ → Bool
leads_along ways rows r zero = false
leads_along ways rows r (suc k) = has_cell rows r k && has_cell ways r (suc k)

-- a cell is one of these, or one step leads to it from one of these
abbrev pub is_pulled : RowParts → List ℕ → ℕ → ℕ → Bool
is_pulled w rows r k = has_cell rows r k || (leads_along w.along rows r k
    || ((has_cell rows r (suc k) && has_cell w.along r (suc k)) || (leads_across w.beside 1 rows r k || leads_across w.behind w.layer rows r k)))

-- no step leads to further cells of a row
abbrev pub IsClosedRow : RowParts → List ℕ → ℕ → Type 0
IsClosedRow w rows r = (k : ℕ) → IsTrue (is_pulled w rows r k) → IsTrue (has_cell rows r k)

-- how far words are from being full
abbrev pub unreached : List ℕ → ℕ
unreached [] = 0
unreached (word ∷ rows) = (2 ^ 64 - word) + unreached rows

-- The cells before are among those after, and a chain of steps leads to each of these from one of those; words are no less full.
pub record RowsGrow (w : RowParts) (before after : List ℕ) : Type 0 where
  pub size : length after ≡ length before
  pub kept : (r k : ℕ) → IsTrue (has_cell before r k) → IsTrue (has_cell after r k)
  pub reached : (r k : ℕ) → IsTrue (has_cell after r k) → IsReached w before (r, k)
  pub unreached : unreached after ≤ unreached before

-- nothing has grown, and no step leads to further cells of this row; or it has, and no other one
pub record Pulls (w : RowParts) (r : ℕ) (before after : List ℕ) (grown : Bool) : Type 0 where
  pub grows : RowsGrow w before after
  pub others : (s : ℕ) → s ≢ r → slice_index_or after s 0 ≡ slice_index_or before s 0
  pub same : grown ≡ false → after ≡ before
  pub closed : grown ≡ false → IsClosedRow w before r
  pub more : grown ≡ true → unreached after < unreached before

-- no step leads to further cells of so many first rows
abbrev pub AreClosedRows : RowParts → List ℕ → ℕ → Type 0
AreClosedRows w rows n = (r : ℕ) → r < n → IsClosedRow w rows r

-- the same of those to which no step leads from the next one
abbrev pub AreClosedBut : RowParts → List ℕ → ℕ → Type 0
AreClosedBut w rows n = (r : ℕ) → r < n → r + 1 ≢ n → r + w.layer ≢ n → IsClosedRow w rows r

-- all cells to which chains of steps lead from those before
pub record FloodsRows (w : RowParts) (before after : List ℕ) : Type 0 where
  pub grows : RowsGrow w before after
  pub closed : AreClosedRows w after (length after)
