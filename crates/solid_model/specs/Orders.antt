-- The stated order of cells and of solids. In a list in order each member comes before all that follow, and not only before
-- the next one: the orders are transitive, so it says the same, and is shorter to use.
use Rattle.std.specs.Prelude.{◌≡◌, Bool, false, ◌&&◌, ◌||◌, List, IsTrue, int_lt}
use Rattle.std.specs.Ordering.{int_eq}
use Rattle.solid_model.specs.declared.cell.Cell.{Cell}
use Rattle.solid_model.specs.Cells.{is_full}
use Rattle.lemmas.specs.Lists.{Ascends}

-- cells are ordered by z, then y, then x
abbrev pub is_before : Cell → Cell → Bool
is_before a b = int_lt a.z b.z || (int_eq a.z b.z && (int_lt a.y b.y || (int_eq a.y b.y && int_lt a.x b.x)))

-- a stands before b in that order
abbrev pub ComesBefore : Cell → Cell → Type 0
ComesBefore a b = IsTrue (is_before a b)

-- the stated form of a solid: each cell once, in order
abbrev pub IsInStatedForm : List Cell → Type 0
IsInStatedForm s = Ascends ComesBefore s

-- the stated order of solids, by which cells are full: the one that has the least cell in which they differ comes first
abbrev pub Precedes : (Cell → Bool) → (Cell → Bool) → Type 0
Precedes full other = (c : Cell) × IsTrue (full c) × (other c ≡ false) × ((b : Cell) → ComesBefore b c → full b ≡ other b)

-- the same of solids that are given as lists
abbrev pub SolidPrecedes : List Cell → List Cell → Type 0
SolidPrecedes s t = Precedes (is_full s) (is_full t)
