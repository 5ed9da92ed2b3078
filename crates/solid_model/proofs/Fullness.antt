-- Facts of cells, and of which cells of a solid are full.
use Rattle.std.proofs.Common.{◌≡◌, Bool, true, false, ◌&&◌, ◌||◌, List, [], ◌∷◌, ◌++◌, Decides, IsTrue, refl, sym, ◌∙◌, ap}
use Rattle.std.specs.Ordering.{int_eq}
use Rattle.std.proofs.lemmas.Bool.{false≢true, false_from_ne_true, both_ways, or_left}
use Rattle.std.proofs.lemmas.Bool.Decides.{Decides-int_eq, Decides-and, Decides-or, Decides-like}
use Rattle.solid_model.specs.declared.cell.Cell.{Cell}
use Rattle.solid_model.specs.Cells.{same_cell, is_full, IsSolid, SameCells}
use Rattle.lemmas.specs.Lists.{Member}

-- ---- cells

-- cells with the same coordinates are one
pub same_coordinates : (a b : Cell) → a.x ≡ b.x → a.y ≡ b.y → a.z ≡ b.z → a ≡ b
same_coordinates a b p q r = λ i. record { x = p i; y = q i; z = r i }

-- the test for one cell is right
pub Decides-same_cell : (a b : Cell) → Decides (same_cell a b) (a ≡ b)
Decides-same_cell a b =
    Decides-like (same_cell a b) (λ e. same_coordinates a b e.0 e.1.0 e.1.1) (λ e. (ap (λ (c : Cell). c.x) e, (ap (λ (c : Cell). c.y) e, ap (λ (c : Cell). c.z) e)))
    (Decides-and (int_eq a.x b.x) (int_eq a.y b.y && int_eq a.z b.z) (Decides-int_eq a.x b.x)
    (Decides-and (int_eq a.y b.y) (int_eq a.z b.z) (Decides-int_eq a.y b.y) (Decides-int_eq a.z b.z)))

-- cells that pass the test are one
pub same_cell-true : (a b : Cell) → same_cell a b ≡ true → a ≡ b
same_cell-true a b = (Decides-same_cell a b).0

-- one cell passes the test
pub same_cell-from : (a b : Cell) → a ≡ b → same_cell a b ≡ true
same_cell-from a b = (Decides-same_cell a b).1

-- a cell passes the test with itself
pub same_cell-itself : (a : Cell) → same_cell a a ≡ true
same_cell-itself a = same_cell-from a a refl

-- ---- full cells

-- the full cells of a solid are the list's members
pub Decides-is_full : (s : List Cell) (c : Cell) → Decides (is_full s c) (Member s c)
Decides-is_full [] c = (λ e. both_ways false refl e, λ k. absurd k)
Decides-is_full (x ∷ xs) c = Decides-or (same_cell x c) (is_full xs c) (Decides-same_cell x c) (Decides-is_full xs c)

-- a full cell is a member
pub is_full-member : (s : List Cell) (c : Cell) → is_full s c ≡ true → Member s c
is_full-member s c = (Decides-is_full s c).0

-- a member is full
pub member-is_full : (s : List Cell) (c : Cell) → Member s c → is_full s c ≡ true
member-is_full s c = (Decides-is_full s c).1

-- a cell that is no member is empty
pub not_member-is_empty : (s : List Cell) (c : Cell) → (Member s c → ⊥) → is_full s c ≡ false
not_member-is_empty s c none = false_from_ne_true (is_full s c) (λ e. none (is_full-member s c e))

-- the cells of two solids together
pub is_full-append : (s t : List Cell) (c : Cell) → is_full (s ++ t) c ≡ (is_full s c || is_full t c)
is_full-append [] t c = refl
is_full-append (x ∷ xs) t c = ap (λ b. same_cell x c || b) (is_full-append xs t c) ∙ or_or (same_cell x c) (is_full xs c) (is_full t c)
  where
    or_or : (a b d : Bool) → (a || (b || d)) ≡ ((a || b) || d)
    or_or true b d = refl
    or_or false b d = refl

-- ---- one solid given by two lists

-- a member of the one list is a member of the other
pub same_cells-members : (s t : List Cell) → SameCells s t → (c : Cell) → Member s c → Member t c
same_cells-members s t same c k = is_full-member t c (sym (same c) ∙ member-is_full s c k)

-- ---- solids have cells

-- what has a full cell is a solid
pub solid_with : (s : List Cell) (c : Cell) → IsTrue (is_full s c) → IsSolid s
solid_with [] c full = absurd (false≢true full)
solid_with (x ∷ xs) c full = tt

-- and a solid has a full cell
pub full_cell_of : (s : List Cell) → IsSolid s → (c : Cell) × IsTrue (is_full s c)
full_cell_of [] has = absurd has
full_cell_of (c ∷ cs) has = (c, or_left (same_cell c c) (is_full cs c) (same_cell-itself c))
