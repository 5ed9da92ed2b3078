-- What is known of a column of cells, kept as two numbers: a bit of the first is a cell that is full for certain, a bit of the
-- second one that may be full.
use Rattle.std.specs.Prelude.{Bool, true, false, ℕ, ℤ, pos, negsuc, Option, Some, None, IsTrue}
use Rattle.lemmas.specs.Bits.{is_set}

-- what is known of a cell that is full for certain, or may be full, or can't be
abbrev pub known_of : Bool → Bool → Option Bool
known_of true may = Some true
known_of false true = None
known_of false false = Some false

-- what the bits of the two numbers say; below bit 0 each cell is empty
abbrev pub known_bits : ℕ → ℕ → ℤ → Option Bool
known_bits full may (pos k) = known_of (is_set full k) (is_set may k)
known_bits full may (negsuc k) = Some false

-- what is full for certain may be full
abbrev pub LiesWithin : ℕ → ℕ → Type 0
LiesWithin full may = (k : ℕ) → IsTrue (is_set full k) → IsTrue (is_set may k)
