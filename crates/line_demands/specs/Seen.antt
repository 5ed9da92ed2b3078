-- What is seen of a line, where so much is known of the blocks.
use Rattle.std.specs.Prelude.{◌≡◌, Bool, true, false, ℕ, ℤ, Option, IsTrue}
use Rattle.line_demands.specs.declared.known.KnownColumn.{KnownColumn}
use Rattle.line_demands.specs.declared.seen.SeenLine.{SeenLine}
use Rattle.solid_model.specs.Known.{known_bits, LiesWithin}
use Rattle.solid_model.specs.Blocks.{ProblemParts}
use Rattle.solid_model.specs.Demands.{has_line, line_style, known_cell, known_after, known_before}

-- It is a line of the grid, with its style and what is known of the columns after it and before it.
pub record IsSeen (p : ProblemParts) (known : ℕ → Option Bool) (s : SeenLine) : Type 0 where
  pub has : IsTrue (has_line p.grid s.line)
  pub style : s.style ≡ line_style p.grid s.line
  pub within_after : LiesWithin s.after.full s.after.may
  pub within_before : LiesWithin s.before.full s.before.may
  pub after : (k : ℤ) → known_bits s.after.full s.after.may k ≡ known_after p.grid (known_cell p.blocks known) s.line k
  pub before : (k : ℤ) → known_bits s.before.full s.before.may k ≡ known_before p.grid (known_cell p.blocks known) s.line k

-- the column after the line, or the one before it
abbrev pub column_of : SeenLine → Bool → KnownColumn
column_of s true = s.after
column_of s false = s.before

-- what is known of it
abbrev pub known_beside : SeenLine → Bool → ℤ → Option Bool
known_beside s of_after = known_bits (column_of s of_after).full (column_of s of_after).may
