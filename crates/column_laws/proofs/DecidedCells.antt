-- Cells, where every block is decided.
use Rattle.std.proofs.Common.{◌≡◌, Bool, true, false, ℕ, ℤ, pos, negsuc, List, Option, Some, None, is_some, IsTrue, refl}
use Rattle.std.proofs.lemmas.Bool.{false≢true}
use Rattle.std.proofs.lemmas.Option.{none-some}
use Rattle.column_laws.proofs.Prefixes.{block_below}
use Rattle.solid_model.specs.declared.cell.Cell.{Cell}
use Rattle.solid_model.specs.declared.decision.Decision.{Decision}
use Rattle.lemmas.specs.Bits.{is_set, bits}
use Rattle.solid_model.specs.Blocks.{ProblemParts, IsBlocksOf, block_at}
use Rattle.solid_model.specs.Decisions.{decided_by, AreOnAll}
use Rattle.solid_model.specs.Demands.{known_in, known_cell}
use Rattle.solid_model.specs.Known.{known_of, known_bits}

-- a cell that is known is full where it is full for certain
pub full_tells : (full may : ℕ) (k : ℤ) (value : Bool) → known_bits full may k ≡ Some value → known_bits full may k ≡ Some (bits full k)
full_tells full may (pos k) value e = by (is_set full k) (is_set may k) e
  where
    by : (f m : Bool) → known_of f m ≡ Some value → known_of f m ≡ Some f
    by true m e = refl
    by false true e = absurd (none-some value e)
    by false false e = refl
full_tells full may (negsuc k) value e = refl

module _ (p : ProblemParts) (blocks : IsBlocksOf p.grid p.blocks) (decisions : List Decision) (all : AreOnAll p.blocks.count decisions) where
  -- each cell is known
  pub cell_decided : (n : Cell) → (value : Bool) × (known_cell p.blocks (decided_by decisions) n ≡ Some value)
  cell_decided n = by (block_at p.blocks n) refl
    where
      some : (o : Option Bool) → IsTrue (is_some o) → (value : Bool) × (o ≡ Some value)
      some None none = absurd (false≢true none)
      some (Some value) there = (value, refl)

      by : (block : Option ℕ) → block_at p.blocks n ≡ block → (value : Bool) × (known_in (decided_by decisions) block ≡ Some value)
      by None e = (false, refl)
      by (Some b) e = some (decided_by decisions b) (all b (block_below p.grid p.blocks blocks n b e))
