-- Decisions on blocks, in the order in which they were taken.
use Rattle.std.specs.Prelude.{◌≡◌, ◌==◌, Bool, ℕ, ◌<◌, List, [], ◌∷◌, ◌++◌, Option, Some, None, is_some, IsTrue, if◌then◌else◌}
use Rattle.solid_model.specs.declared.decision.Decision.{Decision}
use Rattle.solid_model.specs.Blocks.{ProblemParts}

-- what they say of the block of a number
abbrev pub decided_by : List Decision → ℕ → Option Bool
decided_by [] block = None
decided_by (d ∷ decisions) block = if d.block == block then Some d.full else decided_by decisions block

-- each is on a block that is there, and that none before it is on
abbrev pub AreDecisions : ℕ → List Decision → Type 0
AreDecisions count decisions = (earlier later : List Decision) (d : Decision) → decisions ≡ earlier ++ d ∷ later
    → (d.block < count) × (decided_by earlier d.block ≡ None)

-- each block is decided
abbrev pub AreOnAll : ℕ → List Decision → Type 0
AreOnAll count decisions = (block : ℕ) → block < count → IsTrue (is_some (decided_by decisions block))

-- a problem, some of whose blocks are decided
pub record PartialParts : Type 0 where
  pub problem : ProblemParts
  pub decisions : List Decision
