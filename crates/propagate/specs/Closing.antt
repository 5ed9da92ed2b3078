-- Decisions that go on by what the lines force, until nothing is forced or a line can't be met.
use Rattle.std.specs.Prelude.{◌≡◌, ◌⊎◌, ◌≤◌, true, ℕ, List, ◌++◌, slice_get, Some}
use Rattle.line_demands.specs.Touching.{touches}
use Rattle.propagate.specs.declared.closing.Closed.{Closed}
use Rattle.propagate.specs.declared.closing.Closed.TheVariants.{Stable, Conflict}
use Rattle.propagate.specs.Forced.{IsCalm}
use Rattle.solid_model.specs.declared.decision.Decision.{Decision}
use Rattle.solid_model.specs.declared.line_id.LineId.{LineId}
use Rattle.solid_model.specs.Blocks.{ProblemParts}
use Rattle.solid_model.specs.Decisions.{decided_by}
use Rattle.solid_model.specs.Demands.{IsFirstBroken}
use Rattle.solid_model.specs.Forcing.{known_by, IsForced, IsStable, Lives}

-- Decisions went on by a forcing chain.
pub record Grows (p : ProblemParts) (old now : List Decision) : Type 0 where
  pub chain : List Decision
  pub longer : now ≡ old ++ chain
  pub known : decided_by now ≡ known_by (decided_by old) chain
  pub forced : IsForced p (decided_by old) chain

-- What closing tells. Stable: under every forcing chain from the old decisions every line can be met; under the new ones so it is,
-- and nothing is excluded. Conflict: under some chain one can't be, and under the new decisions this line is the first.
abbrev pub TellsClosed : ProblemParts → List Decision → List Decision → Closed → Type 0
TellsClosed p old now Stable = Lives p (decided_by old) × IsStable p (decided_by now)
TellsClosed p old now (Conflict l) = (Lives p (decided_by old) → ⊥) × IsFirstBroken p (decided_by now) l

-- ---- the lines that are looked at

-- a line touches the block of a decision from this one on
abbrev pub Awaits : ProblemParts → List Decision → ℕ → LineId → Type 0
Awaits p decisions from l = (at : ℕ) × (from ≤ at) × (d : Decision) × (slice_get decisions at ≡ Some d) × (touches p d.block l ≡ true)

-- it excludes nothing, or is still to be looked at
abbrev pub IsHandled : ProblemParts → List Decision → ℕ → LineId → Type 0
IsHandled p decisions from l = IsCalm p (decided_by decisions) l ⊎ Awaits p decisions from l
