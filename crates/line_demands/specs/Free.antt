-- Lines that leave what is undecided beside them free.
use Rattle.std.specs.Prelude.{◌≡◌, ◌≤◌, ◌+◌, ◌%◌, Bool, false, ℕ, pos, List, length, take, slice_get, slice_index_or, Option, Some, None}
use Rattle.line_demands.specs.Touching.{lines_touching}
use Rattle.solid_model.specs.declared.decision.Decision.{Decision}
use Rattle.solid_model.specs.declared.line_id.LineId.{LineId}
use Rattle.solid_model.specs.Blocks.{ProblemParts}
use Rattle.lemmas.specs.Bits.{is_set}
use Rattle.solid_model.specs.Decisions.{decided_by}
use Rattle.solid_model.specs.Demands.{known_cell, CanBeMet}
use Rattle.solid_model.specs.Forcing.{cell_beside, CanBeMetWith}

-- a line can be met with either value in each undecided cell of the columns after and before it
abbrev pub LeavesFree : ProblemParts → (ℕ → Option Bool) → LineId → Type 0
LeavesFree p known l = (of_after : Bool) (depth : ℕ) (value : Bool)
    → known_cell p.blocks known (cell_beside p.grid l of_after (pos depth)) ≡ None → CanBeMetWith p known l of_after (pos depth) value

-- each line that touches a block, and can be met, does so, but for those at places whose bit is set: places that are 64 apart share one
abbrev pub LeaveFreeBut : ProblemParts → (ℕ → Option Bool) → ℕ → ℕ → Type 0
LeaveFreeBut p known block doubts = (place : ℕ) (l : LineId) → slice_get (lines_touching p block) place ≡ Some l → is_set doubts (place % 64) ≡ false
    → CanBeMet p known l → LeavesFree p known l

-- For each decision this is told of its block, as it was when it was taken, and there is room for one on each block.
pub record AreDoubts (p : ProblemParts) (decisions : List Decision) (doubts : List ℕ) (room : ℕ) : Type 0 where
  pub count : length doubts ≡ length decisions
  pub roomy : p.blocks.count ≤ room
  pub each : (at : ℕ) (d : Decision) (e : ℕ) → slice_get decisions at ≡ Some d → LeaveFreeBut p (decided_by (take (at + 1) decisions)) d.block (slice_index_or doubts at e)
