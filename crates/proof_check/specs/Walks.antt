-- What the check of a log keeps on its way.
use Rattle.std.specs.Prelude.{◌≡◌, Bool, ℕ, List, ◌++◌, length}
use Rattle.solid_model.specs.Blocks.{ProblemParts}
use Rattle.completeness_logs.specs.Logs.{KnownBlocks}
use Rattle.proof_check.specs.declared.fault.LogKind.{LogKind}
use Rattle.proof_check.specs.Checks.{IsRestOfLog, IsRefusedFrom, found_along}
use Rattle.proof_check.specs.LogLines.{LogReading}

-- At some place of a log trees under these states are to come, these choices are listed, and these lines are left, of which the
-- first has this number.
pub record LogPlace : Type 0 where
  pub coming : List KnownBlocks
  pub listed : List (List Bool)
  pub number : ℕ
  pub lines : List (List ℕ)

-- what is so of what is left at a place, was so from an earlier one on
pub record LeadsTo (p : ProblemParts) (r : LogReading) (from to : LogPlace) : Type 0 where
  pub rest : IsRestOfLog p r to.coming (length to.listed) to.lines → IsRestOfLog p r from.coming (length from.listed) from.lines
  pub refused : (kind : LogKind) (line : ℕ) → IsRefusedFrom p r to.coming (length to.listed) to.number to.lines kind line
      → IsRefusedFrom p r from.coming (length from.listed) from.number from.lines kind line
  pub found : to.listed ++ found_along p r to.coming to.lines ≡ from.listed ++ found_along p r from.coming from.lines
