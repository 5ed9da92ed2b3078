-- Where the writing of a log stands.
use Rattle.std.specs.Prelude.{ℕ, List, [], ◌∷◌, take}
use Rattle.solid_model.specs.declared.decision.Decision.{Decision}
use Rattle.solid_model.specs.Blocks.{ProblemParts}
use Rattle.solid_model.specs.Decisions.{decided_by}
use Rattle.solid_model.specs.Forcing.{IsStable}

-- the decisions that stand, and the places of those whose empty side is to come, the last one first
pub record WalkParts : Type 0 where
  pub problem : ProblemParts
  pub decisions : List Decision
  pub marks : List ℕ

-- under the decisions before each of these places every line can be met, and none excludes a value
abbrev pub AreStableAt : ProblemParts → List Decision → List ℕ → Type 0
AreStableAt p decisions [] = Unit {0}
AreStableAt p decisions (mark ∷ marks) = IsStable p (decided_by (take mark decisions)) × AreStableAt p (take mark decisions) marks
