-- Reports of pieces of a problem.
use Rattle.std.specs.Prelude.{Bool, ℕ, List}
use Rattle.solid_model.specs.Blocks.{ProblemParts}
use Rattle.solid_model.specs.Forcing.{is_live}
use Rattle.solid_model.specs.Tree.{IsAllowed}

-- a report: of a piece of a problem, how many prefixes were opened, which choices were found, and which prefixes are the rest
pub record Report : Type 0 where
  pub problem : ProblemParts
  pub piece : List Bool
  pub opened : ℕ
  pub found : List (List Bool)
  pub rest : List (List Bool)

-- it is an allowed report of its piece, for its problem
abbrev pub IsReport : Report → Type 0
IsReport r = IsAllowed (is_live r.problem) r.problem.blocks.count r.piece r.opened r.found r.rest
