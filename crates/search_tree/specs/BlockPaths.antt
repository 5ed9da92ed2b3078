-- A way down the tree of a problem's prefixes: its blocks are decided one after another, and with them what the lines force.
use Rattle.std.specs.Prelude.{◌≡◌, Bool, ℕ, suc, ◌+◌, ◌<◌, ◌≤◌, ◌^◌, List, length, take, slice_index_or, Option}
use Rattle.solid_model.specs.declared.decision.Decision.{Decision}
use Rattle.solid_model.specs.Blocks.{ProblemParts, IsBlocksOf}
use Rattle.solid_model.specs.Decisions.{decided_by, PartialParts}
use Rattle.solid_model.specs.Demands.{said_by}
use Rattle.solid_model.specs.Forcing.{IsLess, IsImplied, IsStable, Lives, is_live}

-- a problem, and the values of its first blocks
pub record PathParts : Type 0 where
  pub problem : ProblemParts
  pub values : List Bool

-- What is known where a prefix is closed: what it says, and no more than it implies; every line can be met, and nothing is
-- excluded.
pub record IsClosure (p : ProblemParts) (prefix : List Bool) (known : ℕ → Option Bool) : Type 0 where
  pub says : IsLess (said_by prefix) known
  pub implied : IsImplied p (said_by prefix) known
  pub stable : IsStable p known

-- A mark says how many decisions there were. There is one for each live prefix that begins the values, from the empty one on:
-- the decisions before the next mark close it, and all of them the last. The next prefix isn't live.
pub record AreMarks (p : ProblemParts) (values : List Bool) (decisions : List Decision) (marks : List ℕ) : Type 0 where
  pub few : length marks ≤ length values + 1
  pub ordered : (m n : ℕ) → m ≤ n → slice_index_or marks m (length decisions) ≤ slice_index_or marks n (length decisions)
  pub closed : (k : ℕ) → k < length marks
      → IsClosure p (take k values) (decided_by (take (slice_index_or marks (suc k) (length decisions)) decisions))
  pub dead : length marks ≤ length values → Lives p (said_by (take (length marks) values)) → ⊥

-- what a way keeps: marks of its decisions, not too many values, room for those of all blocks and for a mark of each prefix
pub record IsPath (partial : PartialParts) (blocks : ℕ) (values : List Bool) (marks : List ℕ) (room high : ℕ) : Type 0 where
  pub marked : AreMarks partial.problem values partial.decisions marks
  pub count : blocks ≡ partial.problem.blocks.count
  pub few : blocks < 2 ^ 16
  pub within : length values ≤ blocks
  pub roomy : blocks ≤ room
  pub roomy_marks : blocks < high
  pub parts : IsBlocksOf partial.problem.grid partial.problem.blocks

-- the way goes down the tree of this problem's prefixes
pub record IsWayOf (p : ProblemParts) (path : PathParts) : Type 0 where
  pub live : is_live path.problem ≡ is_live p
  pub count : path.problem.blocks.count ≡ p.blocks.count
