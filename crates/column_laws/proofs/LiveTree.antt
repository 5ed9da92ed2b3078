-- The live prefixes of a problem are a tree.
use Rattle.std.proofs.Common.{Bool, List, ◌++◌, length-append, arith}
use Rattle.column_laws.proofs.LiveComputed.{live_computed}
use Rattle.solid_model.specs.Blocks.{ProblemParts, IsBlocksOf}
use Rattle.solid_model.specs.Demands.{said_by}
use Rattle.solid_model.specs.Forcing.{IsLive, is_live}
use Rattle.solid_model.specs.Tree.{IsTree}
use Rattle.solid_model.proofs.Lives.{said_less, lives_less}

module _ (p : ProblemParts) where
  -- what a live prefix begins with is live
  pub begins_live : (prefix rest : List Bool) → IsLive p (prefix ++ rest) → IsLive p prefix
  begins_live prefix rest live = record {
    short = omega (arith, live.short, length-append prefix rest);
    lives = lives_less p (said_by prefix) (said_by (prefix ++ rest)) (said_less prefix rest) live.lives;
  }

  -- the live prefixes are a tree
  pub problem_tree : IsBlocksOf p.grid p.blocks → IsTree (is_live p) p.blocks.count
  problem_tree blocks = record {
    short = λ prefix live. ((live_computed p blocks prefix).0 live).short;
    closed = λ prefix rest live. (live_computed p blocks prefix).1 (begins_live prefix rest ((live_computed p blocks (prefix ++ rest)).0 live));
  }
