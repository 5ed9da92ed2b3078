-- So many of the piece's values are taken.
use Rattle.std.proofs.Common.{◌≡◌, take}
use Rattle.solid_model.specs.Forcing.{is_live}
use Rattle.search_tree.proofs.going.go_to.Given as goal

abbrev pub invariant-loop-at : goal.invariant-loop-at
invariant-loop-at l = record {
  live : is_live l.path.problem ≡ is_live l.fn.path.problem;
  blocks : l.path.problem.blocks.count ≡ l.fn.path.problem.blocks.count;
  along : l.path.values ≡ take l.at l.piece;
}
