-- The way goes down the tree of the problem's prefixes, and the worker is at its seats.
use Rattle.std.specs.Arc.{arc_value}
use Rattle.search_tree.specs.BlockPaths.{IsWayOf}
use Rattle.search_run.specs.Worked.{WorksOn}
use Rattle.search_run.proofs.worker.go_round.Given as goal

abbrev pub invariant-loop : goal.invariant-loop
invariant-loop g l = record {
  way : IsWayOf (arc_value l.fn.shop.problem.now) l.path;
  worked : WorksOn l.fn.worker l.worker;
}
