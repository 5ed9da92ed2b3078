-- The way that no worker has yet goes down the tree of the problem's prefixes.
use Rattle.std.proofs.Common.{IfSome}
use Rattle.std.specs.Arc.{arc_value}
use Rattle.search_tree.specs.BlockPaths.{IsWayOf}
use Rattle.search_run.proofs.worker.start_workers.Given as goal

abbrev pub invariant-loop-seat : goal.invariant-loop-seat
invariant-loop-seat g l =
    (goal.iterator-loop-seat g).can_next l.seat-iterator
    × (goal.iterator-loop-seat g).is_finite l.seat-iterator
    × IfSome l.path (IsWayOf (arc_value l.fn.shop.problem.now))
