-- Each reader so far is one of a book of the problem.
use Rattle.std.proofs.Common.{◌≡◌, ◌+◌, length}
use Rattle.std.specs.Vec.Iter.{into_iter_items}
use Rattle.lemmas.specs.Lists.{Each}
use Rattle.query_session.specs.Tales.{IsReaderOf}
use Rattle.search_run.proofs.opening.readers_of.Given as goal

abbrev pub invariant-loop-next : goal.invariant-loop-next
invariant-loop-next g l = record {
  each : Each (IsReaderOf l.fn.problem) l.own.items;
  count : length l.own.items + length (into_iter_items l.left) ≡ length l.fn.readers.items;
}

abbrev pub decreases-loop-next : goal.decreases-loop-next
decreases-loop-next g l = length (into_iter_items l.left)
