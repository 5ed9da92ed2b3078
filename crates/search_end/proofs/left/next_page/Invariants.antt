-- What is left, and the page so far.
use Rattle.std.proofs.Common.{◌≡◌, ◌++◌, length}
use Rattle.std.specs.Vec.Iter.{into_iter_items}
use Rattle.search_end.proofs.left.next_page.Given as goal

abbrev pub invariant-loop : goal.invariant-loop
invariant-loop l = record {
  parts : into_iter_items l.initial.left ≡ l.page.items ++ into_iter_items l.left;
  count : length l.page.items ≡ l.counter;
}
