-- What was handed out with what is left is what it was before, and each page so far was accepted.
use Rattle.std.proofs.Common.{◌≡◌, ◌≤◌, ◌++◌, length}
use Rattle.std.specs.Vec.Iter.{into_iter_items}
use Rattle.search_end.specs.Handed.{HandsOn}
use Rattle.search_end.proofs.left.hand_rest.Given as goal

abbrev pub invariant-loop-page : goal.invariant-loop-page
invariant-loop-page g l = record {
  all : l.handed.choices ++ into_iter_items l.left ≡ l.fn.handed.choices ++ l.fn.left.items;
  out : HandsOn (g.P.PageOut.calls l.fn.pages) l.fn.handed (g.P.PageOut.calls l.pages) l.handed;
  later : g.P.PageOut.faults l.fn.pages ≤ g.P.PageOut.faults l.pages;
}

abbrev pub decreases-loop-page : goal.decreases-loop-page
decreases-loop-page g l = length (into_iter_items l.left)
