-- Each page so far was accepted, and what was handed out is the beginning of what was seen.
use Rattle.std.proofs.Common.{◌≤◌, length}
use Rattle.std.specs.Arc.{arc_value}
use Rattle.search_end.specs.Handed.{HandsOn}
use Rattle.search_run.specs.HandedOut.{IsReadUpTo}
use Rattle.search_run.proofs.paging.page_on.Given as goal

abbrev pub invariant-loop : goal.invariant-loop
invariant-loop g l = record {
  read : IsReadUpTo (arc_value l.fn.shop.problem.now) l.reader l.handed.choices;
  few : length l.handed.choices ≤ l.fn.shop.limits.solids;
  out : HandsOn (g.P.PageOut.calls l.fn.pages) l.fn.handed (g.P.PageOut.calls l.pages) l.handed;
  later : g.P.PageOut.faults l.fn.pages ≤ g.P.PageOut.faults l.pages;
}
