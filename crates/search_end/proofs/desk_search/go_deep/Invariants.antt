-- The desk goes on, and the way goes down its problem's tree.
use Rattle.search_tree.specs.BlockPaths.{IsWayOf}
use Rattle.search_end.specs.GoingOn.{DeskGoesOn}
use Rattle.search_end.proofs.desk_search.go_deep.Given as goal

abbrev pub invariant-loop : goal.invariant-loop
invariant-loop l = record {
  goes_on : DeskGoesOn l.fn.desk l.desk;
  way : IsWayOf l.desk.problem l.path;
}
