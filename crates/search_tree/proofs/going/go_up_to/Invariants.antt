-- The first values are left as they were. Each turn takes one value back.
use Rattle.std.proofs.Common.{◌≡◌, take, length}
use Rattle.search_tree.proofs.going.go_up_to.Given as goal

abbrev pub invariant-loop-path : goal.invariant-loop-path
invariant-loop-path g l = record {
  live : g.P.Path.live l.path ≡ g.P.Path.live l.fn.path;
  blocks : g.P.Path.blocks l.path ≡ g.P.Path.blocks l.fn.path;
  prefix : take l.height (g.P.Path.prefix l.path) ≡ take l.height (g.P.Path.prefix l.fn.path);
}

abbrev pub decreases-loop-path : goal.decreases-loop-path
decreases-loop-path g l = length (g.P.Path.prefix l.path)
