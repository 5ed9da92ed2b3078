-- What is later than the prefix is what was later at first. Each turn takes one value back.
use Rattle.std.proofs.Common.{◌≡◌, ◌≤◌, length}
use Rattle.search_tree.specs.Walk.{later}
use Rattle.search_tree.proofs.walk.leave.Given as goal

abbrev pub invariant-loop-path : goal.invariant-loop-path
invariant-loop-path g l = record {
  live : g.P.Path.live l.path ≡ g.P.Path.live l.fn.path;
  blocks : g.P.Path.blocks l.path ≡ g.P.Path.blocks l.fn.path;
  floor : l.floor ≤ length (g.P.Path.prefix l.path);
  within : length (g.P.Path.prefix l.path) ≤ g.P.Path.blocks l.fn.path;
  later : later (g.P.Path.live l.fn.path) (g.P.Path.blocks l.fn.path) l.floor (g.P.Path.prefix l.path)
      ≡ later (g.P.Path.live l.fn.path) (g.P.Path.blocks l.fn.path) l.floor (g.P.Path.prefix l.fn.path);
}

abbrev pub decreases-loop-path : goal.decreases-loop-path
decreases-loop-path g l = length (g.P.Path.prefix l.path)
