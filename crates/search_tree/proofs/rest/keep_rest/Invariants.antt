-- What was added, with what is still beside the prefix. Each turn takes one value back.
use Rattle.std.proofs.Common.{◌≡◌, ◌≤◌, ◌++◌, length}
use Rattle.search_tree.specs.Rest.{live_sides, besides}
use Rattle.search_tree.proofs.rest.keep_rest.Given as goal

abbrev pub invariant-loop-path : goal.invariant-loop-path
invariant-loop-path g l =
    let word = g.P.Path.live l.fn.path in
    let n = g.P.Path.blocks l.fn.path in
    let prefix = g.P.Path.prefix l.fn.path in record {
      live : g.P.Path.live l.path ≡ word;
      blocks : g.P.Path.blocks l.path ≡ n;
      floor : l.floor ≤ length (g.P.Path.prefix l.path);
      within : length (g.P.Path.prefix l.path) ≤ n;
      rest : l.rest.items ++ besides word l.floor (g.P.Path.prefix l.path) ≡ l.fn.rest.items ++ (live_sides word prefix ++ besides word l.floor prefix);
    }

abbrev pub decreases-loop-path : goal.decreases-loop-path
decreases-loop-path g l = length (g.P.Path.prefix l.path)
