-- The path stands at the last of those that are opened so far.
use Rattle.std.proofs.Common.{◌≡◌, ◌-◌, ◌≤◌, ◌++◌}
use Rattle.solid_model.specs.Tree.{found_of}
use Rattle.search_tree.specs.Opened.{StandsAtLast}
use Rattle.search_tree.proofs.opened.open_first.Given as goal

abbrev pub invariant-loop-opened : goal.invariant-loop-opened
invariant-loop-opened g l =
    let word = g.P.Path.live l.fn.path in
    let n = g.P.Path.blocks l.fn.path in
    let piece = g.P.Path.prefix l.fn.path in record {
      live : g.P.Path.live l.path ≡ word;
      blocks : g.P.Path.blocks l.path ≡ n;
      few : l.opened ≤ l.quantum;
      found : l.found.items ≡ l.fn.found.items ++ found_of word n piece l.opened;
      last : StandsAtLast word n piece l.opened (g.P.Path.prefix l.path);
    }

abbrev pub decreases-loop-opened : goal.decreases-loop-opened
decreases-loop-opened g l = l.quantum - l.opened
