-- So many live prefixes are opened; each turn opens one of those that are left.
use Rattle.std.proofs.Common.{◌≡◌, [], length, drop}
use Rattle.solid_model.specs.Tree.{live_from}
use Rattle.search_tree.proofs.SearchEnds.{Searches}
use Rattle.search_tree.proofs.alone.search_path.Given as goal

abbrev pub invariant-loop-more : goal.invariant-loop-more
invariant-loop-more g l =
    let word = g.P.Path.live l.fn.path in
    let n = g.P.Path.blocks l.fn.path in record {
      live : g.P.Path.live l.path ≡ word;
      blocks : g.P.Path.blocks l.path ≡ n;
      searches : Searches word n l.fn.limits l.more (g.P.Path.prefix l.path) l.opened l.solids.items;
    }

abbrev pub decreases-loop-more : goal.decreases-loop-more
decreases-loop-more g l = length (drop l.opened (live_from (g.P.Path.live l.fn.path) (g.P.Path.blocks l.fn.path) []))
