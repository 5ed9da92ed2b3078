-- Nothing that begins with a dead prefix is live.
use Rattle.std.proofs.Common.{◌≡◌, false, List, Bool, [], ◌∷◌, ◌++◌, IsTrue, subst}
use Rattle.solid_model.proofs.PrefixTree.{live_from_none}
use Rattle.solid_model.specs.Tree.{IsTree}
use Rattle.search_tree.proofs.walk.enter.Goals as goal

pub returns-clause-none : goal.returns-clause-none
returns-clause-none g c e =
    let live = g.P.Path.live c.args.path.now in
    let longer : List Bool = g.P.Path.prefix c.args.path.now ++ c.args.full ∷ [] in
    let downwards : (values rest : List Bool) → IsTrue (live (values ++ rest)) → IsTrue (live values) =
    (subst (λ w. IsTree w (g.P.Path.blocks c.go_down.new.self)) c.go_down.ensures.live c.is_live.ensures.tree).closed in
    let dead : live longer ≡ false = cc in
    live_from_none live (g.P.Path.blocks c.args.path.now) longer dead downwards
