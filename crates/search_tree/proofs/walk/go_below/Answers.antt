-- To the full side, or else to the empty one.
use Rattle.std.proofs.Common.{◌≡◌, true, false, [], ◌∷◌, ◌++◌, ◌<◌, length, subst, sym, ◌∙◌, arith}
use Rattle.search_tree.specs.Walk.{coming, StandsAtFirst}
use Rattle.search_tree.proofs.Walks.{down_to_full, down_to_empty}
use Rattle.search_tree.proofs.walk.go_below.Goals as goal

pub returns-then-enter-clause-found : goal.returns-then-enter-clause-found
returns-then-enter-clause-found g c e =
    let live = g.P.Path.live c.args.path.now in
    let n = g.P.Path.blocks c.args.path.now in
    let prefix = g.P.Path.prefix c.args.path.now in
    let more : length prefix < n = omega (arith, c.if-depth-block_count.true, c.block_count.ensures.count, c.depth.ensures) in
    let full : live (prefix ++ true ∷ []) ≡ true = sym c.enter.ensures.asked ∙ e in
    subst (StandsAtFirst live n c.args.floor (coming live n c.args.floor prefix)) (sym (c.enter.ensures.entered e))
    (down_to_full live n c.args.floor prefix c.requires.floor c.requires.live more full)

pub returns-else-enter-clause-found : goal.returns-else-enter-clause-found
returns-else-enter-clause-found g c e =
    let live = g.P.Path.live c.args.path.now in
    let n = g.P.Path.blocks c.args.path.now in
    let prefix = g.P.Path.prefix c.args.path.now in
    let more : length prefix < n = omega (arith, c.if-depth-block_count.true, c.block_count.ensures.count, c.depth.ensures) in
    let no_full = c.enter.ensures.none c.if-enter.false in
    let stays : g.P.Path.prefix c.enter.new.path ≡ prefix = c.enter.ensures.stays c.if-enter.false in
    let empty : live (prefix ++ false ∷ []) ≡ true = cc (c.enter-else-enter.ensures.asked, c.enter.ensures.live, stays, e) in
    let entered : g.P.Path.prefix c.enter-else-enter.new.path ≡ prefix ++ false ∷ [] = cc (c.enter-else-enter.ensures.entered e, stays) in
    subst (StandsAtFirst live n c.args.floor (coming live n c.args.floor prefix)) (sym entered)
    (down_to_empty live n c.args.floor prefix c.requires.floor c.requires.live more no_full empty)
