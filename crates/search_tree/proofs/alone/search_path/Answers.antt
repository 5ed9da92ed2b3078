-- The beginning, one turn more, and the two ways to be cut.
use Rattle.std.proofs.Common.{◌≡◌, true, [], ◌∷◌, ◌++◌, ◌+◌, ◌<◌, ◌≤◌, length, filter, sym, ◌∙◌, ap, subst, arith}
use Rattle.solid_model.specs.Tree.{is_whole}
use Rattle.search_tree.proofs.SearchEnds.{Searches, search_begins, search_cut_nodes, search_cut_solids, search_more, room_for_one, room_for_none}
use Rattle.search_tree.proofs.alone.search_path.Goals as goal
use Rattle.search_tree.proofs.alone.search_path.Goals.{else-is_whole-via-then-is_whole+else-len-limits, else-is_whole-via-else-is_whole}

pub loop-more-init : goal.loop-more-init
loop-more-init g c =
    let word = g.P.Path.live c.args.path.now in
    let n = g.P.Path.blocks c.args.path.now in
    let prefix = g.P.Path.prefix c.is_live-more.new.self in
    let asked : c.is_live-more.result ≡ word [] = c.is_live-more.ensures.asked ∙ ap word c.requires in record {
      live = c.is_live-more.ensures.live;
      blocks = c.is_live-more.ensures.blocks;
      searches = rw c.new-solids.ensures.items (search_begins word n c.args.limits c.is_live-more.result asked c.is_live-more.ensures.tree.closed prefix (c.is_live-more.ensures.prefix ∙ c.requires));
    }

pub returns-then-opened-limits : goal.returns-then-opened-limits
returns-then-opened-limits g c =
    let word = g.P.Path.live c.args.path.now in
    let n = g.P.Path.blocks c.args.path.now in
    let prefix = g.P.Path.prefix c.loop-more.path in
    let opened = c.loop-more.opened in
    let found = c.loop-more.solids.items in
    let so_far = subst (λ more. Searches word n c.args.limits more prefix opened found) c.loop-more-test.true c.loop-more.invariant.searches in
    let past : c.args.limits.nodes < opened + 1 = omega (arith, c.if-opened-limits.true, ap (λ l. l.nodes) c.limits.view_is) in
    search_cut_nodes word n c.args.limits prefix opened found so_far past

pub returns-then-len-limits : goal.returns-then-len-limits
returns-then-len-limits g c =
    let word = g.P.Path.live c.args.path.now in
    let n = g.P.Path.blocks c.args.path.now in
    let prefix = g.P.Path.prefix c.loop-more.path in
    let opened = c.loop-more.opened in
    let found = c.loop-more.solids.items in
    let so_far = subst (λ more. Searches word n c.args.limits more prefix opened found) c.loop-more-test.true c.loop-more.invariant.searches in
    let whole : is_whole n prefix ≡ true = ap (λ m. is_whole m prefix) (sym c.loop-more.invariant.blocks) ∙ sym c.if-is_whole.ensures in
    let many : length found ≡ c.args.limits.solids = sym c.loop-more.solids.ok.0 ∙ sym c.len.ensures ∙ c.if-len-limits.true ∙ ap (λ l. l.solids) c.limits.view_is in
    search_cut_solids word n c.args.limits prefix opened found so_far whole many

pub loop-more-preserved : goal.loop-more-preserved
loop-more-preserved g c =
    let word = g.P.Path.live c.args.path.now in
    let n = g.P.Path.blocks c.args.path.now in
    let prefix = g.P.Path.prefix c.loop-more.path in
    let opened = c.loop-more.opened in
    let found = c.loop-more.solids.items in
    let turn = c.loop-more.invariant in
    let so_far = subst (λ more. Searches word n c.args.limits more prefix opened found) c.loop-more-test.true turn.searches in
    let few : opened + 1 ≤ c.args.limits.nodes = omega (arith, c.if-opened-limits.false, ap (λ l. l.nodes) c.limits.view_is) in
    let next = rw (turn.live, turn.blocks) at c.go_on-more.ensures.found in
    let none = rw (turn.live, turn.blocks) at c.go_on-more.ensures.none in
    let kept : c.keep_whole.new.found.items ≡ found ++ filter (is_whole n) (prefix ∷ []) =
    c.in_ok-keep_whole.ensures ∙ ap (λ m. found ++ filter (is_whole m) (prefix ∷ [])) turn.blocks in
    let room : length (found ++ filter (is_whole n) (prefix ∷ [])) ≤ c.args.limits.solids =
    elim c.else-is_whole.branch as (λ _. length (found ++ filter (is_whole n) (prefix ∷ [])) ≤ c.args.limits.solids) [
      | else-is_whole-via-then-is_whole+else-len-limits w ↦ room_for_one (is_whole n) found prefix c.args.limits.solids
          (omega (arith, w.if-len-limits.false, w.len.ensures, c.loop-more.solids.ok.0, ap (λ l. l.solids) c.limits.view_is, so_far.solids))
      | else-is_whole-via-else-is_whole w ↦ room_for_none (is_whole n) found prefix c.args.limits.solids
          (ap (λ m. is_whole m prefix) (sym turn.blocks) ∙ sym w.if-is_whole.ensures) so_far.solids
    ] in
    record {
      live = c.go_on-more.ensures.live ∙ turn.live;
      blocks = c.go_on-more.ensures.blocks ∙ turn.blocks;
      searches = search_more word n c.args.limits prefix opened found so_far few c.go_on-more.result (g.P.Path.prefix c.go_on-more.new.path)
          c.keep_whole.new.found.items kept (omega (arith, ap length kept, room)) next none;
    }
