-- The piece is opened first, and then one more each time.
use Rattle.std.proofs.Common.{[], ◌∷◌, ◌++◌, length, filter, refl, sym, ◌∙◌, ap, append_assoc, arith}
use Rattle.solid_model.specs.Tree.{is_whole, found_of}
use Rattle.search_tree.specs.Walk.{coming, StandsAtFirst}
use Rattle.search_tree.proofs.OpenedPrefixes.{first_opened, found_first, next_opened, found_next}
use Rattle.search_tree.proofs.opened.open_first.Goals as goal

pub loop-opened-init : goal.loop-opened-init
loop-opened-init g c =
    let word = g.P.Path.live c.args.path.now in
    let n = g.P.Path.blocks c.args.path.now in
    let piece = g.P.Path.prefix c.args.path.now in record {
      live = refl;
      blocks = refl;
      few = c.requires.quantum;
      found = c.in_ok-keep_whole.ensures ∙ ap (λ xs. c.args.found.now.items ++ xs) (found_first word n piece c.requires.live);
      last = first_opened word n piece c.requires.live c.requires.within;
    }

pub loop-opened-preserved : goal.loop-opened-preserved
loop-opened-preserved g c =
    let word = g.P.Path.live c.args.path.now in
    let n = g.P.Path.blocks c.args.path.now in
    let piece = g.P.Path.prefix c.args.path.now in
    let so_far = c.loop-opened.invariant in
    let prefix = g.P.Path.prefix c.loop-opened.path in
    let next = g.P.Path.prefix c.go_on.new.path in
    let at : StandsAtFirst word n (length piece) (coming word n (length piece) prefix) next =
    rw (so_far.live, so_far.blocks, c.depth-floor.ensures) at (c.if-not-go_on.ensures.found refl) in
    let before = c.loop-opened.opened in
    record {
      live = c.go_on.ensures.live ∙ so_far.live;
      blocks = c.go_on.ensures.blocks ∙ so_far.blocks;
      few = omega arith;
      found = c.in_ok-keep_whole-2.ensures ∙ ap (λ m. c.loop-opened.found.items ++ filter (is_whole m) (next ∷ [])) (c.go_on.ensures.blocks ∙ so_far.blocks)
          ∙ ap (λ xs. xs ++ filter (is_whole n) (next ∷ [])) so_far.found
          ∙ append_assoc c.args.found.now.items (found_of word n piece before) (filter (is_whole n) (next ∷ []))
          ∙ ap (λ xs. c.args.found.now.items ++ xs) (sym (found_next word n piece before prefix so_far.last next at));
      last = next_opened word n piece before prefix so_far.last next at;
    }
