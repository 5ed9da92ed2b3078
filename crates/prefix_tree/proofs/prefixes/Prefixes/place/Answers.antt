-- The first values lead where the way leads; a step goes on with the next value, or the way stops there.
use Rattle.std.proofs.Common.{◌≡◌, ◌<◌, ◌+◌, ◌%◌, ◌++◌, ◌∷◌, List, Bool, false, drop, take, length, sym, ◌∙◌, ap, ap₂, subst, arith}
use Rattle.std.proofs.lemmas.List.{take-append-drop, drop_more}
use Rattle.prefix_tree.specs.Places.{prefix_at, StandsAt}
use Rattle.prefix_tree.proofs.Ways.{way_number, way_read}
use Rattle.prefix_tree.proofs.prefixes.Prefixes.place.Goals as goal

pub loop-block-init : goal.loop-block-init
loop-block-init c =
    let nodes : List (List Bool) = c.self.inside.nodes in
    let ways = c.self.inside.ways.items in
    let way = c.index-way.result.now in
    let l = way_number nodes ways c.args.by c.len.result c.self.invariant (omega arith) in
    let goes = way_read nodes ways (c.args.by % c.len.result) way c.self.invariant l c.index-way.ensures in
    subst (λ (p : List Bool). StandsAt nodes p c.node-at.result) c.shared-led.ensures.same
    (subst (StandsAt nodes (take c.shared-led.result way.values)) (sym c.node-at.ensures) (goes c.shared-led.result c.shared-led.ensures.led))

pub returns-in-None : goal.returns-in-None
returns-in-None c = λ k s.
    let nodes : List (List Bool) = c.self.inside.nodes in
    let p = c.args.prefix.now in
    let block = c.loop-block.block in
    let l : block < length p = omega arith in
    let goes_on : p ≡ prefix_at nodes c.loop-block.at ++ c.get.result ∷ drop (block + 1) p =
    sym (take-append-drop block p) ∙ ap₂ (λ (q r : List Bool). q ++ r) (sym c.loop-block.invariant.there)
    (drop_more p block false l ∙ ap (λ (b : Bool). b ∷ drop (block + 1) p) (sym c.get.ensures)) in
    c.in-None.ensures (drop (block + 1) p) k (subst (λ (q : List Bool). StandsAt nodes q k) goes_on
    (subst (λ (v : List (List Bool)). StandsAt v p k) (sym c.self.view_is) s))
