-- The way is left where the first values lead, and goes on with each step.
use Rattle.std.proofs.Common.{◌≡◌, ◌+◌, ◌++◌, ◌∷◌, [], ℕ, List, Bool, false, append_assoc, length, take, sym, ◌∙◌, ap, subst, arith}
use Rattle.std.proofs.lemmas.List.{take_more, length_push}
use Rattle.prefix_tree.specs.Nodes.{WayParts, IsWay}
use Rattle.prefix_tree.specs.Places.{prefix_at, StandsAt}
use Rattle.prefix_tree.proofs.Ways.{way_kept, way_pushed}
use Rattle.prefix_tree.proofs.prefixes.lead.Goals as goal

pub loop-block-preserved : goal.loop-block-preserved
loop-block-preserved c =
    let before : List (List Bool) = c.loop-block.nodes in
    let nodes : List (List Bool) = c.step.new.self in
    let p = c.args.prefix.now in
    let way : WayParts = record { values = p; nodes = c.loop-block.way.nodes } in
    let block = c.loop-block.block in
    let i = c.loop-block.invariant in
    let at = c.in_ok-at.at in
    let pushed : c.push.new.self ≡ record { values = c.loop-block.way.values; nodes = way.nodes ++ at ∷ [] } = c.in_ok-push.ensures in
    let more : take (block + 1) p ≡ prefix_at before c.loop-block.at ++ c.get.result ∷ [] =
    take_more p block false (omega arith) ∙ ap (λ (b : Bool). take block p ++ b ∷ []) (sym c.get.ensures) ∙ ap (λ (q : List Bool). q ++ c.get.result ∷ []) (sym i.there.there) in
    let there : StandsAt nodes (take (block + 1) p) at = subst (λ (q : List Bool). StandsAt nodes q at) (sym more) c.in_ok-at.ensures.there in
    let kept : IsWay nodes way = subst (λ (v : List (List Bool)). IsWay v way) (sym c.step.ensures.grown.1) (way_kept before c.step.ensures.grown.0 way i.way) in
    record {
      there = there;
      grown = (
        i.grown.0 ++ c.step.ensures.grown.0,
        c.step.ensures.grown.1 ∙ ap (λ (v : List (List Bool)). v ++ c.step.ensures.grown.0) i.grown.1 ∙ append_assoc c.args.nodes.now i.grown.0 c.step.ensures.grown.0,
      );
      way = subst (λ (ns : List ℕ). IsWay nodes (record { values = p; nodes = ns })) (sym (ap (λ (w : WayParts). w.nodes) pushed))
          (way_pushed nodes way at kept (subst (λ (n : ℕ). StandsAt nodes (take n p) at) (sym i.count) there));
      count = ap (λ (w : WayParts). length w.nodes) pushed ∙ (let l = i.count in omega (arith, length_push way.nodes at));
    }
