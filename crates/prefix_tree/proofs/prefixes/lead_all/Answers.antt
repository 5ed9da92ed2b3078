-- One more has its place, behind those of the others.
use Rattle.std.proofs.Common.{◌≡◌, ◌<◌, ◌+◌, ◌-◌, ◌++◌, ◌∷◌, [], ℕ, suc, List, Bool, map, length, sym, ◌∙◌, ap, ap₂, subst, arith}
use Rattle.std.proofs.lemmas.List.{append_assoc, map_push, take_more, get_or_read}
use Rattle.lemmas.specs.Lists.{Each}
use Rattle.lemmas.proofs.Lists.{each-push}
use Rattle.prefix_tree.specs.Alike.{IsAlike}
use Rattle.prefix_tree.specs.Nodes.{WayParts, IsWay}
use Rattle.prefix_tree.specs.Places.{prefix_at}
use Rattle.prefix_tree.proofs.Stored.{named-grown, below-grown}
use Rattle.prefix_tree.proofs.Ways.{way_turned}
use Rattle.prefix_tree.proofs.prefixes.lead_all.Goals as goal

pub loop-at-preserved : goal.loop-at-preserved
loop-at-preserved c =
    let i = c.loop-at.invariant in
    let old : List (List Bool) = c.loop-at.nodes in
    let nodes : List (List Bool) = c.lead.new.nodes in
    let prefixes : List (List Bool) = c.args.prefixes.now in
    let at = c.loop-at.at in
    let l : at < length prefixes = omega arith in
    let more = c.lead.ensures.grown.0 in
    let is : nodes ≡ old ++ more = c.lead.ensures.grown.1 in
    let place = c.in_ok-lead.field-0 in
    let stands = c.in_ok-lead.ensures.place in
    let items : c.push.new.self.items ≡ c.loop-at.places.items ++ place ∷ [] = c.in_ok-push.ensures.items in
    let item : c.index-prefixes-at.result ≡ prefix_at prefixes at = get_or_read prefixes at c.index-prefixes-at.result l c.index-prefixes-at.is [] in
    let way : WayParts = record { values = prefix_at prefixes at; nodes = c.lead.new.way.nodes } in
    let goes : IsWay nodes way = subst (λ (p : List Bool). IsWay nodes (record { values = p; nodes = c.lead.new.way.nodes })) item c.lead.ensures.way in
    let count : length c.lead.new.way.nodes ≡ length (prefix_at prefixes at) + 1 = c.in_ok-lead.ensures.count ∙ ap (λ (p : List Bool). length p + 1) item in
    let told = c.told-led.ensures in
    let same : at ≡ at + 1 - 1 = omega arith in
    let next : suc at ≡ at + 1 = omega arith in
    let alike : at + 1 < length prefixes → IsAlike (prefix_at prefixes at) (prefix_at prefixes (at + 1)) c.told-led.result =
    λ later. subst (λ (m : ℕ). IsAlike (prefix_at prefixes at) (prefix_at prefixes m) c.told-led.result) next
    (subst (IsAlike (prefix_at prefixes at) (prefix_at prefixes (suc at))) (sym told) (c.requires.alike at (omega arith))) in
    record {
      grown = (i.grown.0 ++ more, is ∙ ap (λ (v : List (List Bool)). v ++ more) i.grown.1 ∙ append_assoc c.args.nodes.now i.grown.0 more);
      some = c.lead.ensures.some;
      last = λ _. subst (λ (m : ℕ). IsWay nodes (record { values = prefix_at prefixes m; nodes = c.lead.new.way.nodes })) same goes;
      led = λ later. let a = (alike later).within in omega (arith, a, count);
      within = λ later. (alike later).inside;
      next = λ later. way_turned nodes way (prefix_at prefixes (at + 1)) c.told-led.result (alike later).same goes;
      below = subst (λ (ks : List ℕ). Each (λ (k : ℕ). k < length nodes) ks) (sym items)
          (each-push (λ (k : ℕ). k < length nodes) c.loop-at.places.items place
          (subst (λ (v : List (List Bool)). Each (λ (k : ℕ). k < length v) c.loop-at.places.items) (sym is) (below-grown old more c.loop-at.places.items i.below)) stands.below);
      places =
          ap (map (prefix_at nodes)) items ∙ map_push (prefix_at nodes) c.loop-at.places.items place
          ∙ ap₂ (λ (ps : List (List Bool)) (p : List Bool). ps ++ p ∷ [])
          (ap (λ (v : List (List Bool)). map (prefix_at v) c.loop-at.places.items) is ∙ named-grown old more c.loop-at.places.items i.below ∙ i.places)
          (stands.there ∙ item)
          ∙ sym (take_more prefixes at [] l);
    }
