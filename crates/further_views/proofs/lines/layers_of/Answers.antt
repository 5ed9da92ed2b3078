-- A layer whose key isn't listed yet is put behind them.
use Rattle.std.proofs.Common.{◌≡◌, true, false, not, inl, List, [], ◌∷◌, ◌++◌, take, sym, ap, subst, ◌∙◌}
use Rattle.std.proofs.lemmas.List.{take_all, take_more}
use Rattle.std.specs.BTreeSet as keyed
use Rattle.dxf_entities.specs.declared.layer_line.LayerLine.{LayerLine}
use Rattle.dxf_entities.specs.LayerKeys.{key_order}
use Rattle.lemmas.specs.Lists.{Member}
use Rattle.lemmas.proofs.Lists.{member-append_left, member-push, member-push_last}
use Rattle.further_views.specs.Layers.{AreLayersOf}
use Rattle.further_views.proofs.AskedLayers.{new_layer, old_layer}
use Rattle.further_views.proofs.KeyedLayers.{is_listed, lists_more, lists_none}
use Rattle.further_views.proofs.lines.layers_of.Goals as goal
use Rattle.further_views.proofs.lines.layers_of.Goals.{then-branch+in_ok-push, else-branch}

pub loop-line-init : goal.loop-line-init
loop-line-init c = rw c.new-layers.ensures.items (record { are = record { all = tt; once = tt }; lists = lists_none c.new-listed.result c.new-listed.ensures.empty })

pub loop-line-preserved : goal.loop-line-preserved
loop-line-preserved c =
    let lines = c.args.lines.now in
    let i = c.loop-line.line-index in
    let k = c.line-item.result in
    let layers = c.loop-line.layers.items in
    let before = c.loop-line.invariant in
    let old = c.loop-line.listed in
    let updates = subst (λ n. keyed.Updates key_order old c.insert.new.self n true) c.key.ensures c.in_ok-insert.ensures.updates in
    let is_new = c.in_ok-insert.ensures.added ∙ ap (λ n. not (keyed.contains key_order old n)) c.key.ensures in
    elim c.if-branch.branch [
      | then-branch+in_ok-push w ↦
          let none = λ (among : Member layers k.layer). (let no : true ≡ false = sym w.if-branch.true ∙ (is_new ∙ ap not ((before.lists k.layer).1 among)) in absurd cc) in
          record {
            are = rw (w.layers-is, w.in_ok-push.ensures.items, take_more lines i k c.loop-line-test.true, ← c.line-item.is)
                (new_layer (take i lines) layers k before.are none);
            lists = rw (w.layers-is, w.in_ok-push.ensures.items)
                (lists_more old c.insert.new.self layers (layers ++ k.layer ∷ []) k.layer before.lists updates
                (λ l m. member-append_left layers (k.layer ∷ []) l m) (member-push_last layers k.layer) (λ l m. member-push layers k.layer l m));
          }
      | else-branch w ↦
          let among = (before.lists k.layer).0 (is_listed _ (sym w.if-branch.false ∙ is_new)) in
          record {
            are = rw (w.layers-is, take_more lines i k c.loop-line-test.true, ← c.line-item.is) (old_layer (take i lines) layers k before.are among);
            lists = rw w.layers-is (lists_more old c.insert.new.self layers layers k.layer before.lists updates (λ l m. m) among (λ l m. inl m));
          }
    ]

pub returns : goal.returns
returns c = subst (λ (ls : List LayerLine). AreLayersOf ls c.loop-line.layers.items)
    (take_all c.loop-line.line-index c.args.lines.now c.loop-line-test.false) c.loop-line.invariant.are
