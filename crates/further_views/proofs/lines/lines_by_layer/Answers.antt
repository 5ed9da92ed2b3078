-- One more line is put behind those of its layer.
use Rattle.std.proofs.Common.{◌++◌, [], ◌∷◌, None, Some, take, ap, subst, ◌∙◌}
use Rattle.std.proofs.lemmas.List.{take_all, take_more}
use Rattle.std.specs.BTreeMap as tree
use Rattle.dxf_entities.specs.LayerKeys.{key_order}
use Rattle.further_views.specs.Further.{further_lines}
use Rattle.further_views.specs.Layers.{kept_lines}
use Rattle.further_views.proofs.KeyedLayers.{first_items, keeps_more, keeps_none}
use Rattle.further_views.proofs.lines.lines_by_layer.Goals as goal

pub loop-line-init : goal.loop-line-init
loop-line-init c = keeps_none c.new-own.result c.new-own.ensures.empty

pub loop-line-preserved : goal.loop-line-preserved
loop-line-preserved c = λ l.
    let lines = c.args.lines.now in
    let i = c.loop-line.line-index in
    let k = c.line-item.result in
    let old = c.loop-line.own in
    let between = c.remove.new.self in
    let new = c.insert.new.self in
    let more = c.push.new.self in
    let taken = subst (λ n. tree.UpdatesBy key_order (key_order n) old between None) c.key-key.ensures c.remove.ensures.updates in
    let put = subst (λ n. tree.Updates key_order between new n (Some more)) c.key-key.ensures c.in_ok-insert.ensures.updates in
    let had = c.remove.ensures.value ∙ ap (tree.get key_order old) c.key-key.ensures in
    let first = ap (λ own. own.items) c.unwrap_or-more.ensures ∙ (first_items c.remove.result c.new.result c.new.ensures.items ∙ ap kept_lines had) in
    let items = c.in_ok-push.ensures.items ∙ ap (λ own. own ++ k.line ∷ []) first in
    rw (take_more lines i k c.loop-line-test.true, ← c.line-item.is) (keeps_more old between new (take i lines) k more c.loop-line.invariant taken put items l)

pub returns : goal.returns
returns c = λ l. c.loop-line.invariant l ∙ ap (λ ls. further_lines ls l) (take_all c.loop-line.line-index c.args.lines.now c.loop-line-test.false)
