-- A layer that has a linetype keeps it, and another gets one.
use Rattle.std.proofs.Common.{rules, ◌≡◌, not, Some, None, if◌then◌else◌, sym, ap, subst, ◌∙◌}
use Rattle.std.specs.BTreeMap.{Updates}
use Rattle.std.specs.Option.{option_or}
use Rattle.dxf_entities.specs.declared.named.Named.TheVariants.{Shows}
use Rattle.dxf_entities.specs.LayerKeys.{key_order}
use Rattle.dxf_entities.specs.Reading.{layers_with, same_layer}
use Rattle.dxf_entities.specs.Resuming.{layer_linetype}
use Rattle.dxf_entities.proofs.LayerEntries.{linetype_added, linetype_stays, nothing_known}
use Rattle.dxf_entities.proofs.layers.Layers.add.Goals as goal

pub returns-in_ok-insert : goal.returns-in_ok-insert
returns-in_ok-insert c = λ l.
    let m = c.in-Some-Shows.layer in
    let old = c.args.self.now in
    let named : c.args.entry.name ≡ Some (Shows m) = search rules in
    let none = sym c.of.ensures ∙ nothing_known c.of.result (c.is_none.ensures ∙ ap not c.if-is_none.true) in
    let updates = subst (λ k. Updates key_order old.linetypes c.insert.new.self k (Some c.unwrap_or-linetype.result)) c.key.ensures
    c.in_ok-insert.ensures.updates in
    linetype_added old.linetypes c.insert.new.self m c.unwrap_or-linetype.result updates none l
    ∙ (ap (λ t. option_or (layer_linetype old l) (if same_layer l m then Some t else None)) c.unwrap_or-linetype.ensures
    ∙ sym (ap (λ name. layers_with name c.args.entry.linetype (layer_linetype old) l) named))

pub returns-else-is_none : goal.returns-else-is_none
returns-else-is_none c = λ l.
    let m = c.in-Some-Shows.layer in
    let old = c.args.self.now in
    let named : c.args.entry.name ≡ Some (Shows m) = search rules in
    linetype_stays (layer_linetype old) c.args.entry.linetype l m c.of.result (sym c.of.ensures)
    (c.is_none.ensures ∙ ap not c.if-is_none.false)
    ∙ sym (ap (λ name. layers_with name c.args.entry.linetype (layer_linetype old) l) named)
