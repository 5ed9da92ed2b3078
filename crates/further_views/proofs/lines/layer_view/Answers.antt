-- The lines at the key are shown; where there are none, nothing is.
use Rattle.std.proofs.Common.{◌≡◌, IfOk, IfSome, MatchOption, sym, ap, subst, ◌∙◌}
use Rattle.std.specs.BTreeMap.{get}
use Rattle.std.specs.Option.{option_copied}
use Rattle.dxf_entities.specs.LayerKeys.{key_order}
use Rattle.solid_model.specs.declared.segment.Segment.{Segment}
use Rattle.solid_model.specs.Drawings.{drawing_of, IsEmptyView}
use Rattle.further_views.specs.Further.{view_style}
use Rattle.further_views.specs.Layers.{kept_lines}
use Rattle.further_views.proofs.lines.layer_view.Goals as goal

pub returns-in-Some-clause-drawn : goal.returns-in-Some-clause-drawn
returns-in-Some-clause-drawn c =
    let l = c.args.layer in
    let had = ap option_copied (sym c.in-Some.is) ∙ (c.get.ensures.value ∙ ap (get key_order c.args.own.now) c.key.ensures) in
    subst (λ ls. IfOk c.view_of.result (λ shown. IfSome shown (λ runs. (g : Segment) → g.view ≡ l.view → view_style runs g ≡ drawing_of ls g)))
    (c.deref.ensures.value ∙ ap kept_lines had) c.view_of.ensures.drawn

pub returns-in-Some-clause-shown : goal.returns-in-Some-clause-shown
returns-in-Some-clause-shown c =
    let l = c.args.layer in
    let had = ap option_copied (sym c.in-Some.is) ∙ (c.get.ensures.value ∙ ap (get key_order c.args.own.now) c.key.ensures) in
    subst (λ ls. IfOk c.view_of.result (λ shown. MatchOption shown (IsEmptyView ls l.view) (λ runs. IsEmptyView ls l.view → ⊥)))
    (c.deref.ensures.value ∙ ap kept_lines had) c.view_of.ensures.shown

pub returns-in-None-clause-shown : goal.returns-in-None-clause-shown
returns-in-None-clause-shown c =
    let had = ap option_copied (sym c.in-None.is) ∙ (c.get.ensures.value ∙ ap (get key_order c.args.own.now) c.key.ensures) in
    subst (λ ls. IsEmptyView ls c.args.layer.view) (ap kept_lines had) (λ g of shown. absurd cc)
