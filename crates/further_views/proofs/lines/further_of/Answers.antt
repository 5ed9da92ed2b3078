-- A layer that is asked for is put behind those so far, and in the end they are those of all lines.
use Rattle.std.proofs.Common.{◌≡◌, false, ℕ, ◌+◌, List, [], ◌∷◌, ◌++◌, Option, None, slice_index_or, drop, take, refl, sym, subst}
use Rattle.std.specs.Prelude.{IfSome, MatchOption}
use Rattle.std.proofs.lemmas.List.{take_all, take-append-drop, take_more}
use Rattle.dxf_entities.specs.declared.layer.Layer.{Layer}
use Rattle.lemmas.specs.Lists.{Ascends}
use Rattle.lemmas.proofs.Lists.{ascends-append_left}
use Rattle.solid_model.specs.declared.frame.View.TheVariants.{Front}
use Rattle.solid_model.specs.declared.segment.Segment.{Segment}
use Rattle.solid_model.specs.Drawings.{drawing_of, IsEmptyView}
use Rattle.solid_model.specs.Line.{Line}
use Rattle.solid_model.specs.Runs.{ViewRuns}
use Rattle.further_views.specs.Further.{further_lines, view_style}
use Rattle.further_views.specs.Layers.{AreLayersOf, Differ, lines_by_key}
use Rattle.further_views.proofs.AskedLayers.{all_asked, none_asked, one_asked, one_unasked}
use Rattle.further_views.proofs.lines.further_of.Goals as goal
use Rattle.further_views.proofs.lines.further_of.Goals.{in-Some+in_ok-push, in_default}

-- what is told of a view that may show nothing
abbrev IsShownBy : Option ViewRuns → List Line → Layer → Type 0
IsShownBy shown ls x = IfSome shown (λ runs. (g : Segment) → g.view ≡ x.view → view_style runs g ≡ drawing_of ls g)
    × MatchOption shown (IsEmptyView ls x.view) (λ runs. IsEmptyView ls x.view → ⊥)

-- the first of layers that are listed once are listed once
once_before : (layers : List Layer) (n : ℕ) → Ascends Differ layers → Ascends Differ (take n layers)
once_before layers n once = ascends-append_left Differ (take n layers) (drop n layers) (subst (Ascends Differ) (sym (take-append-drop n layers)) once)

pub loop-layer-init : goal.loop-layer-init
loop-layer-init c = rw (c.new-views.ensures.items) (none_asked (further_lines c.args.lines.now))

pub loop-layer-preserved : goal.loop-layer-preserved
loop-layer-preserved c =
    let further = further_lines c.args.lines.now in
    let layers = c.as_slice-layer-items.result.now in
    let i = c.loop-layer.layer-index in
    let x = slice_index_or layers i (record { view = Front; opposite = false; cut = None }) in
    let views = c.loop-layer.views.items in
    let more : take (i + 1) layers ≡ take i layers ++ x ∷ [] = take_more layers i _ c.loop-layer-test.true in
    let of : AreLayersOf c.args.lines.now layers = rw (c.as_slice-layer-items.ensures.value) c.in_ok-layers.ensures in
    let own : lines_by_key c.in_ok-own.own x ≡ further x = c.in_ok-own.ensures x in
    let told : IsShownBy c.in_ok-runs.field-0 (further x) x = subst (λ ls. IsShownBy c.in_ok-runs.field-0 ls x) own (c.in_ok-runs.ensures.drawn, c.in_ok-runs.ensures.shown) in
    let once : Ascends Differ (take i layers ++ x ∷ []) = rw (← more) (once_before layers (i + 1) of.once) in
    elim c.match-branch-4.branch [
      | in-Some+in_ok-push w ↦
          let shown = subst (λ (o : Option ViewRuns). IsShownBy o (further x) x) w.in-Some.is told in
          rw (w.views-is, w.in_ok-push.ensures.items, more)
          (one_asked further (take i layers) views c.loop-layer.invariant x once (record { layer = x; runs = w.in-Some.runs }) refl (record { asked = shown.1; drawn = shown.0 }))
      | in_default w ↦
          let none = subst (λ (o : Option ViewRuns). IsShownBy o (further x) x) w.in_default.is told in
          rw (w.views-is, more) (one_unasked further (take i layers) views c.loop-layer.invariant x none.1)
    ]

pub returns : goal.returns
returns c =
    let layers = c.as_slice-layer-items.result.now in
    let all : take c.loop-layer.layer-index layers ≡ layers = take_all _ layers c.loop-layer-test.false in
    rw (c.new.ensures) (all_asked c.args.lines.now layers (rw (c.as_slice-layer-items.ensures.value) c.in_ok-layers.ensures) c.loop-layer.views.items
    (rw (← all) c.loop-layer.invariant))
