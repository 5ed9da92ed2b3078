use Rattle.std.proofs.Common.{◌≡◌, take, ℤ, sym, ap, ◌∙◌, arith}
use Rattle.std.proofs.lemmas.List.{take_more, take_all, get_or_default}
use Rattle.std.proofs.lemmas.Result.{IfOk-weaker}
use Rattle.solid_model.specs.Runs.{run_style}
use Rattle.views.specs.declared.strokes.Stroke.{Stroke}
use Rattle.views.specs.Strokes.{stroke_style}
use Rattle.views.specs.Sweeps.{seen_style}
use Rattle.views.proofs.Together.{one_more_seen}
use Rattle.views.proofs.sweep.runs_of.Goals as goal

pub loop-stroke-preserved : goal.loop-stroke-preserved
loop-stroke-preserved c =
    let i = c.loop-stroke.stroke-index in
    let strokes = c.args.strokes.now in
    record {
      sweep = c.in_ok-sweep.ensures.sweep;
      drawn = λ j z.
          c.in_ok-sweep.ensures.drawn j z
          ∙ one_more_seen (seen_style c.loop-stroke.sweep j z) (take i strokes) _ j z (c.loop-stroke.invariant.drawn j z)
          ∙ ap (λ ss. stroke_style ss j z) (sym (take_more strokes i _ c.loop-stroke-test.true));
      next = λ d within.
          let place = c.in_ok-sweep.ensures.place in
          let at = place.0 ∙ ap (λ (s : Stroke). s.at) (get_or_default strokes i _ d c.loop-stroke-test.true) in
          let from = place.1 ∙ ap (λ (s : Stroke). s.from) (get_or_default strokes i _ d c.loop-stroke-test.true) in
          rw (at, from) (c.requires i d within);
    }

pub returns-clause-drawn : goal.returns-clause-drawn
returns-clause-drawn c =
    let strokes = c.args.strokes.now in
    IfOk-weaker c.finished.result _ (λ runs. (j z : ℤ) → run_style runs.items j z ≡ stroke_style strokes j z)
    (λ runs draws j z. draws j z ∙ c.loop-stroke.invariant.drawn j z ∙ ap (λ ss. stroke_style ss j z) (take_all c.loop-stroke.stroke-index strokes (omega arith)))
    c.finished.ensures.drawn
