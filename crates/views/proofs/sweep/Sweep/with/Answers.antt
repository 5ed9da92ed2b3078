use Rattle.std.proofs.Common.{◌≡◌, [], ◌∷◌, ap, ◌∙◌}
use Rattle.views.specs.Strokes.{stroke_style, stronger}
use Rattle.views.specs.Sweeps.{seen_style}
use Rattle.views.proofs.sweep.Sweep.with.Goals as goal
use Rattle.views.proofs.sweep.Sweep.with.Goals.{then-stroke-self+in_ok-sweep, else-stroke-self+in_ok-settled}

pub returns-clause-drawn : goal.returns-clause-drawn
returns-clause-drawn c = λ j z.
    let settled : seen_style c.if-stroke-self.sweep j z ≡ seen_style c.args.self j z = elim c.if-stroke-self.branch [
      | then-stroke-self+in_ok-sweep w ↦ rw w.sweep-is (w.in_ok-sweep.ensures.drawn j z)
      | else-stroke-self+in_ok-settled w ↦ rw w.sweep-is (w.moved_to-sweep.ensures.drawn j z ∙ w.in_ok-settled.ensures.drawn j z)
    ] in
    c.reaching.ensures.drawn j z ∙ ap (λ s. stronger s (stroke_style (c.args.stroke.now ∷ []) j z)) settled
