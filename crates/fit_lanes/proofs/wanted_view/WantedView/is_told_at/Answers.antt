-- Told at the lines that are kept in mind, or at new ones.
use Rattle.std.proofs.Common.{◌≡◌, ℕ, ap, subst, ◌∙◌}
use Rattle.fit_lanes.specs.Wanted.{TellsPlaced, WantedParts}
use Rattle.fit_lanes.proofs.wanted_view.WantedView.is_told_at.Goals as goal

-- what is wanted at these lines
at_lines : (w : WantedParts) (right up : ℕ) → (w.right ≡ right) × (w.up ≡ up) → w ≡ record { asked = w.asked; right = right; up = up }
at_lines w right up same = λ t. record { asked = w.asked; right = same.0 t; up = same.1 t }

pub returns-then-is_at-clause-told : goal.returns-then-is_at-clause-told
returns-then-is_at-clause-told c = subst (λ (w : WantedParts). TellsPlaced w c.args.level.now c.args.upright.now c.is_told.result)
    (at_lines c.args.self.now c.args.right c.args.up (c.is_at.ensures.0 c.if-is_at.true)) c.is_told.ensures

pub returns-clause-same : goal.returns-clause-same
returns-clause-same c = ap (λ (w : WantedParts). w.asked) c.placed.view_is ∙ ap (λ (w : WantedParts). w.asked) c.in_ok-placed.ensures ∙ ap (λ (w : WantedParts). w.asked) c.self.view_is

pub returns-clause-told : goal.returns-clause-told
returns-clause-told c = subst (λ (w : WantedParts). TellsPlaced w c.args.level.now c.args.upright.now c.is_told-told.result)
    (c.in_ok-placed.ensures ∙ ap (λ (w : WantedParts). record { asked = w.asked; right = c.args.right; up = c.args.up }) c.self.view_is) c.is_told-told.ensures
