-- The first line of the view's own size.
use Rattle.std.proofs.Common.{◌≡◌, ◌+◌, ◌<◌, ℕ, Bool, true, false, if◌then◌else◌, List, Option, ap, sym, subst, ◌∙◌}
use Rattle.std.specs.Prelude.{MatchOption}
use Rattle.solid_model.specs.GridBox.{grid_sizes}
use Rattle.fit_lanes.specs.Busy.{IsNoLater}
use Rattle.fit_lanes.specs.Drawn.{bytes_along, DrawnParts, DrawsLine, DrawsNoLine, IsFirstLine}
use Rattle.fit_lanes.specs.Kept.{AreBytesFor}
use Rattle.fit_lanes.specs.Sights.{width, height}
use Rattle.fit_lanes.proofs.BusyPoints.{none_before}
use Rattle.fit_lanes.proofs.drawn_view.DrawnView.first_line.Goals as goal
use Rattle.fit_lanes.proofs.drawn_view.DrawnView.first_line.Goals.{then-upright, else-upright}

line_in : (o : Option ℕ) (u : Bool) (w w' h h' : ℕ) (bytes bytes' : List ℕ) → w ≡ w' → h ≡ h' → bytes ≡ bytes'
    → MatchOption o (DrawsNoLine w h u bytes) (IsFirstLine w h u bytes) → MatchOption o (DrawsNoLine w' h' u bytes') (IsFirstLine w' h' u bytes')
line_in o u w w' h h' bytes bytes' wide high same told =
    subst (λ v. MatchOption o (DrawsNoLine v h' u bytes') (IsFirstLine v h' u bytes')) wide
    (subst (λ k. MatchOption o (DrawsNoLine w k u bytes') (IsFirstLine w k u bytes')) high
    (subst (λ bs. MatchOption o (DrawsNoLine w h u bs) (IsFirstLine w h u bs)) same told))

-- before the first busy line of its kind nothing is drawn
before_busy : (u : Bool) (v : DrawnParts) (points : List ℕ) (w h right up from : ℕ) → AreBytesFor w h points v.level → AreBytesFor w h points v.upright
    → IsNoLater (w + 1) true points right → IsNoLater (w + 1) false points up → from ≡ (if u then right else up) → (bytes : List ℕ) → bytes ≡ bytes_along u v
    → (m : ℕ) → m < from → DrawsLine w h u bytes m → ⊥
before_busy true v points w h right up from level upright of_right of_up at bytes same m l = subst (λ bs. DrawsLine w h true bs m → ⊥) (sym same)
    (none_before w h true points v.upright from upright (subst (IsNoLater (w + 1) true points) (sym at) of_right) m l)
before_busy false v points w h right up from level upright of_right of_up at bytes same m l = subst (λ bs. DrawsLine w h false bs m → ⊥) (sym same)
    (none_before w h false points v.level from level (subst (IsNoLater (w + 1) false points) (sym at) of_up) m l)

pub first_line-requires-clause-from : goal.first_line-requires-clause-from
first_line-requires-clause-from c = before_busy c.args.upright _ c.self.inside.busy.items c.self.inside.width c.self.inside.height c.self.inside.first_right c.self.inside.first_up c.if-upright.from
    (subst (λ (v : DrawnParts). AreBytesFor c.self.inside.width c.self.inside.height c.self.inside.busy.items v.level) c.self.view_is c.self.invariant.level_for)
    (subst (λ (v : DrawnParts). AreBytesFor c.self.inside.width c.self.inside.height c.self.inside.busy.items v.upright) c.self.view_is c.self.invariant.upright_for)
    c.self.invariant.right_of c.self.invariant.up_of from _ c.bytes.ensures
  where
    from : c.if-upright.from ≡ (if c.args.upright then c.self.inside.first_right else c.self.inside.first_up)
    from = elim c.if-upright.branch as (λ _. c.if-upright.from ≡ (if c.args.upright then c.self.inside.first_right else c.self.inside.first_up)) [
      | then-upright w ↦ w.from-is ∙ sym (ap (λ b. if b then c.self.inside.first_right else c.self.inside.first_up) w.if-upright.true)
      | else-upright w ↦ w.from-is ∙ sym (ap (λ b. if b then c.self.inside.first_right else c.self.inside.first_up) w.if-upright.false)
    ]

pub returns : goal.returns
returns c = line_in c.first_line.result c.args.upright _ _ _ _ _ _
    (c.self.invariant.wide ∙ ap (λ (v : DrawnParts). width v.layer (grid_sizes v.problem.grid)) c.self.view_is)
    (c.self.invariant.high ∙ ap (λ (v : DrawnParts). height v.layer (grid_sizes v.problem.grid)) c.self.view_is)
    c.bytes.ensures c.first_line.ensures
