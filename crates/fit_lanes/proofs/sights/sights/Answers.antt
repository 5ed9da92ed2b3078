-- One place more; and all of them.
use Rattle.std.proofs.Common.{◌≡◌, ◌+◌, ◌*◌, [], ◌∷◌, map, refl, ap, sym, subst, ◌∙◌, arith}
use Rattle.std.proofs.lemmas.List.{map-append}
use Rattle.lemmas.proofs.Pushed.{HoldsSoFar, holds_more}
use Rattle.solid_model.specs.declared.frame.Frame.{Frame}
use Rattle.solid_model.specs.PerAxis.{numbers_of}
use Rattle.std.proofs.lemmas.Result.{IfOk-weaker}
use Rattle.fit_lanes.specs.Sights.{IsSightAt, AreSights, width, height}
use Rattle.fit_lanes.proofs.sights.sights.Goals as goal

pub loop-place-init : goal.loop-place-init
loop-place-init c = subst (λ xs. HoldsSoFar (IsSightAt c.args.layer (numbers_of c.args.sizes) c.args.rows.now.numbers c.args.kept) (map (λ r. r.items) xs) 0) (sym c.in_ok-sights.ensures.items)
    (record { count = refl; each = λ p d l. absurd (omega arith) })

pub loop-place-preserved : goal.loop-place-preserved
loop-place-preserved c =
    holds_more (IsSightAt c.args.layer (numbers_of c.args.sizes) c.args.rows.now.numbers c.args.kept) _ _ _ c.in_ok-sight_at.field-0.items c.loop-place.invariant c.in_ok-sight_at.ensures
    (ap (map (λ r. r.items)) c.in_ok-push.ensures.items ∙ map-append (λ r. r.items) c.loop-place.sights.items (c.in_ok-sight_at.field-0 ∷ []))

pub returns : goal.returns
returns c =
    let sizes = numbers_of c.args.sizes in
    let wide : c.along-stride.result ≡ width c.args.layer sizes = c.along-stride.ensures ∙ ap (λ (f : Frame). sizes f.right.axis) c.sight_frame-frame.ensures in
    let high : c.along.result ≡ height c.args.layer sizes = c.along.ensures ∙ ap (λ (f : Frame). sizes f.up.axis) c.sight_frame-frame.ensures in
    let whole : c.loop-place.place ≡ (c.along.result + 2) * (c.along-stride.result + 1) = omega arith in
    IfOk-weaker c.new.result _ (AreSights c.args.layer sizes c.args.rows.now.numbers c.args.kept) (λ sights is. subst (AreSights c.args.layer sizes c.args.rows.now.numbers c.args.kept) (sym is) (record {
      count = c.loop-place.invariant.count ∙ whole ∙ (λ t. (high t + 2) * (wide t + 1));
      each = λ p l. c.loop-place.invariant.each p [] (omega (arith, l, c.loop-place.invariant.count));
    })) c.new.ensures
