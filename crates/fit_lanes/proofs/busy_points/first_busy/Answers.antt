-- One point more.
use Rattle.std.proofs.Common.{◌≡◌, ◌/◌, ◌%◌, ◌≤◌, ℕ, take, get_or, min, sym, subst, arith}
use Rattle.std.proofs.lemmas.List.{take_more}
use Rattle.lemmas.proofs.Lists.{each-weaker, each-push}
use Rattle.solid_model.specs.Segments.{across_of}
use Rattle.fit_lanes.specs.Busy.{IsNoLater}
use Rattle.fit_lanes.proofs.busy_points.first_busy.Goals as goal

pub loop-point-preserved : goal.loop-point-preserved
loop-point-preserved c = subst (λ xs. IsNoLater s c.args.upright xs c.min-first.result) (sym (take_more c.args.points.now c.loop-point.point-index 0 c.loop-point-test.true))
    (each-push (λ p. c.min-first.result ≤ across_of c.args.upright (p % s) (p / s)) (take c.loop-point.point-index c.args.points.now) q
    (each-weaker (λ p. c.loop-point.first ≤ across_of c.args.upright (p % s) (p / s)) (λ p. c.min-first.result ≤ across_of c.args.upright (p % s) (p / s))
    (take c.loop-point.point-index c.args.points.now) (λ p l. omega (arith, l, less)) c.loop-point.invariant) (subst (λ n. c.min-first.result ≤ n) c.across_of.ensures less_too))
  where
    s : ℕ
    s = c.args.stride

    q : ℕ
    q = get_or c.args.points.now c.loop-point.point-index 0

    below : (m a b : ℕ) → m ≡ min a b → m ≤ a
    below m a b e = grind (arith, e)

    below_too : (m a b : ℕ) → m ≡ min a b → m ≤ b
    below_too m a b e = grind (arith, e)

    less : c.min-first.result ≤ c.loop-point.first
    less = below c.min-first.result c.loop-point.first c.across_of.result c.min-first.ensures

    less_too : c.min-first.result ≤ c.across_of.result
    less_too = below_too c.min-first.result c.loop-point.first c.across_of.result c.min-first.ensures
