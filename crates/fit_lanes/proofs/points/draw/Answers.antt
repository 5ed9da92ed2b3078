-- The column after a line stands a row on, and the one before it a place or a row before that.
use Rattle.std.proofs.Common.{◌≡◌, ◌+◌, ◌-◌, ◌<◌, ℕ, List, take, length, get_or, set, ap, sym, subst, arith}
use Rattle.std.proofs.lemmas.List.{take_more, take_all}
use Rattle.lemmas.specs.Bits.{bits}
use Rattle.lemmas.proofs.ListPlaces.{each-all}
use Rattle.solid_model.specs.Columns.{ColumnsDraw}
use Rattle.fit_lanes.specs.Points.{places_before}
use Rattle.fit_lanes.proofs.BusyPoints.{AreSetAt, IsLeftDrawn, set_none, set_more, blank_still, all_drawn}
use Rattle.fit_lanes.proofs.Buffers.{left_alike}
use Rattle.fit_lanes.proofs.points.draw.Goals as goal
use Rattle.fit_lanes.proofs.points.draw.Goals.{then-upright, else-upright}

pub loop-point-init : goal.loop-point-init
loop-point-init c = set_none (IsLeftDrawn c.args.kept c.args.columns.now c.args.stride c.args.upright) c.args.drawn.now

pub loop-point-preserved : goal.loop-point-preserved
loop-point-preserved c = subst (λ places. AreSetAt (IsLeftDrawn c.args.kept columns s c.args.upright) c.args.drawn.now places (set c.loop-point.drawn q c.style_byte.result))
    (sym (take_more c.args.points.now c.loop-point.point-index 0 c.loop-point-test.true))
    (set_more (IsLeftDrawn c.args.kept columns s c.args.upright) c.args.drawn.now (take c.loop-point.point-index c.args.points.now) c.loop-point.drawn q c.style_byte.result
    c.loop-point.invariant (omega (arith, inside, c.loop-point.invariant.count)) (λ left of. (
      c.style_between-style.result,
      subst (λ p. ColumnsDraw (bits (get_or left (q + s) 0)) (bits (get_or left p 0)) c.style_between-style.result) from
          (c.style_between-style.ensures (get_or left (q + s) 0) (get_or left (q + s - c.if-upright.before) 0) (of (q + s) there) (of (q + s - c.if-upright.before) (omega (arith, there)))),
      c.style_byte.ensures,
    )))
  where
    s : ℕ
    s = c.args.stride

    columns : List ℕ
    columns = c.args.columns.now

    q : ℕ
    q = get_or c.args.points.now c.loop-point.point-index 0

    inside : q < length c.args.drawn.now
    inside = each-all (λ p. p < length c.args.drawn.now) c.args.points.now c.requires.inside c.loop-point.point-index 0 c.loop-point-test.true

    there : q + s < length columns
    there = omega (arith, inside, c.requires.enough)

    from : q + s - c.if-upright.before ≡ q + s - places_before s c.args.upright
    from = elim c.if-upright.branch as (λ _. q + s - c.if-upright.before ≡ q + s - places_before s c.args.upright) [
      | then-upright w ↦ (let t : places_before s c.args.upright ≡ 1 = ap (places_before s) w.if-upright.true in omega (arith, t, w.before-is))
      | else-upright w ↦ (let t : places_before s c.args.upright ≡ s = ap (places_before s) w.if-upright.false in omega (arith, t, w.before-is))
    ]

-- each of the points was gone to
whole : (c : goal.After-loop-point) → AreSetAt (IsLeftDrawn c.args.kept c.args.columns.now c.args.stride c.args.upright) c.args.drawn.now c.args.points.now c.loop-point.drawn
whole c = subst (λ places. AreSetAt (IsLeftDrawn c.args.kept c.args.columns.now c.args.stride c.args.upright) c.args.drawn.now places c.loop-point.drawn)
    (take_all c.loop-point.point-index c.args.points.now c.loop-point-test.false) c.loop-point.invariant

pub returns-clause-blank : goal.returns-clause-blank
returns-clause-blank c = blank_still _ c.args.drawn.now c.args.points.now c.loop-point.drawn (whole c) c.requires.blank

pub returns-clause-drawn : goal.returns-clause-drawn
returns-clause-drawn c left of = all_drawn left c.args.stride c.args.upright c.args.drawn.now c.args.points.now c.loop-point.drawn
    (let all = whole c in record { count = all.count; each = λ p among. all.each p among left of; others = all.others })
    (left_alike c.args.kept c.args.columns.now left of c.args.stride c.args.upright c.args.points.now (length c.args.drawn.now) (omega (arith, c.requires.enough)) c.requires.alike) c.requires.blank
