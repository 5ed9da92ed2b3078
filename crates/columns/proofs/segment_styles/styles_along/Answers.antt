-- One style more; and all of them.
use Rattle.std.proofs.Common.{◌≡◌, ◌≤◌, ◌*◌, ◌∙◌, ℕ, ap, sym, subst, arith}
use Rattle.std.proofs.Math.Nat.{mul-le-mul}
use Rattle.solid_model.specs.declared.cell.Axis.{Axis}
use Rattle.solid_model.specs.declared.frame.Frame.{Frame}
use Rattle.solid_model.specs.Frames.{frame_of, along, across}
use Rattle.solid_model.specs.PerAxis.{numbers_of, gaps_of}
use Rattle.columns.specs.ColumnLists.{AreColumns}
use Rattle.columns.proofs.GridStyles.{IsStyleAt, few_gaps, all_styles}
use Rattle.lemmas.proofs.Pushed.{HoldsSoFar, holds_more}
use Rattle.columns.proofs.segment_styles.styles_along.Goals as goal

pub overflow_mul-place-end : goal.overflow_mul-place-end
overflow_mul-place-end c =
    let lines : c.along-lines.result ≤ 64 = omega (arith, c.along-lines.ensures, c.requires.counts c.across.result.axis) in
    let width : c.along-width.result ≤ 64 =
    omega (arith, c.along-width.ensures, few_gaps (numbers_of c.args.counts) _ c.gaps-sizes.ensures c.requires.counts c.along.result.axis) in
    let l = mul-le-mul {n₂ = 64} {m₂ = 64} lines width in omega arith

pub segment_style-style-requires-clause-sizes : goal.segment_style-style-requires-clause-sizes
segment_style-style-requires-clause-sizes c = few_gaps (numbers_of c.args.counts) _ c.gaps-sizes.ensures c.requires.counts

pub segment_style-style-requires-clause-count : goal.segment_style-style-requires-clause-count
segment_style-style-requires-clause-count c =
    c.requires.count ∙ (λ t. sym c.gaps-sizes.ensures t (sym c.frame-frame.ensures t).up.axis * sym c.gaps-sizes.ensures t (sym c.frame-frame.ensures t).right.axis)

pub loop-place-preserved : goal.loop-place-preserved
loop-place-preserved c chosen are =
    holds_more (IsStyleAt c.frame-frame.result (numbers_of c.gaps-sizes.result) chosen c.args.upright c.along-width.result) c.loop-place.styles.items _ _ c.segment_style-style.result
    (c.loop-place.invariant chosen are) (c.segment_style-style.ensures chosen are) c.in_ok-push.ensures.items

pub returns : goal.returns
returns c chosen are =
    let counts = numbers_of c.args.counts in
    let f = c.frame-frame.ensures in
    let sizes = c.gaps-sizes.ensures in
    let width : c.along-width.result ≡ gaps_of counts (along (frame_of c.args.view) c.args.upright).axis =
    c.along-width.ensures ∙ (λ t. sizes t (c.along.ensures t).axis) ∙ ap (λ (x : Frame). gaps_of counts (along x c.args.upright).axis) f in
    let lines : c.along-lines.result ≡ counts (across (frame_of c.args.view) c.args.upright).axis =
    c.along-lines.ensures ∙ (λ t. counts (c.across.ensures t).axis) ∙ ap (λ (x : Frame). counts (across x c.args.upright).axis) f in
    let whole : c.loop-place.place ≡ c.along-lines.result * c.along-width.result = omega arith in
    let columns : AreColumns c.frame-frame.result (numbers_of c.gaps-sizes.result) chosen c.args.columns.now =
    subst (λ (x : Frame). AreColumns x (numbers_of c.gaps-sizes.result) chosen c.args.columns.now) (sym f)
    (subst (λ (x : Axis → ℕ). AreColumns (frame_of c.args.view) x chosen c.args.columns.now) (sym sizes) are) in
    let so_far = subst (λ (x : Frame). HoldsSoFar (IsStyleAt x (gaps_of counts) chosen c.args.upright c.along-width.result) c.loop-place.styles.items c.loop-place.place) f
    (subst (λ (x : Axis → ℕ). HoldsSoFar (IsStyleAt c.frame-frame.result x chosen c.args.upright c.along-width.result) c.loop-place.styles.items c.loop-place.place) sizes
    (c.loop-place.invariant chosen columns)) in
    all_styles counts chosen c.args.view c.args.upright c.loop-place.styles.items _ _ width (whole ∙ ap (λ n. n * c.along-width.result) lines) so_far
