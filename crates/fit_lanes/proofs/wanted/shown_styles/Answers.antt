-- One style more; and all of them.
use Rattle.std.proofs.Common.{◌≡◌, ◌*◌, ◌-◌, ◌/◌, ◌%◌, ℕ, length, map, slice_index_or, pos, w64, SFits, ◌∙◌, ap, arith, rules}
use Rattle.std.proofs.lemmas.Int.{to_z-of_z}
use Rattle.lemmas.proofs.Pushed.{holds_more}
use Rattle.solid_model.specs.declared.segment.Style.{Style}
use Rattle.solid_model.specs.Runs.{run_style}
use Rattle.six_views.specs.MovedRuns.{moved_run}
use Rattle.fit_lanes.proofs.MovedStyles.{styles_of_places}
use Rattle.fit_lanes.proofs.wanted.shown_styles.Goals as goal

pub loop-place-preserved : goal.loop-place-preserved
loop-place-preserved c =
    let across : SFits w64 c.args.across = search rules in
    let along : SFits w64 c.args.along = search rules in
    let so_far = rw (to_z-of_z w64 c.args.across across, to_z-of_z w64 c.args.along along) at c.loop-place.invariant in
    let line : SFits w64 (slice_index_or c.args.lines.now (c.loop-place.place / c.saturating_sub-width.result) (pos 0)) = search rules in
    let end : SFits w64 (slice_index_or c.args.ends.now (c.loop-place.place % c.saturating_sub-width.result) (pos 0)) = search rules in
    let style = rw (to_z-of_z w64 c.args.across across, to_z-of_z w64 c.args.along along, to_z-of_z w64 _ line, to_z-of_z w64 _ end) at c.moved_style.ensures in
    rw (to_z-of_z w64 c.args.across across, to_z-of_z w64 c.args.along along)
    (holds_more (λ (p : ℕ) (style : Style). style ≡ run_style (map (moved_run c.args.across c.args.along) c.args.shown.now)
    (slice_index_or c.args.lines.now (p / c.saturating_sub-width.result) (pos 0)) (slice_index_or c.args.ends.now (p % c.saturating_sub-width.result) (pos 0)))
    c.loop-place.styles.items _ _ c.moved_style.result so_far style c.in_ok-push.ensures.items)

pub returns : goal.returns
returns c =
    let across : SFits w64 c.args.across = search rules in
    let along : SFits w64 c.args.along = search rules in
    let so_far = rw (to_z-of_z w64 c.args.across across, to_z-of_z w64 c.args.along along) at c.loop-place.invariant in
    let lines = c.args.lines.now in
    let wide : c.saturating_sub-width.result ≡ length c.args.ends.now - 1 = omega arith in
    let whole : c.loop-place.place ≡ length lines * c.saturating_sub-width.result = omega arith in
    record {
      count = so_far.count ∙ whole ∙ ap (λ w. length lines * w) wide;
      each = styles_of_places lines c.args.ends.now (map (moved_run c.args.across c.args.along) c.args.shown.now) c.saturating_sub-width.result c.loop-place.place
          c.loop-place.styles.items (length lines) (length c.args.ends.now - 1) whole wide so_far;
    }
