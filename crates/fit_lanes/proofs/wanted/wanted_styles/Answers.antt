-- The shown runs tell the only styles that can have them.
use Rattle.std.proofs.Common.{◌≡◌, ℕ, List, map, slice_index_or, ℤ, pos, w64, SFits, sym, subst, ◌∙◌, rules}
use Rattle.std.proofs.lemmas.Int.{to_z-of_z}
use Rattle.std.proofs.lemmas.Bool.{both_ways}
use Rattle.solid_model.specs.declared.runs.Run.{Run}
use Rattle.solid_model.specs.declared.segment.Style.{Style}
use Rattle.redraw.specs.GridRuns.{AreRunsOn}
use Rattle.six_views.specs.MovedRuns.{moved_run}
use Rattle.fit_lanes.specs.Wanted.{AreShownStyles, placed_runs}
use Rattle.fit_lanes.proofs.WantedRuns.{are_wanted, never_shown}
use Rattle.fit_lanes.proofs.wanted.wanted_styles.Goals as goal

-- runs that are moved to two equal places are placed
placed_at : (lines ends : List ℤ) (m n : ℕ) (shown : List Run) (across along : ℤ) → across ≡ slice_index_or lines m (pos 0) → along ≡ slice_index_or ends n (pos 0)
    → map (moved_run across along) shown ≡ placed_runs lines ends m n shown
placed_at lines ends m n shown across along at_line at_end = λ t. map (moved_run (at_line t) (at_end t)) shown

pub returns-then-are_moved : goal.returns-then-are_moved
returns-then-are_moved c =
    let lines = c.args.lines.now in let ends = c.args.ends.now in let shown = c.args.shown.now in
    let across : SFits w64 c.place_at-across.result = search rules in
    let along : SFits w64 c.place_at-along.result = search rules in
    let told = rw (to_z-of_z w64 c.place_at-across.result across, to_z-of_z w64 c.place_at-along.result along) at c.in_ok-styles.ensures in
    let moved = rw (to_z-of_z w64 c.place_at-across.result across, to_z-of_z w64 c.place_at-along.result along) at c.are_moved.ensures in
    let placed = placed_at lines ends c.args.line c.args.end shown _ _ c.place_at-across.ensures c.place_at-along.ensures in
    let wanted = c.in_ok-styles.styles.items in
    are_wanted lines ends c.requires.ends c.args.line c.args.end shown wanted (subst (λ (rs : List Run). AreShownStyles lines ends rs wanted) placed told)
    c.in_ok-runs.runs.items (subst (λ (xs : List Style). AreRunsOn lines ends xs c.in_ok-runs.runs.items) c.deref.ensures.value c.in_ok-runs.ensures)
    (sym c.deref-2.ensures.value ∙ moved.0 c.if-are_moved.true ∙ placed)

pub returns-else-are_moved : goal.returns-else-are_moved
returns-else-are_moved c =
    let lines = c.args.lines.now in let ends = c.args.ends.now in let shown = c.args.shown.now in
    let across : SFits w64 c.place_at-across.result = search rules in
    let along : SFits w64 c.place_at-along.result = search rules in
    let told = rw (to_z-of_z w64 c.place_at-across.result across, to_z-of_z w64 c.place_at-along.result along) at c.in_ok-styles.ensures in
    let moved = rw (to_z-of_z w64 c.place_at-across.result across, to_z-of_z w64 c.place_at-along.result along) at c.are_moved.ensures in
    let placed = placed_at lines ends c.args.line c.args.end shown _ _ c.place_at-across.ensures c.place_at-along.ensures in
    let wanted = c.in_ok-styles.styles.items in
    never_shown lines ends c.requires.ends c.args.line c.args.end shown wanted (subst (λ (rs : List Run). AreShownStyles lines ends rs wanted) placed told)
    c.in_ok-runs.runs.items (subst (λ (xs : List Style). AreRunsOn lines ends xs c.in_ok-runs.runs.items) c.deref.ensures.value c.in_ok-runs.ensures)
    (λ same. both_ways _ c.if-are_moved.false (moved.1 (c.deref-2.ensures.value ∙ same ∙ sym placed)))
