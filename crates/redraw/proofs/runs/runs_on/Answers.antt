-- One line more; and all of them.
use Rattle.std.proofs.Common.{◌≡◌, ◌+◌, ◌-◌, ◌*◌, w64, SFits, length, take, drop, ap, subst, ◌∙◌, arith, rules}
use Rattle.std.proofs.lemmas.Int.{to_z-of_z}
use Rattle.solid_model.proofs.Gaps.{member}
use Rattle.redraw.specs.GridRuns.{IsWithLine}
use Rattle.redraw.proofs.AllLines.{line_styles, all_lines, earlier_lines, next_line}
use Rattle.redraw.proofs.runs.runs_on.Goals as goal

pub with_line-requires-clause-earlier : goal.with_line-requires-clause-earlier
with_line-requires-clause-earlier c =
    let fits : SFits w64 (member c.args.lines.now c.loop-place.place) = search rules in
    rw (to_z-of_z w64 (member c.args.lines.now c.loop-place.place) fits)
    (earlier_lines c.args.lines.now c.args.ends.now c.args.styles.now c.requires.lines c.loop-place.place c.loop-place.runs.items c.loop-place-test.true c.loop-place.invariant)

pub loop-place-preserved : goal.loop-place-preserved
loop-place-preserved c =
    let line = c.loop-place.place in
    let width = c.saturating_sub-width.result in
    let fits : SFits w64 (member c.args.lines.now line) = search rules in
    let with_line = rw (to_z-of_z w64 (member c.args.lines.now line) fits) at c.in_ok-runs.ensures in
    let long : (line * width + width) - line * width ≡ width = omega arith in
    let wide : width ≡ length c.args.ends.now - 1 = omega arith in
    let own : take ((line * width + width) - line * width) (drop (line * width) c.args.styles.now) ≡ line_styles c.args.styles.now (length c.args.ends.now - 1) line =
    ap (λ n. take n (drop (line * width) c.args.styles.now)) long ∙ ap (λ n. line_styles c.args.styles.now n line) wide in
    next_line c.args.lines.now c.args.ends.now c.args.styles.now c.requires.lines line c.loop-place.runs.items c.loop-place-test.true c.loop-place.invariant
    c.in_ok-runs.runs.items (subst (λ ss. IsWithLine (member c.args.lines.now line) c.args.ends.now ss c.loop-place.runs.items c.in_ok-runs.runs.items) own with_line)

pub returns : goal.returns
returns c = all_lines c.args.lines.now c.args.ends.now c.args.styles.now c.requires.lines c.loop-place.place c.loop-place.runs.items (omega arith) c.loop-place.invariant
