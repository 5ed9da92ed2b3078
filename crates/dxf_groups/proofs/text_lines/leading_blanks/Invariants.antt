use Rattle.std.proofs.Common.{◌≡◌, ◌≤◌, ◌<◌, ◌-◌, ℕ, true, length, slice_index}
use Rattle.dxf_groups.specs.TextLines.{is_blank}
use Rattle.dxf_groups.proofs.text_lines.leading_blanks.Given as goal

-- what was passed over is blank
abbrev pub invariant-loop-place : goal.invariant-loop-place
invariant-loop-place l =
    (l.place ≤ length l.line)
    × ((k : ℕ) → k < l.place → is_blank (slice_index l.line k) ≡ true)

abbrev pub decreases-loop-place : goal.decreases-loop-place
decreases-loop-place l = length l.line - l.place
