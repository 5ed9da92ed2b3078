use Rattle.std.proofs.Common.{◌≡◌, ◌≤◌, ◌<◌, ℕ, true, length, get_or}
use Rattle.dxf_groups.specs.TextLines.{is_blank}
use Rattle.dxf_groups.proofs.text_lines.len_before_trailing_blanks.Given as goal

-- what was passed over is blank
abbrev pub invariant-loop-len : goal.invariant-loop-len
invariant-loop-len l =
    (l.len ≤ length l.line)
    × ((k : ℕ) (d : ℕ) → l.len ≤ k → k < length l.line → is_blank (get_or l.line k d) ≡ true)

abbrev pub decreases-loop-len : goal.decreases-loop-len
decreases-loop-len l = l.len
