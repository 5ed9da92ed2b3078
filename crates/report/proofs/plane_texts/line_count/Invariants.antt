-- The lines so far.
use Rattle.std.proofs.Common.{◌≡◌, ◌≤◌, ◌*◌, ◌^◌, take}
use Rattle.report.specs.PlaneTexts.{line_count}
use Rattle.report.proofs.plane_texts.line_count.Given as goal

abbrev pub invariant-loop-plane : goal.invariant-loop-plane
invariant-loop-plane l = (l.count ≡ line_count (take l.plane-index l.planes)) × (l.count ≤ l.plane-index * 2 ^ 64)
