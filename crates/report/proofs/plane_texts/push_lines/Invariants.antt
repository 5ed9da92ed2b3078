-- The lines of the first planes are told.
use Rattle.std.proofs.Common.{◌≡◌, ◌++◌, take}
use Rattle.report.specs.PlaneTexts.{all_lines}
use Rattle.report.proofs.plane_texts.push_lines.Given as goal

abbrev pub invariant-loop-plane : goal.invariant-loop-plane
invariant-loop-plane l = l.text.items ≡ l.initial.text.items ++ all_lines (take l.plane-index l.planes)
