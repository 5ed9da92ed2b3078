-- None of the gaps so far ends behind the plane.
use Rattle.std.proofs.Common.{ℕ, ◌<◌}
use Rattle.section_laws.specs.CutGaps.{EndsBehind, gap_at}
use Rattle.section_laws.proofs.gaps.first_gap.Given as goal

abbrev pub invariant-loop-place : goal.invariant-loop-place
invariant-loop-place l = (p : ℕ) → p < l.place → EndsBehind l.forward l.coordinates l.plane (gap_at l.forward l.gaps p) → ⊥
