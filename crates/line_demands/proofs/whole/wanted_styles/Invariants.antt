-- The bytes so far.
use Rattle.std.proofs.Common.{◌≡◌}
use Rattle.column_lanes.specs.Styles.{style_byte}
use Rattle.line_demands.specs.WholeChoices.{line_at}
use Rattle.lemmas.proofs.Pushed.{HoldsSoFar}
use Rattle.line_demands.proofs.whole.wanted_styles.Given as goal

abbrev pub invariant-loop-number : goal.invariant-loop-number
invariant-loop-number l = record {
  so_far : HoldsSoFar (λ i byte. byte ≡ style_byte (line_at l.sides l.numbers i).style) l.bytes.items l.number-index;
}
