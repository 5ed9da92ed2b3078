-- The lines so far.
use Rattle.line_demands.specs.WholeChoices.{ArePackedOf}
use Rattle.line_demands.proofs.whole.pack.Given as goal

abbrev pub invariant-loop-place : goal.invariant-loop-place
invariant-loop-place l = record {
  so_far : ArePackedOf l.columns l.sides l.numbers l.place l.after l.before;
}
