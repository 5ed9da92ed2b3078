-- The spans so far are set.
use Rattle.line_demands.proofs.SpanMarks.{AreSetTo}
use Rattle.line_demands.proofs.spans.set_spans.Given as goal

abbrev pub invariant-loop-span : goal.invariant-loop-span
invariant-loop-span l = AreSetTo l.spans l.known l.fn.columns l.span-index l.columns
