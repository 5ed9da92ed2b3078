-- One span more.
use Rattle.std.proofs.Common.{get_or, refl, rules}
use Rattle.line_demands.specs.declared.spans.Span.{Span}
use Rattle.line_demands.proofs.SpanMarks.{one_set}
use Rattle.line_demands.proofs.spans.set_spans.Goals as goal

pub loop-span-preserved : goal.loop-span-preserved
loop-span-preserved c =
    let d : Span = record { column = 0; cells = 0 } in
    one_set c.args.spans.now c.args.known c.args.columns.now c.loop-span.span-index c.loop-span.columns (get_or c.args.spans.now c.loop-span.span-index d) d
    c.set_span.result c.loop-span.invariant (search rules) refl (search rules) c.set_span.ensures.within c.set_span.ensures.known
