-- The cell joins the last span, or begins one.
use Rattle.std.proofs.Common.{◌==◌, ◌||◌, ap, ◌∙◌}
use Rattle.std.proofs.lemmas.Nat.Bits.{bit_at-zero}
use Rattle.cell_rows.specs.declared.span.Span.{Span}
use Rattle.solid_model.specs.Choices.{is_chosen}
use Rattle.cell_rows.proofs.FilledSpans.{grown_here, grown_elsewhere, begun_here, begun_elsewhere}
use Rattle.cell_rows.proofs.block_rows.with_cell.Goals as goal

pub returns-then-is_same-clause-here : goal.returns-then-is_same-clause-here
returns-then-is_same-clause-here c choice =
    grown_here choice c.args.spans.now.items c.args.last _ c.args.number (c.is_same.ensures c.if-is_same.true) c.with_bit.ensures.here

pub returns-then-is_same-clause-others : goal.returns-then-is_same-clause-others
returns-then-is_same-clause-others c choice k apart =
    grown_elsewhere choice c.args.spans.now.items c.args.last _ k (c.is_same.ensures c.if-is_same.true) (c.with_bit.ensures.others k apart)

pub returns-in_ok-put_span-clause-here : goal.returns-in_ok-put_span-clause-here
returns-in_ok-put_span-clause-here c choice =
    let next : Span = record { block = c.args.block; cells = c.with_bit-else-is_same.result } in
    begun_here choice c.put_span.new.spans.items next c.args.number c.with_bit-else-is_same.ensures.here
    ∙ ap (λ b. b || is_chosen choice c.args.block) (c.in_ok-put_span.ensures choice c.args.number)

pub returns-in_ok-put_span-clause-others : goal.returns-in_ok-put_span-clause-others
returns-in_ok-put_span-clause-others c choice k apart =
    let next : Span = record { block = c.args.block; cells = c.with_bit-else-is_same.result } in
    begun_elsewhere choice c.put_span.new.spans.items next k
    (c.with_bit-else-is_same.ensures.others k apart ∙ ap (λ b. b == 1) (bit_at-zero k))
    ∙ c.in_ok-put_span.ensures choice k
