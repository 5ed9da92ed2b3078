-- What is filled of one span more.
use Rattle.std.proofs.Common.{◌≡◌, ◌&&◌, ◌||◌, ℕ, ◌+◌, None, take, get_or, ap, sym, ◌∙◌}
use Rattle.std.proofs.lemmas.List.{take_more}
use Rattle.std.proofs.Math.Bool.{or-false}
use Rattle.lemmas.specs.Bits.{is_set}
use Rattle.solid_model.specs.Choices.{is_chosen}
use Rattle.cell_rows.specs.declared.span.Span.{Span}
use Rattle.cell_rows.specs.Spans.{is_filled}
use Rattle.cell_rows.proofs.FilledSpans.{filled-last}
use Rattle.lemmas.proofs.WordBits.{set_either}
use Rattle.cell_rows.proofs.row_spans.filled_row.Goals as goal
use Rattle.cell_rows.proofs.row_spans.filled_row.Goals.{then-fills, else-fills}

pub loop-span-preserved : goal.loop-span-preserved
loop-span-preserved c k =
    more c.if-fills.row (elim c.if-fills.branch as (λ _. is_set c.if-fills.row k ≡ (is_set c.loop-span.row k
    || (is_chosen c.args.choice.now span.block && is_set span.cells k))) [
      | then-fills w ↦ ap (λ r. is_set r k) w.row-is ∙ set_either c.loop-span.row span.cells k
          ∙ ap (λ b. is_set c.loop-span.row k || (b && is_set span.cells k)) (sym (sym c.fills.ensures ∙ w.if-fills.true))
      | else-fills w ↦ ap (λ r. is_set r k) w.row-is ∙ sym (or-false (is_set c.loop-span.row k))
          ∙ ap (λ b. is_set c.loop-span.row k || (b && is_set span.cells k)) (sym (sym c.fills.ensures ∙ w.if-fills.false))
    ])
  where
    span : Span
    span = get_or c.args.spans.now c.loop-span.span-index (record { block = None; cells = 0 })

    more : (row : ℕ) → is_set row k ≡ (is_set c.loop-span.row k || (is_chosen c.args.choice.now span.block && is_set span.cells k))
        → is_set row k ≡ is_filled c.args.choice.now (take (c.loop-span.span-index + 1) c.args.spans.now) k
    more row e = e
        ∙ ap (λ b. b || (is_chosen c.args.choice.now span.block && is_set span.cells k)) (c.loop-span.invariant k)
        ∙ sym (filled-last c.args.choice.now (take c.loop-span.span-index c.args.spans.now) span k)
        ∙ ap (λ spans. is_filled c.args.choice.now spans k) (sym (take_more c.args.spans.now c.loop-span.span-index _ c.loop-span-test.true))
