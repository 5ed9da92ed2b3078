-- One row more; and all of them.
use Rattle.std.proofs.Common.{◌≡◌, Bool, List, ◌∷◌, [], map, refl, ap, sym, subst, ◌∙◌, arith}
use Rattle.std.proofs.lemmas.List.{map-append}
use Rattle.std.proofs.lemmas.Result.{IfOk-weaker}
use Rattle.solid_model.specs.PerAxis.{numbers_of, numbered, AreFew}
use Rattle.solid_model.specs.WalledBoxes.{box_count}
use Rattle.lemmas.proofs.Pushed.{HoldsSoFar, holds_more}
use Rattle.cell_rows.specs.Spans.{is_filled, chosen_marks, AreRowSpans}
use Rattle.cell_rows.specs.Rows.{row_sizes}
use Rattle.cell_rows.proofs.RowCells.{few_rows, row_at}
use Rattle.cell_rows.proofs.SpanRows.{AreSpansAt, all_spans}
use Rattle.cell_rows.proofs.block_rows.spans_along.Goals as goal

pub count-requires : goal.count-requires
count-requires c = subst AreFew (sym c.numbered-ends.ensures)
    (few_rows (numbers_of c.args.sizes) c.args.axis (λ a. let l = c.requires.few a in omega arith))

pub count-place-end-requires : goal.count-place-end-requires
count-place-end-requires c = subst AreFew (sym c.numbered-ends.ensures)
    (few_rows (numbers_of c.args.sizes) c.args.axis (λ a. let l = c.requires.few a in omega arith))

pub loop-place-init : goal.loop-place-init
loop-place-init c = subst (λ xs. HoldsSoFar (AreSpansAt c.args.blocks.now c.args.axis) (map (λ r. r.items) xs) 0) (sym c.in_ok-rows.ensures.items)
    (record { count = refl; each = λ p d l. absurd (omega arith) })

pub loop-place-preserved : goal.loop-place-preserved
loop-place-preserved c =
    let ends = numbers_of c.numbered-ends.result in
    let same : (choice : List Bool) → ends ≡ row_sizes (chosen_marks c.args.blocks.now choice) c.args.axis =
    λ choice. c.numbered-ends.ensures ∙ (λ i. numbered c.args.axis 1 (numbers_of (c.requires.sizes i))) in
    holds_more (AreSpansAt c.args.blocks.now c.args.axis) _ _ _ c.in_ok-spans_of.field-0.items c.loop-place.invariant
    (λ choice. row_at (chosen_marks c.args.blocks.now choice) c.args.axis ends c.loop-place.place (is_filled choice c.in_ok-spans_of.field-0.items)
    c.cell.result (same choice) c.cell.ensures.place c.cell.ensures.within (c.in_ok-spans_of.ensures choice))
    (ap (map (λ r. r.items)) c.in_ok-push.ensures.items ∙ map-append (λ r. r.items) c.loop-place.rows.items (c.in_ok-spans_of.field-0 ∷ []))

pub returns : goal.returns
returns c =
    let same : (choice : List Bool) → numbers_of c.numbered-ends.result ≡ row_sizes (chosen_marks c.args.blocks.now choice) c.args.axis =
    λ choice. c.numbered-ends.ensures ∙ (λ i. numbered c.args.axis 1 (numbers_of (c.requires.sizes i))) in
    let all = all_spans c.args.blocks.now c.args.axis _ c.loop-place.place c.loop-place.invariant
    (λ choice. omega (arith, c.loop-place-test.false) ∙ c.count-place-end.ensures ∙ ap box_count (same choice)) in
    IfOk-weaker c.new.result _ (AreRowSpans c.args.blocks.now c.args.axis) (λ spans is. subst (AreRowSpans c.args.blocks.now c.args.axis) (sym is) all)
    c.new.ensures
