-- One row more; and all of them.
use Rattle.std.proofs.Common.{◌≡◌, length, ap, sym, subst, ◌∙◌, arith}
use Rattle.lemmas.specs.Bits.{is_set}
use Rattle.solid_model.specs.PerAxis.{numbers_of, numbered, AreFew}
use Rattle.solid_model.specs.WalledBoxes.{box_count}
use Rattle.lemmas.proofs.Pushed.{holds_more}
use Rattle.cell_rows.specs.Rows.{row_sizes}
use Rattle.cell_rows.proofs.RowCells.{few_rows, IsRowAt, row_at, all_rows}
use Rattle.cell_rows.proofs.rows.rows_along.Goals as goal

pub count-requires : goal.count-requires
count-requires c = subst AreFew (sym c.numbered-ends.ensures) (few_rows (numbers_of c.sizes.result) c.args.axis c.sizes.ensures.few)

pub count-place-end-requires : goal.count-place-end-requires
count-place-end-requires c = subst AreFew (sym c.numbered-ends.ensures) (few_rows (numbers_of c.sizes.result) c.args.axis c.sizes.ensures.few)

pub loop-place-init : goal.loop-place-init
loop-place-init c = record { count = ap length c.in_ok-rows.ensures.items; each = λ p d l. absurd (omega arith) }

pub loop-place-preserved : goal.loop-place-preserved
loop-place-preserved c =
    let m = c.args.marks.now in
    let ends = numbers_of c.numbered-ends.result in
    let same : ends ≡ row_sizes m c.args.axis = c.numbered-ends.ensures ∙ (λ i. numbered c.args.axis 1 (numbers_of (c.sizes.ensures.sizes i))) in
    holds_more (IsRowAt m c.args.axis) c.loop-place.rows.items _ _ c.row_of.result c.loop-place.invariant
    (row_at m c.args.axis ends c.loop-place.place (is_set c.row_of.result) c.cell.result same c.cell.ensures.place c.cell.ensures.within c.row_of.ensures)
    c.in_ok-push.ensures.items

pub returns : goal.returns
returns c =
    let m = c.args.marks.now in
    let same = c.numbered-ends.ensures ∙ (λ i. numbered c.args.axis 1 (numbers_of (c.sizes.ensures.sizes i))) in
    all_rows m c.args.axis c.loop-place.rows.items c.loop-place.place c.loop-place.invariant
    (omega (arith, c.loop-place-test.false) ∙ c.count-place-end.ensures ∙ ap box_count same)
