-- One bit more; and all of them.
use Rattle.std.proofs.Common.{◌≡◌, ◌==◌, ◌+◌, ◌*◌, ◌≤◌, ◌<◌, false, slice_index_or, ap, sym, subst, ◌∙◌, arith}
use Rattle.std.proofs.lemmas.Nat.Bits.{bit_at-zero}
use Rattle.solid_model.specs.PerAxis.{numbers_of, cell_of, AreFew}
use Rattle.solid_model.specs.WalledBoxes.{is_within, box_place, box_count}
use Rattle.solid_model.proofs.BoxPlaces.{cells_small}
use Rattle.cell_rows.specs.Rows.{is_marked_at, stride_along}
use Rattle.lemmas.proofs.FilledWords.{IsFilledBy, filled_none, fill_clear, fill_set, filled_whole}
use Rattle.cell_rows.proofs.RowCells.{numbered_cell, none_beyond, none_outside, mark_along}
use Rattle.cell_rows.proofs.rows.row_of.Goals as goal
use Rattle.cell_rows.proofs.rows.row_of.Goals.{then-values-start, else-values-start}

pub returns-then-not-has : goal.returns-then-not-has
returns-then-not-has c k l =
    let m = c.args.marks.now in
    let cell = numbered_cell c.args.axis 0 c.args.cell c.numbered-first.result c.numbered-first.ensures in
    ap (λ b. b == 1) (bit_at-zero k)
    ∙ sym (none_outside m c.args.axis c.args.cell
    ((λ i. is_within (numbers_of (sym c.sizes-sizes.ensures.sizes i)) (sym cell i)) ∙ sym c.has.ensures ∙ c.if-not-has.true) k)

pub loop-number-init : goal.loop-number-init
loop-number-init c = filled_none (is_marked_at c.args.marks.now c.args.axis c.args.cell)

module _ (c : goal.In-loop-number) where
  -- the value that is read
  read : (c.place-start.result + c.loop-number.number * c.stride-stride.result < box_count (numbers_of c.args.marks.now.sizes))
      × (slice_index_or c.args.marks.now.values (c.place-start.result + c.loop-number.number * c.stride-stride.result) false
      ≡ is_marked_at c.args.marks.now c.args.axis c.args.cell c.loop-number.number)
  read = mark_along c.args.marks.now c.args.axis c.loop-number.number c.args.cell c.numbered-first.result c.place-start.result c.stride-stride.result
      (numbered_cell c.args.axis 0 c.args.cell c.numbered-first.result c.numbered-first.ensures)
      (ap (λ s. is_within (numbers_of s) (cell_of c.numbered-first.result)) (sym c.sizes-sizes.ensures.sizes) ∙ sym c.has.ensures ∙ c.if-not-has.false)
      (subst (λ n. c.loop-number.number < n) (c.along-number-end.ensures ∙ ap (λ s. numbers_of s c.args.axis) c.sizes-sizes.ensures.sizes) c.loop-number-test.true)
      (c.place-start.ensures.place ∙ ap (λ s. box_place (numbers_of s) (cell_of c.numbered-first.result)) c.sizes-sizes.ensures.sizes)
      (c.stride-stride.ensures ∙ ap (λ s. stride_along (numbers_of s) c.args.axis) c.sizes-sizes.ensures.sizes)

  small : box_count (numbers_of c.args.marks.now.sizes) ≤ 1073741824
  small = cells_small (numbers_of c.args.marks.now.sizes) (subst (λ s. AreFew (numbers_of s)) c.sizes-sizes.ensures.sizes c.sizes-sizes.ensures.few)

pub overflow_mul-number : goal.overflow_mul-number
overflow_mul-number c = let l = (read c).0 in omega (arith, l, small c)

pub overflow_add-start : goal.overflow_add-start
overflow_add-start c = let l = (read c).0 in omega (arith, l, small c)

pub bounds-values-start : goal.bounds-values-start
bounds-values-start c = subst (λ n. c.place-start.result + c.loop-number.number * c.stride-stride.result < n)
    (sym c.values-values.ensures.all)
    (mark_along c.args.marks.now c.args.axis c.loop-number.number c.args.cell c.numbered-first.result c.place-start.result c.stride-stride.result
    (numbered_cell c.args.axis 0 c.args.cell c.numbered-first.result c.numbered-first.ensures)
    (ap (λ s. is_within (numbers_of s) (cell_of c.numbered-first.result)) (sym c.sizes-sizes.ensures.sizes) ∙ sym c.has.ensures ∙ c.if-not-has.false)
    (subst (λ n. c.loop-number.number < n) (c.along-number-end.ensures ∙ ap (λ s. numbers_of s c.args.axis) c.sizes-sizes.ensures.sizes) c.loop-number-test.true)
    (c.place-start.ensures.place ∙ ap (λ s. box_place (numbers_of s) (cell_of c.numbered-first.result)) c.sizes-sizes.ensures.sizes)
    (c.stride-stride.ensures ∙ ap (λ s. stride_along (numbers_of s) c.args.axis) c.sizes-sizes.ensures.sizes)).0

pub loop-number-preserved : goal.loop-number-preserved
loop-number-preserved c =
    let m = c.args.marks.now in
    let bits = is_marked_at m c.args.axis c.args.cell in
    let number = c.loop-number.number in
    let few : c.along-number-end.result ≤ 63 =
    subst (λ n. n ≤ 63) (sym (c.along-number-end.ensures ∙ ap (λ s. numbers_of s c.args.axis) c.sizes-sizes.ensures.sizes)) c.requires in
    let at = ap (λ vs. slice_index_or vs (c.place-start.result + number * c.stride-stride.result) false) c.values-values.ensures.values
    ∙ (mark_along m c.args.axis number c.args.cell c.numbered-first.result c.place-start.result c.stride-stride.result
    (numbered_cell c.args.axis 0 c.args.cell c.numbered-first.result c.numbered-first.ensures)
    (ap (λ s. is_within (numbers_of s) (cell_of c.numbered-first.result)) (sym c.sizes-sizes.ensures.sizes) ∙ sym c.has.ensures ∙ c.if-not-has.false)
    (subst (λ n. number < n) (c.along-number-end.ensures ∙ ap (λ s. numbers_of s c.args.axis) c.sizes-sizes.ensures.sizes) c.loop-number-test.true)
    (c.place-start.ensures.place ∙ ap (λ s. box_place (numbers_of s) (cell_of c.numbered-first.result)) c.sizes-sizes.ensures.sizes)
    (c.stride-stride.ensures ∙ ap (λ s. stride_along (numbers_of s) c.args.axis) c.sizes-sizes.ensures.sizes)).1 in
    elim c.if-values-start.branch [
      | then-values-start w ↦ subst (λ n. IsFilledBy bits n (number + 1)) (sym w.row-is)
          (fill_set bits c.loop-number.row number c.loop-number.invariant (omega (arith, c.loop-number-test.true, few)) (sym at ∙ w.if-values-start.true))
      | else-values-start w ↦ subst (λ n. IsFilledBy bits n (number + 1)) (sym w.row-is)
          (fill_clear bits c.loop-number.row number c.loop-number.invariant (sym at ∙ w.if-values-start.false))
    ]

pub returns : goal.returns
returns c =
    let m = c.args.marks.now in
    let end = c.along-number-end.ensures ∙ ap (λ s. numbers_of s c.args.axis) c.sizes-sizes.ensures.sizes in
    filled_whole (is_marked_at m c.args.axis c.args.cell) c.loop-number.row c.loop-number.number c.loop-number.invariant
    (λ k beyond _. none_beyond m c.args.axis c.args.cell k (subst (λ n. n ≤ k) end (omega (arith, beyond, c.loop-number-test.false))))
