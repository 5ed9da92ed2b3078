-- One row more, with something to fill or without; and all of them.
use Rattle.std.proofs.Common.{◌≡◌, ◌+◌, ℕ, List, length, map, ap, sym, subst, ◌∙◌, arith}
use Rattle.std.proofs.lemmas.Bool.{eqb-true}
use Rattle.std.proofs.lemmas.List.{length-map, nil_from_length}
use Rattle.cell_rows.specs.declared.span.Span.{Span}
use Rattle.cell_rows.specs.Spans.{is_filled}
use Rattle.cell_rows.proofs.FillablePlaces.{AreFillableSoFar, fillable_with, fillable_without, fillable_all, row_read}
use Rattle.cell_rows.proofs.row_spans.fillable_places.Goals as goal
use Rattle.cell_rows.proofs.row_spans.fillable_places.Goals.{then-not-is_empty+in_ok-push, else-not-is_empty}

pub loop-place-preserved : goal.loop-place-preserved
loop-place-preserved c = elim c.if-not-is_empty.branch [
  | then-not-is_empty+in_ok-push w ↦ subst (λ xs. AreFillableSoFar rows xs (place + 1)) (sym (ap (λ v. v.items) w.places-is ∙ w.in_ok-push.ensures.items))
      (fillable_with rows _ place c.loop-place.invariant)
  | else-not-is_empty w ↦ (let empty = eqb-true _ 0 (sym c.is_empty.ensures ∙ w.if-not-is_empty.false) in
      let none : length c.index-rows-place.result.items ≡ 0 = omega (arith, empty, c.index-rows-place.result.ok) in
      subst (λ xs. AreFillableSoFar rows xs (place + 1)) (sym (ap (λ v. v.items) w.places-is))
      (fillable_without rows _ place c.loop-place.invariant (λ choice k. ap (λ spans. is_filled choice spans k)
      (row_read (λ r. r.items) c.args.rows.now place c.index-rows-place.result c.index-rows-place.is c.loop-place-test.true
      ∙ nil_from_length c.index-rows-place.result.items none))))
]
  where
    rows : List (List Span)
    rows = map (λ r. r.items) c.args.rows.now

    place : ℕ
    place = c.loop-place.place

pub returns : goal.returns
returns c = fillable_all (map (λ r. r.items) c.args.rows.now) _ c.loop-place.place
    (omega (arith, c.loop-place-test.false, c.loop-place.auto.place-end, length-map c.args.rows.now (λ r. r.items))) c.loop-place.invariant
