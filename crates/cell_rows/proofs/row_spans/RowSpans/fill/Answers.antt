-- Nothing is filled at first; then one row more; and at last all of them.
use Rattle.std.proofs.Common.{◌<◌, ℕ, [], length, take, map, get_or, set, ap, sym, subst, ◌∙◌, arith}
use Rattle.std.proofs.lemmas.List.{take_more, take_all, length-map}
use Rattle.lemmas.specs.Lists.{Member}
use Rattle.lemmas.proofs.ListPlaces.{member-at}
use Rattle.lemmas.proofs.Lists.{each-at}
use Rattle.cell_rows.specs.Spans.{is_filled, AreFillable}
use Rattle.cell_rows.proofs.FillablePlaces.{AreFilledAt, filled_none, filled_more, filled_all, row_read}
use Rattle.cell_rows.proofs.row_spans.RowSpans.fill.Goals as goal

pub loop-place-init : goal.loop-place-init
loop-place-init c = subst (AreFilledAt c.args.choice.now c.args.self.now _) (sym (c.fill.ensures.after (λ y e. e)))
    (filled_none c.args.choice.now c.args.self.now (length c.args.rows.now) c.requires)

pub loop-place-preserved : goal.loop-place-preserved
loop-place-preserved c = subst (λ places. AreFilledAt c.args.choice.now c.args.self.now places (set c.loop-place.rows place c.filled_row.result))
    (sym (take_more c.deref-place-items.result.now c.loop-place.place-index 0 c.loop-place-test.true))
    (filled_more c.args.choice.now c.args.self.now (take c.loop-place.place-index c.deref-place-items.result.now) c.loop-place.rows place
    c.filled_row.result c.loop-place.invariant
    (omega (arith, inside, c.loop-place.invariant.count, length-map c.self.inside.rows.items (λ r. r.items), ap length c.self.view_is))
    (λ k. c.filled_row.ensures k ∙ ap (λ spans. is_filled c.args.choice.now spans k) (c.as_slice.ensures.value
    ∙ sym (row_read (λ r. r.items) c.self.inside.rows.items place c.index.result.now c.index.ensures
    (omega (arith, inside, length-map c.self.inside.rows.items (λ r. r.items))))
    ∙ ap (λ rows. get_or rows place []) c.self.view_is)))
  where
    place : ℕ
    place = get_or c.deref-place-items.result.now c.loop-place.place-index 0

    inside : place < length (map (λ r. r.items) c.self.inside.rows.items)
    inside = each-at (λ p. p < length (map (λ r. r.items) c.self.inside.rows.items)) c.self.inside.places.items place c.self.invariant.inside
        (subst (λ xs. Member xs place) c.deref-place-items.ensures.value (member-at c.deref-place-items.result.now c.loop-place.place-index 0 c.loop-place-test.true))

pub returns : goal.returns
returns c = record {
  count = c.loop-place.auto.rows ∙ c.fill.ensures.len;
  filled = filled_all c.args.choice.now c.args.self.now c.self.inside.places.items c.loop-place.rows
      (subst (λ places. AreFilledAt c.args.choice.now c.args.self.now places c.loop-place.rows)
      (take_all c.loop-place.place-index c.deref-place-items.result.now c.loop-place-test.false ∙ c.deref-place-items.ensures.value) c.loop-place.invariant)
      (subst (λ rows. AreFillable rows c.self.inside.places.items) c.self.view_is c.self.invariant);
}
