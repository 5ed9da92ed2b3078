-- One answer more; and all of them.
use Rattle.std.proofs.Common.{IsTrue, subst, ◌∙◌, arith}
use Rattle.solid_model.specs.Marks.{AreMarksOf}
use Rattle.solid_model.specs.PerAxis.{numbers_of, cell_of, AreFew}
use Rattle.solid_model.proofs.MarkedCells.{IsAnswerAt, answer_at, all_marked}
use Rattle.lemmas.proofs.Pushed.{holds_more}
use Rattle.solid_model.proofs.marks.Marks.of.Goals as goal

pub loop-place-preserved : goal.loop-place-preserved
loop-place-preserved g c =
    let sizes = numbers_of c.sizes-sizes.result in let holds = g.T.CellTest.holds c.args.test.now in (
      holds_more (IsAnswerAt sizes holds) c.loop-place.values.items _ _ c.test.result c.loop-place.invariant.0
          (answer_at sizes holds (cell_of c.next_cell-cell.result) _ _
          c.next_cell-cell.ensures.within c.next_cell-cell.ensures.place c.test.ensures)
          c.in_ok-push.ensures.items,
      λ _. (c.next_cell-cell.ensures.within, omega (arith, c.next_cell-cell.ensures.place)),
    )

pub returns : goal.returns
returns g c =
    let holds = g.T.CellTest.holds c.args.test.now in
    subst (λ s. AreMarksOf s (λ n. IsTrue (holds n)) (record { sizes = c.sizes-sizes.result; values = c.loop-place.values.items }))
    c.sizes-sizes.ensures.sizes
    (all_marked c.sizes-sizes.result c.loop-place.values.items _ holds c.loop-place.invariant.0 (omega arith ∙ c.count-place-end.ensures))

pub test-requires-clause-few : goal.test-requires-clause-few
test-requires-clause-few g c = subst (λ s. AreFew s) c.sizes-sizes.ensures.sizes c.sizes-sizes.ensures.few
