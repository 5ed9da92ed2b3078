-- One cell more; and all of them.
use Rattle.std.proofs.Common.{◌≡◌, IsTrue, sym, subst, ◌∙◌, arith}
use Rattle.solid_model.specs.Marks.{AreMarksOf}
use Rattle.solid_model.specs.PerAxis.{numbers_of, cell_of}
use Rattle.solid_model.specs.WalledBoxes.{box_count}
use Rattle.solid_model.proofs.MarkedCells.{IsAnswerAt, answer_at, all_marked}
use Rattle.lemmas.proofs.Pushed.{holds_more}
use Rattle.flood.specs.RowWords.{is_in_rows}
use Rattle.flood.proofs.leading.marks_in_rows.Goals as goal

pub loop-place-preserved : goal.loop-place-preserved
loop-place-preserved c =
    let sizes = numbers_of c.args.sizes in
    let holds = is_in_rows sizes c.args.rows.now in
    record {
      told = holds_more (IsAnswerAt sizes holds) c.loop-place.values.items _ _ _ c.loop-place.invariant.told
          (answer_at sizes holds (cell_of c.next_cell-cell.result) _ _ c.next_cell-cell.ensures.within c.next_cell-cell.ensures.place c.is_in_rows.ensures)
          c.push_reserved.ensures.items;
      before = λ _. (c.next_cell-cell.ensures.within, omega (arith, c.next_cell-cell.ensures.place));
      room = omega (arith, c.loop-place.invariant.room, c.push_reserved.ensures.capacity);
    }

pub returns : goal.returns
returns c =
    let sizes = numbers_of c.args.sizes in
    let all : c.loop-place.place ≡ box_count sizes = omega arith ∙ c.count-count.ensures in
    subst (AreMarksOf sizes (λ n. IsTrue (is_in_rows sizes c.args.rows.now n))) (sym c.new.ensures)
    (all_marked c.args.sizes c.loop-place.values.items _ _ c.loop-place.invariant.told all)
