-- Rows of spans, and the words that a choice fills of them.
use Rattle.std.proofs.Common.{◌≡◌, Bool, ℕ, ◌<◌, List, [], length, refl, ap, sym, subst, ◌∙◌}
use Rattle.cell_rows.specs.declared.span.Span.{Span}
use Rattle.cell_rows.specs.Rows.{cell_numbered, row_sizes, AreRows}
use Rattle.cell_rows.specs.Spans.{is_filled, chosen_marks, AreRowSpans, AreFilled}
use Rattle.cell_rows.proofs.RowCells.{AreBitsAt}
use Rattle.solid_model.specs.declared.cell.Axis.{Axis}
use Rattle.solid_model.specs.Blocks.{BlockNumbers}
use Rattle.solid_model.specs.Marks.{BoxMarks}
use Rattle.solid_model.specs.PerAxis.{numbers_of, numbered}
use Rattle.solid_model.specs.WalledBoxes.{box_place, box_count}
use Rattle.solid_model.proofs.BoxPlaces.{cell_there}
use Rattle.lemmas.proofs.Pushed.{HoldsSoFar}

-- the spans at the place of a row tell of every choice what it fills
abbrev pub AreSpansAt : BlockNumbers → Axis → ℕ → List Span → Type 0
AreSpansAt b a place spans = (choice : List Bool) → AreBitsAt (chosen_marks b choice) a place (is_filled choice spans)

-- all of them
pub all_spans : (b : BlockNumbers) (a : Axis) (rows : List (List Span)) (count : ℕ) → HoldsSoFar (AreSpansAt b a) rows count
    → ((choice : List Bool) → count ≡ box_count (row_sizes (chosen_marks b choice) a)) → AreRowSpans b a rows
all_spans b a rows count held all = record {
  listed = λ choice. held.count ∙ all choice;
  each = λ choice n within k l.
      let sizes = row_sizes (chosen_marks b choice) a in
      held.each (box_place sizes (cell_numbered a 0 n)) []
      (subst (λ c. box_place sizes (cell_numbered a 0 n) < c) (sym (all choice)) (cell_there sizes (cell_numbered a 0 n) within))
      choice n within refl k l;
}

-- filled rows are those of the choice's marks
pub filled_rows : (b : BlockNumbers) (a : Axis) (choice : List Bool) (spans : List (List Span)) (rows : List ℕ) → AreRowSpans b a spans
    → length rows ≡ length spans → AreFilled choice spans rows → AreRows (chosen_marks b choice) a rows
filled_rows b a choice spans rows are same filled = record {
  listed = same ∙ are.listed choice;
  each = λ n within k l.
      let sizes = row_sizes (chosen_marks b choice) a in
      filled (box_place sizes (cell_numbered a 0 n)) k
      (subst (λ c. box_place sizes (cell_numbered a 0 n) < c) (sym (are.listed choice)) (cell_there sizes (cell_numbered a 0 n) within))
      ∙ are.each choice n within k l;
}

-- there are as many rows as along the same axis of any box of these sizes
pub count_rows : (b : BlockNumbers) (a : Axis) (choice : List Bool) (m : BoxMarks) (spans : List (List Span)) (rows : List ℕ) → AreRowSpans b a spans
    → AreRows m a rows → m.sizes ≡ b.sizes → length rows ≡ length spans
count_rows b a choice m spans rows are rows_are same =
    rows_are.listed ∙ ap (λ s. box_count (numbered a 1 (numbers_of s))) same ∙ sym (are.listed choice)
