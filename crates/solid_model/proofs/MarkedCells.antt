-- Marks that are made cell by cell.
use Rattle.std.proofs.Common.{◌≡◌, ◌↔◌, ◌<◌, Bool, true, false, ℕ, List, slice_index_or, IsTrue, refl, ap, sym, subst, ◌∙◌}
use Rattle.std.proofs.lemmas.Bool.{and_parts, and_from}
use Rattle.solid_model.specs.declared.cell.Axis.{Axis}
use Rattle.solid_model.specs.declared.cell.Axis.TheVariants.{X, Y, Z}
use Rattle.solid_model.specs.declared.cell.Cell.{Cell}
use Rattle.solid_model.specs.declared.per_axis.PerAxis.{PerAxis}
use Rattle.solid_model.specs.Marks.{BoxMarks, is_marked, AreMarksOf, AxisMarks, marks_along}
use Rattle.solid_model.specs.PerAxis.{numbers_of}
use Rattle.solid_model.specs.WalledBoxes.{Sizes, is_within, box_place, box_count}
use Rattle.solid_model.proofs.BoxPlaces.{one_cell, cell_there}
use Rattle.lemmas.proofs.Pushed.{HoldsSoFar}

-- a value is what is true of the cell that has this place
abbrev pub IsAnswerAt : Sizes → (Cell → Bool) → ℕ → Bool → Type 0
IsAnswerAt sizes holds p value = (n : Cell) → is_within sizes n ≡ true → box_place sizes n ≡ p → value ≡ holds n

-- what is true of a cell is the answer at its place
pub answer_at : (sizes : Sizes) (holds : Cell → Bool) (m : Cell) (p : ℕ) (value : Bool) → is_within sizes m ≡ true → p ≡ box_place sizes m
    → value ≡ holds m → IsAnswerAt sizes holds p value
answer_at sizes holds m p value m_in there is n n_in e = is ∙ ap holds (one_cell sizes m n m_in n_in (sym there ∙ sym e))

-- all answers are the marks
pub all_marked : (sizes : PerAxis) (values : List Bool) (count : ℕ) (holds : Cell → Bool)
    → HoldsSoFar (IsAnswerAt (numbers_of sizes) holds) values count → count ≡ box_count (numbers_of sizes)
    → AreMarksOf (numbers_of sizes) (λ n. IsTrue (holds n)) (record { sizes = sizes; values = values })
all_marked sizes values count holds so_far all = record {
  sized = λ a. refl;
  exact = λ n n_in.
      let place = box_place (numbers_of sizes) n in
      let is = so_far.each place false (subst (λ c. place < c) (sym all) (cell_there (numbers_of sizes) n n_in)) n n_in refl in (
        λ marked. sym is ∙ (and_parts (is_within (numbers_of sizes) n) (slice_index_or values place false) marked).1,
        λ true_of. and_from (is_within (numbers_of sizes) n) (slice_index_or values place false) n_in (is ∙ true_of),
      );
}

-- what only cells of the box have is what the marks say, of every cell
pub marked_everywhere : (sizes : Sizes) (P : Cell → Type 0) (m : BoxMarks) → AreMarksOf sizes P m → ((n : Cell) → P n → IsTrue (is_within sizes n))
    → (n : Cell) → IsTrue (is_marked m n) ↔ P n
marked_everywhere sizes P m are inside n = (
  λ marked.
      let within = (and_parts (is_within (numbers_of m.sizes) n) (slice_index_or m.values (box_place (numbers_of m.sizes) n) false) marked).0 in
      (are.exact n (sym (λ t. is_within (λ a. are.sized a t) n) ∙ within)).0 marked,
  λ holds. (are.exact n (inside n holds)).1 holds,
)

-- what holds of the marks for each axis holds of them together
pub marks_by_axis : (P : Axis → BoxMarks → Type 0) (x y z : BoxMarks) (m : AxisMarks) → m ≡ record { x = x; y = y; z = z } → P X x → P Y y → P Z z
    → (a : Axis) → P a (marks_along a m)
marks_by_axis P x y z m e at_x at_y at_z a = subst (λ n. P a (marks_along a n)) (sym e) (by a)
  where
    by : (b : Axis) → P b (marks_along b (record { x = x; y = y; z = z }))
    by X = at_x
    by Y = at_y
    by Z = at_z
