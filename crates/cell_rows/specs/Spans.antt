-- Rows of a box's cells by the blocks to which the cells belong.
use Rattle.std.specs.Prelude.{◌≡◌, ◌<◌, ◌≤◌, ◌&&◌, ◌||◌, ◌==◌, Bool, false, ℕ, List, [], ◌∷◌, length, slice_index_or, IsTrue}
use Rattle.std.specs.List.{list_any}
use Rattle.cell_rows.specs.declared.span.Span.{Span}
use Rattle.cell_rows.specs.Rows.{cell_numbered, is_marked_at, row_sizes}
use Rattle.solid_model.specs.declared.cell.Axis.{Axis}
use Rattle.solid_model.specs.declared.cell.Axis.TheVariants.{X, Y, Z}
use Rattle.solid_model.specs.declared.per_axis.PerAxis.{PerAxis}
use Rattle.lemmas.specs.Bits.{is_set}
use Rattle.lemmas.specs.Lists.{Each}
use Rattle.solid_model.specs.Blocks.{BlockNumbers}
use Rattle.solid_model.specs.Choices.{is_chosen, cells_of_choice}
use Rattle.solid_model.specs.Marks.{BoxMarks}
use Rattle.solid_model.specs.PerAxis.{numbers_of}
use Rattle.solid_model.specs.WalledBoxes.{is_within, box_place, box_count}

-- of the cells of a row, that of number k is one of a span whose block a choice fills
abbrev pub is_filled : List Bool → List Span → ℕ → Bool
is_filled choice [] k = false
is_filled choice (s ∷ spans) k = (is_chosen choice s.block && is_set s.cells k) || is_filled choice spans k

-- rows have the bits of what a choice fills of their spans
abbrev pub AreFilled : List Bool → List (List Span) → List ℕ → Type 0
AreFilled choice spans rows =
    (p k : ℕ) → p < length spans → is_set (slice_index_or rows p 0) k ≡ is_filled choice (slice_index_or spans p []) k

-- a place is one of these
abbrev pub is_among : List ℕ → ℕ → Bool
is_among places p = list_any (λ q. q == p) places

-- places of rows, beyond which no choice fills anything
pub record AreFillable (rows : List (List Span)) (places : List ℕ) : Type 0 where
  pub inside : Each (λ p. p < length rows) places
  pub beyond : (p : ℕ) → p < length rows → is_among places p ≡ false
      → (choice : List Bool) (k : ℕ) → is_filled choice (slice_index_or rows p []) k ≡ false

-- marks on the cells that a choice of blocks fills
abbrev pub chosen_marks : BlockNumbers → List Bool → BoxMarks
chosen_marks b choice = record { sizes = b.sizes; values = cells_of_choice b.numbers choice }

-- spans for each row along an axis, which tell of every choice what it fills
pub record AreRowSpans (b : BlockNumbers) (a : Axis) (rows : List (List Span)) : Type 0 where
  pub listed : (choice : List Bool) → length rows ≡ box_count (row_sizes (chosen_marks b choice) a)
  pub each : (choice : List Bool) (n : PerAxis) → IsTrue (is_within (row_sizes (chosen_marks b choice) a) (cell_numbered a 0 n))
      → (k : ℕ) → k < 64
      → is_filled choice (slice_index_or rows (box_place (row_sizes (chosen_marks b choice) a) (cell_numbered a 0 n)) []) k
      ≡ is_marked_at (chosen_marks b choice) a n k

-- those along all axes of a box each of whose cells has a block or none, and at most 63 cells along each axis
pub record AreAllRowSpans (b : BlockNumbers) (x y z : List (List Span)) : Type 0 where
  pub listed : length b.numbers ≡ box_count (numbers_of b.sizes)
  pub few : (a : Axis) → numbers_of b.sizes a ≤ 63
  pub along_x : AreRowSpans b X x
  pub along_y : AreRowSpans b Y y
  pub along_z : AreRowSpans b Z z
