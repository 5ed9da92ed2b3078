-- The rows along the x axis tell all marks of a box.
use Rattle.std.proofs.Common.{◌≡◌, ◌&&◌, true, false, ℕ, ◌/◌, ◌%◌, ◌<◌, ◌≤◌, List, length, slice_index_or, ap, sym, subst, ◌∙◌, arith}
use Rattle.std.proofs.lemmas.List.{ext_get_or}
use Rattle.std.proofs.lemmas.List.FromFn.{length-map-range_with_len, get_or-map-range_with_len}
use Rattle.std.proofs.lemmas.Nat.{div-add-mod'}
use Rattle.solid_model.specs.declared.cell.Axis.TheVariants.{X, Y}
use Rattle.solid_model.specs.declared.per_axis.PerAxis.{PerAxis}
use Rattle.lemmas.specs.Bits.{is_set}
use Rattle.solid_model.specs.Marks.{BoxMarks}
use Rattle.solid_model.specs.PerAxis.{numbers_of}
use Rattle.solid_model.specs.WalledBoxes.{Sizes, is_within, box_place, box_count}
use Rattle.solid_model.proofs.BoxPlaces.{numbers_below, cell_of_place-within, cell_of_place-there}
use Rattle.cell_rows.specs.Rows.{cell_numbered, row_sizes, AreRows, AreAllRows, values_by_rows, marks_by_rows}
use Rattle.cell_rows.proofs.RowCells.{within_row}

length-values : (sizes : Sizes) (rows : List ℕ) → length (values_by_rows sizes rows) ≡ box_count sizes
unfolding values_by_rows
length-values sizes rows = length-map-range_with_len _ 0 (box_count sizes)

value_at : (sizes : Sizes) (rows : List ℕ) (p : ℕ) → p < box_count sizes
    → slice_index_or (values_by_rows sizes rows) p false ≡ is_set (slice_index_or rows (p / sizes X) 0) (p % sizes X)
unfolding values_by_rows
value_at sizes rows p l = get_or-map-range_with_len (λ q. is_set (slice_index_or rows (q / sizes X) 0) (q % sizes X)) 0 (box_count sizes) p p false l (omega arith)

module _ (m : BoxMarks) (rows : List ℕ) (are : AreRows m X rows) (few : numbers_of m.sizes X ≤ 63) where
  abbrev sizes : Sizes
  sizes = numbers_of m.sizes

  -- the value at a place is the bit of its row
  value_told : (p : ℕ) → p < box_count sizes → is_set (slice_index_or rows (p / sizes X) 0) (p % sizes X) ≡ slice_index_or m.values p false
  value_told p l =
      ap (λ r. is_set (slice_index_or rows r 0) (p % sizes X)) (sym row_place)
      ∙ are.each n row_within (p % sizes X) (let x = (numbers_below sizes n within).x in omega arith)
      ∙ ap (λ t. t && slice_index_or m.values (box_place sizes (cell_numbered X (p % sizes X) n)) false) within
      ∙ ap (λ q. slice_index_or m.values q false) (cell_of_place-there sizes p)
    where
      n : PerAxis
      n = record { x = p % sizes X; y = p / sizes X % sizes Y; z = p / sizes X / sizes Y }

      within : is_within sizes (cell_numbered X (p % sizes X) n) ≡ true
      within = cell_of_place-within sizes p l

      row_within : is_within (row_sizes m X) (cell_numbered X 0 n) ≡ true
      row_within = within_row sizes X (p % sizes X) n within

      row_place : box_place (row_sizes m X) (cell_numbered X 0 n) ≡ p / sizes X
      row_place = omega (arith, div-add-mod' (p / sizes X) (sizes Y))

  -- so they are the marks
  pub same_marks : length m.values ≡ box_count sizes → marks_by_rows m.sizes rows ≡ m
  same_marks listed = ap (λ values. record { sizes = m.sizes; values = values }) (ext_get_or false _ _
      (length-values sizes rows ∙ sym listed)
      (λ k h. let l : k < box_count sizes = omega (arith, length-values sizes rows) in value_at sizes rows k l ∙ value_told k l))

-- rows along all axes tell the marks that those along the x axis tell
pub all_marks : (m : BoxMarks) (sizes : PerAxis) (x y z : List ℕ) → sizes ≡ m.sizes → length m.values ≡ box_count (numbers_of m.sizes)
    → AreAllRows m x y z → (marks_by_rows sizes x ≡ m) × AreAllRows (marks_by_rows sizes x) x y z
all_marks m sizes x y z same listed are =
    let told : marks_by_rows sizes x ≡ m = ap (λ s. marks_by_rows s x) same ∙ same_marks m x are.along_x (are.few X) listed in
    (told, subst (λ n. AreAllRows n x y z) (sym told) are)
