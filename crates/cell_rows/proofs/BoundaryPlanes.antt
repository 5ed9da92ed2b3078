-- The planes in which boundary squares change, by the rows across them.
use Rattle.std.proofs.Common.{◌≡◌, inl, inr, Bool, true, false, not, ◌&&◌, if◌then◌else◌, ℕ, zero, suc, ◌+◌, ◌*◌, ◌%◌, ◌^◌, ◌<◌, List, length, slice_index_or, ℤ, pos, negsuc, ◌-ℤ◌, bit_and, bit_or, w64, refl, ap, sym, subst, ◌∙◌, arith}
use Rattle.std.specs.Int.{bit_not}
use Rattle.std.specs.Int.RustNames.{bit_xor}
use Rattle.std.proofs.lemmas.Bool.{false_from_ne_true, both_ways, false≢true, and_parts, or_parts, cases_lt}
use Rattle.std.proofs.lemmas.Int.{ints}
use Rattle.lemmas.specs.Bits.{is_set}
use Rattle.lemmas.proofs.WordBits.{set_either, set_without, same_where_clear, moved_up_first, moved_up}
use Rattle.cell_rows.specs.declared.changed_planes.ChangedPlanes.{ChangedPlanes}
use Rattle.cell_rows.specs.declared.changed_planes.PlanesAcross.{PlanesAcross}
use Rattle.cell_rows.specs.Planes.{is_across, planes_along, is_marked_before, ends_at, EndAlikeBeside, AreSameBeside}
use Rattle.cell_rows.specs.Rows.{cell_numbered, row_sizes, AreRows, AreAllRows, marks_by_rows}
use Rattle.cell_rows.proofs.RowCells.{row_within}
use Rattle.solid_model.specs.declared.cell.Axis.{Axis}
use Rattle.solid_model.specs.declared.cell.Axis.TheVariants.{X, Y, Z}
use Rattle.solid_model.specs.declared.cell.Cell.{Cell}
use Rattle.solid_model.specs.declared.face.Out.{Out}
use Rattle.solid_model.specs.declared.face.Out.TheVariants.{MinusX, PlusX, MinusY, PlusY, MinusZ, PlusZ}
use Rattle.solid_model.specs.declared.per_axis.PerAxis.{PerAxis}
use Rattle.solid_model.specs.Cells.{coordinate, placed, cell_before}
use Rattle.solid_model.specs.Faces.{outward, place, is_boundary}
use Rattle.solid_model.specs.Marks.{BoxMarks, is_marked}
use Rattle.solid_model.specs.PerAxis.{numbers_of, numbered}
use Rattle.solid_model.specs.WalledBoxes.{Sizes, is_below, is_within, box_place, box_count}
use Rattle.solid_model.specs.Rounds.{Spot}
use Rattle.solid_model.proofs.BoxCells.{within-below}
use Rattle.solid_model.proofs.BoxPlaces.{cell_of_box, cell_there}
use Rattle.solid_model.proofs.InGrid.{before_placed}

-- ---- words

-- a word that is moved up by one tells the cells before
moved : (row k : ℕ) → k < 64 → is_set (row * 2 ^ 1 % 2 ^ 64) k ≡ is_marked_before (is_set row) k
moved row zero l = moved_up_first row
moved row (suc k) l = moved_up row k l

-- those where a row and the cells before differ, either way
pub planes_of : (row before : ℕ) → before ≡ row * 2 ^ 1 % 2 ^ 64 → row < 2 ^ 64 → (forward : Bool) (k : ℕ) → k < 64
    → is_across (record { forward = bit_and before (bit_not w64 row); backward = bit_and row (bit_not w64 before) }) forward k
    ≡ ends_at (is_set row) forward k
planes_of row before is fits true k l =
    set_without before row k (omega arith) fits ∙ ap (λ b. b && not (is_set row k)) (ap (λ w. is_set w k) is ∙ moved row k l)
planes_of row before is fits false k l =
    set_without row before k fits (omega arith) ∙ ap (λ b. is_set row k && not b) (ap (λ w. is_set w k) is ∙ moved row k l)

-- a plane that isn't among those where words differ either
pub planes_with : (planes own others : PlanesAcross) (forward : Bool) (k : ℕ)
    → is_across (record {
      forward = bit_or planes.forward (bit_xor own.forward others.forward);
      backward = bit_or planes.backward (bit_xor own.backward others.backward);
    }) forward k ≡ false
    → (is_across planes forward k ≡ false) × (is_across own forward k ≡ is_across others forward k)
planes_with planes own others true k none =
    let parts = or_parts (is_set planes.forward k) (is_set (bit_xor own.forward others.forward) k)
    (sym (set_either planes.forward (bit_xor own.forward others.forward) k) ∙ none) in
    (parts.0, same_where_clear own.forward others.forward k parts.1)
planes_with planes own others false k none =
    let parts = or_parts (is_set planes.backward k) (is_set (bit_xor own.backward others.backward) k)
    (sym (set_either planes.backward (bit_xor own.backward others.backward) k) ∙ none) in
    (parts.0, same_where_clear own.backward others.backward k parts.1)

-- one row more
pub alike_more : (so_far planes : PlanesAcross) (rows others : List ℕ) (count : ℕ) → EndAlikeBeside so_far rows others count
    → ((forward : Bool) (k : ℕ) → k < 64 → is_across planes forward k ≡ false → (is_across so_far forward k ≡ false)
    × (ends_at (is_set (slice_index_or rows count 0)) forward k ≡ ends_at (is_set (slice_index_or others count 0)) forward k))
    → EndAlikeBeside planes rows others (count + 1)
alike_more so_far planes rows others count alike more forward k l none p p_l =
    elim (cases_lt p count) as (λ _. ends_at (is_set (slice_index_or rows p 0)) forward k ≡ ends_at (is_set (slice_index_or others p 0)) forward k) [
      | inl earlier ↦ alike forward k l (more forward k l none).0 p earlier
      | inr later ↦ (let last : count ≡ p = omega arith in
          subst (λ r. ends_at (is_set (slice_index_or rows r 0)) forward k ≡ ends_at (is_set (slice_index_or others r 0)) forward k) last
          (more forward k l none).1)
    ]

-- ---- rows

-- rows that are the same as far as words go have the same boundary squares
ends_alike : (row other : ℕ → Bool) (forward : Bool) (k : ℕ) → k < 64 → ((j : ℕ) → j < 64 → row j ≡ other j)
    → ends_at row forward k ≡ ends_at other forward k
ends_alike row other forward k l same = by forward
  where
    before : (j : ℕ) → j < 64 → is_marked_before row j ≡ is_marked_before other j
    before zero m = refl
    before (suc j) m = same j (omega arith)

    by : (f : Bool) → ends_at row f k ≡ ends_at other f k
    by true = λ i. before k l i && not (same k l i)
    by false = λ i. same k l i && not (before k l i)

-- no cell stands before the first one
none_before : (m : BoxMarks) (a : Axis) (c : Cell) → is_marked m (placed a (negsuc 0) c) ≡ false
none_before m a c = false_from_ne_true (is_marked m (placed a (negsuc 0) c)) (λ marked.
    by a (within-below (numbers_of m.sizes) (placed a (negsuc 0) c) (and_parts (is_within (numbers_of m.sizes) (placed a (negsuc 0) c)) _ marked).0))
  where
    by : (a : Axis) → ((b : Axis) → is_below (numbers_of m.sizes b) (coordinate b (placed a (negsuc 0) c)) ≡ true) → ⊥
    by X below = false≢true (below X)
    by Y below = false≢true (below Y)
    by Z below = false≢true (below Z)

-- and none in a row that the box doesn't have
none_off_row : (m : BoxMarks) (a : Axis) (c : Cell) → is_within (row_sizes m a) (placed a (pos 0) c) ≡ false → (z : ℤ)
    → is_marked m (placed a z c) ≡ false
none_off_row m a c none z = false_from_ne_true (is_marked m (placed a z c)) (λ marked.
    both_ways (is_within (row_sizes m a) (placed a (pos 0) c)) none
    (row_within (numbers_of m.sizes) a z c (and_parts (is_within (numbers_of m.sizes) (placed a z c)) _ marked).0))

-- the cells of one that it has are told by numbers
row_numbers : (sizes : Sizes) (a : Axis) (c : Cell) → is_within (numbered a 1 sizes) (placed a (pos 0) c) ≡ true
    → (n : PerAxis) × ((k : ℕ) → placed a (pos k) c ≡ cell_numbered a k n)
row_numbers sizes X c within =
    let box = cell_of_box (numbered X 1 sizes) (placed X (pos 0) c) within in
    (record { x = 0; y = box.y.number; z = box.z.number }, λ k i. record { x = pos k; y = box.y.is i; z = box.z.is i })
row_numbers sizes Y c within =
    let box = cell_of_box (numbered Y 1 sizes) (placed Y (pos 0) c) within in
    (record { x = box.x.number; y = 0; z = box.z.number }, λ k i. record { x = box.x.is i; y = pos k; z = box.z.is i })
row_numbers sizes Z c within =
    let box = cell_of_box (numbered Z 1 sizes) (placed Z (pos 0) c) within in
    (record { x = box.x.number; y = box.y.number; z = 0 }, λ k i. record { x = box.x.is i; y = box.y.is i; z = pos k })

-- ---- planes

-- the cells that begin at a spot of the planes with an outward side are those of a row
spot_placed : (out : Out) (at : ℤ) (q : Spot) → place out at q ≡ placed (outward out).axis at (place out (pos 0) q)
spot_placed MinusX at q = refl
spot_placed PlusX at q = refl
spot_placed MinusY at q = refl
spot_placed PlusY at q = refl
spot_placed MinusZ at q = refl
spot_placed PlusZ at q = refl

module _ (m : BoxMarks) (out : Out) (q : Spot) where
  abbrev axis : Axis
  axis = (outward out).axis

  -- which of them are marked
  abbrev marked_row : ℕ → Bool
  marked_row k = is_marked m (placed axis (pos k) (place out (pos 0) q))

  before_spot : (at : ℕ) → is_marked m (cell_before axis (place out (pos at) q)) ≡ is_marked_before marked_row at
  before_spot at = ap (λ c. is_marked m (cell_before axis c)) (spot_placed out (pos at) q)
      ∙ ap (is_marked m) (before_placed axis (pos at) (place out (pos 0) q)) ∙ by at
    where
      by : (k : ℕ) → is_marked m (placed axis (pos k -ℤ pos 1) (place out (pos 0) q)) ≡ is_marked_before marked_row k
      by zero = none_before m axis (place out (pos 0) q)
      by (suc k) = let e : pos (suc k) -ℤ pos 1 ≡ pos k = omega (arith, ints) in ap (λ z. is_marked m (placed axis z (place out (pos 0) q))) e

  -- the boundary squares at the spot are those of the row
  boundary_ends : (at : ℕ) → is_boundary (is_marked m) out (pos at) q ≡ ends_at marked_row (outward out).forward at
  boundary_ends at = by (outward out).forward
    where
      cell : Cell
      cell = place out (pos at) q

      by : (f : Bool) → (is_marked m (if f then cell_before axis cell else cell) && not (is_marked m (if f then cell else cell_before axis cell)))
          ≡ ends_at marked_row f at
      by true = λ i. before_spot at i && not (is_marked m (spot_placed out (pos at) q i))
      by false = λ i. is_marked m (spot_placed out (pos at) q i) && not (before_spot at i)

module _ (m n : BoxMarks) (same : numbers_of m.sizes ≡ numbers_of n.sizes) (a : Axis) (rows others : List ℕ)
    (are : AreRows m a rows) (are_others : AreRows n a others) (c : Cell) (forward : Bool) (at : ℕ) (l : at < 64)
    (alike : (p : ℕ) → p < length rows → ends_at (is_set (slice_index_or rows p 0)) forward at ≡ ends_at (is_set (slice_index_or others p 0)) forward at) where
  abbrev row : BoxMarks → ℕ → Bool
  row b k = is_marked b (placed a (pos k) c)

  -- where no row at the same place differs there, the rows of a cell don't
  ends_same : (b : Bool) → is_within (row_sizes m a) (placed a (pos 0) c) ≡ b → ends_at (row m) forward at ≡ ends_at (row n) forward at
  ends_same false off = ends_alike (row m) (row n) forward at l (λ j _.
      none_off_row m a c off (pos j)
      ∙ sym (none_off_row n a c (subst (λ (s : Sizes). is_within (numbered a 1 s) (placed a (pos 0) c) ≡ false) same off) (pos j)))
  ends_same true within =
      sym (ends_alike (is_set (slice_index_or rows (at_place m) 0)) (row m) forward at l (λ j k. are.each numbers.0 there j k ∙ ap (is_marked m) (sym (numbers.1 j))))
      ∙ alike (at_place m) (subst (λ r. at_place m < r) (sym are.listed) (cell_there (row_sizes m a) (cell_numbered a 0 numbers.0) there))
      ∙ ends_alike (is_set (slice_index_or others (at_place m) 0)) (row n) forward at l (λ j k.
      (λ i. is_set (slice_index_or others (box_place (numbered a 1 (same i)) (cell_numbered a 0 numbers.0)) 0) j)
      ∙ are_others.each numbers.0 (subst (λ (s : Sizes). is_within (numbered a 1 s) (cell_numbered a 0 numbers.0) ≡ true) same there) j k
      ∙ ap (is_marked n) (sym (numbers.1 j)))
    where
      numbers : (n : PerAxis) × ((k : ℕ) → placed a (pos k) c ≡ cell_numbered a k n)
      numbers = row_numbers (numbers_of m.sizes) a c within

      there : is_within (row_sizes m a) (cell_numbered a 0 numbers.0) ≡ true
      there = ap (is_within (row_sizes m a)) (sym (numbers.1 0)) ∙ within

      at_place : BoxMarks → ℕ
      at_place b = box_place (row_sizes b a) (cell_numbered a 0 numbers.0)

-- those of all sides are the same beside the planes where some row differs
module _ (m n : BoxMarks) (same : numbers_of m.sizes ≡ numbers_of n.sizes) (x y z u v w : List ℕ) (are : AreAllRows m x y z)
    (are_others : AreAllRows n u v w) (planes : ChangedPlanes) (in_x : EndAlikeBeside planes.x x u (length x))
    (in_y : EndAlikeBeside planes.y y v (length y)) (in_z : EndAlikeBeside planes.z z w (length z)) where
  by_axis : (a : Axis) (forward : Bool) (at : ℕ) → at < 64 → is_across (planes_along planes a) forward at ≡ false → (c : Cell)
      → ends_at (λ k. is_marked m (placed a (pos k) c)) forward at ≡ ends_at (λ k. is_marked n (placed a (pos k) c)) forward at
  by_axis X forward at l none c = ends_same m n same X x u are.along_x are_others.along_x c forward at l (in_x forward at l none) _ refl
  by_axis Y forward at l none c = ends_same m n same Y y v are.along_y are_others.along_y c forward at l (in_y forward at l none) _ refl
  by_axis Z forward at l none c = ends_same m n same Z z w are.along_z are_others.along_z c forward at l (in_z forward at l none) _ refl

  pub same_beside : AreSameBeside planes m n
  same_beside out at l none q =
      boundary_ends m out q at
      ∙ by_axis (outward out).axis (outward out).forward at l none (place out (pos 0) q)
      ∙ sym (boundary_ends n out q at)

-- ---- lists of rows

-- two boxes of the same sizes have as many rows along an axis
pub same_count : (m n : BoxMarks) → numbers_of m.sizes ≡ numbers_of n.sizes → (a : Axis) (rows others : List ℕ) → AreRows m a rows
    → AreRows n a others → length rows ≡ length others
same_count m n same a rows others are are_others =
    are.listed ∙ ap (λ (s : Sizes). box_count (numbered a 1 s)) same ∙ sym are_others.listed

-- what is told of lists is told of the same ones
pub alike_lists : (planes : PlanesAcross) (rows others x u : List ℕ) → rows ≡ x → others ≡ u
    → EndAlikeBeside planes rows others (length rows) → EndAlikeBeside planes x u (length x)
alike_lists planes rows others x u own theirs alike =
    subst (λ (xs : List ℕ). EndAlikeBeside planes xs u (length xs)) own
    (subst (λ (us : List ℕ). EndAlikeBeside planes rows us (length rows)) theirs alike)

pub same_rows : (sizes : PerAxis) (x y z u v w : List ℕ) → u ≡ x → v ≡ y → w ≡ z → AreAllRows (marks_by_rows sizes u) u v w
    → AreAllRows (marks_by_rows sizes x) x y z
same_rows sizes x y z u v w in_x in_y in_z are =
    subst (λ (t : List ℕ × List ℕ × List ℕ). AreAllRows (marks_by_rows sizes t.0) t.0 t.1 t.2) (λ i. (in_x i, in_y i, in_z i)) are
