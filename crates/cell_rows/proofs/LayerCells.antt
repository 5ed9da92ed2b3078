-- The cells of a layer, by their rows.
use Rattle.std.proofs.Common.{◌≡◌, ◌==◌, ◌<◌, ◌≤◌, ◌+◌, ◌*◌, inl, inr, true, false, ℕ, List, length, slice_index_or, pos, negsuc, ◌-ℤ◌, refl, ap, sym, subst, ◌∙◌, arith}
use Rattle.std.proofs.lemmas.Bool.{false_from_ne_true, both_ways, false≢true, and_parts, cases_lt}
use Rattle.std.proofs.lemmas.List.{get_or_past}
use Rattle.std.proofs.lemmas.List.FromFn.{length-map-range_with_len, get_or-map-range_with_len}
use Rattle.std.proofs.lemmas.Nat.Bits.{bit_at-zero}
use Rattle.lemmas.specs.Bits.{is_set}
use Rattle.solid_model.specs.declared.cell.Axis.{Axis}
use Rattle.solid_model.specs.declared.cell.Axis.TheVariants.{X, Y, Z}
use Rattle.solid_model.specs.declared.cell.Cell.{Cell}
use Rattle.solid_model.specs.declared.face.Out.{Out}
use Rattle.solid_model.specs.declared.face.Out.TheVariants.{MinusX, PlusX, MinusY, PlusY, MinusZ, PlusZ}
use Rattle.solid_model.specs.declared.per_axis.PerAxis.{PerAxis}
use Rattle.solid_model.specs.Cells.{coordinate}
use Rattle.solid_model.specs.Faces.{outward, right_axis, up_axis, place}
use Rattle.solid_model.specs.Marks.{BoxMarks, is_marked}
use Rattle.solid_model.specs.PerAxis.{numbers_of, cell_of, numbered}
use Rattle.solid_model.specs.WalledBoxes.{Sizes, is_below, is_within, box_place, box_count}
use Rattle.solid_model.proofs.BoxCells.{place-below, within-below}
use Rattle.solid_model.proofs.BoxPlaces.{cell_there}
use Rattle.cell_rows.specs.Rows.{cell_numbered, stride_along, row_sizes, AreRows}
use Rattle.cell_rows.specs.Layers.{spaced, AreLayer}
use Rattle.cell_rows.proofs.RowCells.{numbered_cell, coordinate_numbered, within_first, within_along, place_along, none_without_row}

-- a word that is one of them
pub spaced_at : (words : List ℕ) (start stride count v : ℕ) → v < count
    → slice_index_or (spaced words start stride count) v 0 ≡ slice_index_or words (start + v * stride) 0
unfolding spaced
spaced_at words start stride count v l = get_or-map-range_with_len (λ k. slice_index_or words (start + k * stride) 0) 0 count v v 0 l (omega arith)

-- and beyond the last
pub spaced_past : (words : List ℕ) (start stride count v : ℕ) → count ≤ v → slice_index_or (spaced words start stride count) v 0 ≡ 0
unfolding spaced
spaced_past words start stride count v l =
    let long = length-map-range_with_len (λ k. slice_index_or words (start + k * stride) 0) 0 count in
    get_or_past _ v 0 (omega (arith, long, l))

no_bits : (u : ℕ) → is_set 0 u ≡ false
no_bits u = ap (λ b. b == 1) (bit_at-zero u)

-- the numbers of the first cell of a row, where the plane has the number `at`
abbrev pub row_start : Out → ℕ → ℕ → PerAxis
row_start MinusX at v = record { x = at; y = v; z = 0 }
row_start PlusX at v = record { x = at; y = 0; z = v }
row_start MinusY at v = record { x = 0; y = at; z = v }
row_start PlusY at v = record { x = v; y = at; z = 0 }
row_start MinusZ at v = record { x = v; y = 0; z = at }
row_start PlusZ at v = record { x = 0; y = v; z = at }

-- the cells of its row are those at the spots of the plane
spot_cell : (out : Out) (at v u : ℕ) → cell_numbered (right_axis out) u (row_start out at v) ≡ place out (pos at) (record { u = pos u; v = pos v })
spot_cell MinusX at v u = refl
spot_cell PlusX at v u = refl
spot_cell MinusY at v u = refl
spot_cell PlusY at v u = refl
spot_cell MinusZ at v u = refl
spot_cell PlusZ at v u = refl

-- the rows stand one above another
row_above : (out : Out) (at v : ℕ) → cell_numbered (up_axis out) v (row_start out at 0) ≡ cell_numbered (right_axis out) 0 (row_start out at v)
row_above MinusX at v = refl
row_above PlusX at v = refl
row_above MinusY at v = refl
row_above PlusY at v = refl
row_above MinusZ at v = refl
row_above PlusZ at v = refl

-- the first of all
abbrev pub origin : PerAxis
origin = record { x = 0; y = 0; z = 0 }

first_cell : (out : Out) (at : ℕ) → cell_numbered (outward out).axis at origin ≡ cell_numbered (up_axis out) 0 (row_start out at 0)
first_cell MinusX at = refl
first_cell PlusX at = refl
first_cell MinusY at = refl
first_cell PlusY at = refl
first_cell MinusZ at = refl
first_cell PlusZ at = refl

pub first_is : (out : Out) (at : ℕ) (first : PerAxis) → numbers_of first ≡ numbered (outward out).axis at (numbers_of origin)
    → cell_of first ≡ cell_numbered (up_axis out) 0 (row_start out at 0)
first_is out at first e = numbered_cell (outward out).axis at origin first e ∙ first_cell out at

module _ (m : BoxMarks) (out : Out) (at : ℕ) where
  abbrev ends : Sizes
  ends = row_sizes m (right_axis out)

  -- a row that isn't one of the box's has no marks
  none_there : (v : ℕ) → is_within ends (cell_numbered (up_axis out) v (row_start out at 0)) ≡ false → (u : ℕ)
      → is_marked m (place out (pos at) (record { u = pos u; v = pos v })) ≡ false
  none_there v outside u =
      ap (is_marked m) (sym (spot_cell out at v u))
      ∙ none_without_row m (right_axis out) (row_start out at v) (ap (is_within ends) (sym (row_above out at v)) ∙ outside) u

  -- where the first cell is none of the box, there is no layer
  pub no_layer : (rows : List ℕ) → is_within ends (cell_numbered (up_axis out) 0 (row_start out at 0)) ≡ false
      → AreLayer m out (pos at) (spaced rows 0 0 0)
  no_layer rows outside u v l =
      ap (λ w. is_set w u) (spaced_past rows 0 0 0 v (omega arith)) ∙ no_bits u
      ∙ sym (none_there v (false_from_ne_true (is_within ends (cell_numbered (up_axis out) v (row_start out at 0))) (λ within.
      both_ways (is_within ends (cell_numbered (up_axis out) 0 (row_start out at 0))) outside (within_first ends (up_axis out) v (row_start out at 0) within))) u)

  module _ (rows : List ℕ) (are : AreRows m (right_axis out) rows) (start stride count : ℕ)
      (within : is_within ends (cell_numbered (up_axis out) 0 (row_start out at 0)) ≡ true)
      (begins : start ≡ box_place ends (cell_numbered (up_axis out) 0 (row_start out at 0)))
      (apart : stride ≡ stride_along ends (up_axis out)) (high : count ≡ ends (up_axis out)) where
    row_within : (v : ℕ) → v < count → is_within ends (cell_numbered (right_axis out) 0 (row_start out at v)) ≡ true
    row_within v l =
        ap (is_within ends) (sym (row_above out at v))
        ∙ within_along ends (up_axis out) v (row_start out at 0) within (subst (λ n. v < n) high l)

    row_place : (v : ℕ) → start + v * stride ≡ box_place ends (cell_numbered (right_axis out) 0 (row_start out at v))
    row_place v = (λ i. begins i + v * apart i) ∙ place_along ends (up_axis out) v (row_start out at 0) ∙ ap (box_place ends) (row_above out at v)

    -- its rows are among those of the box,
    pub layer_inside : (v : ℕ) → v < count → start + v * stride < length rows
    layer_inside v l = subst (λ n. start + v * stride < n) (sym are.listed)
        (subst (λ p. p < box_count ends) (sym (row_place v)) (cell_there ends (cell_numbered (right_axis out) 0 (row_start out at v)) (row_within v l)))

    -- a stride apart
    pub layer_spaced : AreLayer m out (pos at) (spaced rows start stride count)
    layer_spaced u v l = elim (cases_lt v count) as (λ _. Told) [
      | inl among ↦ ap (λ w. is_set w u) (spaced_at rows start stride count v among)
          ∙ ap (λ p. is_set (slice_index_or rows p 0) u) (row_place v)
          ∙ are.each (row_start out at v) (row_within v among) u l
          ∙ ap (is_marked m) (spot_cell out at v u)
      | inr beyond ↦ ap (λ w. is_set w u) (spaced_past rows start stride count v beyond) ∙ no_bits u
          ∙ sym (none_there v (false_from_ne_true (is_within ends (cell_numbered (up_axis out) v (row_start out at 0))) (λ is.
          let below = within-below ends (cell_numbered (up_axis out) v (row_start out at 0)) is (up_axis out) in
          let less = place-below (ends (up_axis out)) (pos v) (subst (λ z. is_below (ends (up_axis out)) z ≡ true) (coordinate_numbered (up_axis out) v (row_start out at 0)) below) in
          omega (arith, less, beyond, high))) u)
    ]
      where
        Told : Type 0
        Told = is_set (slice_index_or (spaced rows start stride count) v 0) u ≡ is_marked m (place out (pos at) (record { u = pos u; v = pos v }))

-- ---- a layer that is looked up, by its first cell

module _ (m : BoxMarks) (out : Out) (at : ℕ) (axis right : Axis) (first ends : PerAxis) (is_axis : axis ≡ (outward out).axis)
    (is_right : right ≡ right_axis out) (at_first : numbers_of first ≡ numbered axis at (numbers_of origin))
    (sized : numbers_of ends ≡ numbered right 1 (numbers_of m.sizes)) (rows : List ℕ) (are : AreRows m right rows) where
  box : numbers_of ends ≡ row_sizes m (right_axis out)
  box = sized ∙ ap (row_sizes m) is_right

  here : cell_of first ≡ cell_numbered (up_axis out) 0 (row_start out at 0)
  here = first_is out at first (at_first ∙ ap (λ a. numbered a at (numbers_of origin)) is_axis)

  there : is_within (row_sizes m (right_axis out)) (cell_numbered (up_axis out) 0 (row_start out at 0)) ≡ is_within (numbers_of ends) (cell_of first)
  there = λ i. is_within (sym box i) (sym here i)

  -- it isn't in the box
  pub lacks_layer : is_within (numbers_of ends) (cell_of first) ≡ false → AreLayer m out (pos at) (spaced rows 0 0 0)
  lacks_layer outside = no_layer m out at rows (there ∙ outside)

  -- or it is
  pub found_layer : (up : Axis) → up ≡ up_axis out → is_within (numbers_of ends) (cell_of first) ≡ true → (start stride count : ℕ)
      → start ≡ box_place (numbers_of ends) (cell_of first) → stride ≡ stride_along (numbers_of ends) up → count ≡ numbers_of ends up
      → ((v : ℕ) → v < count → start + v * stride < length rows) × AreLayer m out (pos at) (spaced rows start stride count)
  found_layer up is_up within start stride count begins apart high =
      let those = subst (λ a. AreRows m a rows) is_right are in
      let at_start = begins ∙ (λ i. box_place (box i) (here i)) in
      let strides = apart ∙ (λ i. stride_along (box i) (is_up i)) in
      let counted = high ∙ (λ i. box i (is_up i)) in (
        layer_inside m out at rows those start stride count (there ∙ within) at_start strides counted,
        layer_spaced m out at rows those start stride count (there ∙ within) at_start strides counted,
      )

-- before the first plane there is none
pub no_layer_before : (m : BoxMarks) (out : Out) (rows : List ℕ) → AreLayer m out (pos 0 -ℤ pos 1) (spaced rows 0 0 0)
no_layer_before m out rows u v l =
    ap (λ w. is_set w u) (spaced_past rows 0 0 0 v (omega arith)) ∙ no_bits u
    ∙ sym (false_from_ne_true (is_marked m low) (λ marked.
    by out (within-below (numbers_of m.sizes) low (and_parts (is_within (numbers_of m.sizes) low) (slice_index_or m.values (box_place (numbers_of m.sizes) low) false) marked).0)))
  where
    low : Cell
    low = place out (pos 0 -ℤ pos 1) (record { u = pos u; v = pos v })

    by : (o : Out) → ((a : Axis) → is_below (numbers_of m.sizes a) (coordinate a (place o (negsuc 0) (record { u = pos u; v = pos v }))) ≡ true) → ⊥
    by MinusX below = false≢true (below X)
    by PlusX below = false≢true (below X)
    by MinusY below = false≢true (below Y)
    by PlusY below = false≢true (below Y)
    by MinusZ below = false≢true (below Z)
    by PlusZ below = false≢true (below Z)
