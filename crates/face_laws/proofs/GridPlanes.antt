-- The planes of a grid, and the solid of the numbers of its full cells.
use Rattle.std.proofs.Common.{◌≡◌, ◌⊎◌, inl, inr, Bool, true, false, ◌&&◌, ℕ, zero, suc, ◌-◌, ◌<◌, ◌≤◌, List, [], ◌∷◌, length, map, slice_index_or, ℤ, pos, negsuc, ◌+ℤ◌, ◌-ℤ◌, ◌≤ℤ◌, ◌<ℤ◌, int_lt, int_le, IsTrue, refl, sym, ◌∙◌, ap, subst, arith}
use Rattle.std.proofs.lemmas.Bool.{false≢true, false_from_ne_true, and_parts, and_from, both_ways}
use Rattle.std.proofs.lemmas.Int.{ints}
use Rattle.solid_model.specs.declared.cell.Axis.{Axis}
use Rattle.solid_model.specs.declared.cell.Axis.TheVariants.{X, Y, Z}
use Rattle.solid_model.specs.declared.cell.Cell.{Cell}
use Rattle.solid_model.specs.Cells.{coordinate}
use Rattle.solid_model.specs.Faces.{FaceParts, AreFacesOf}
use Rattle.solid_model.specs.Grid.{Coordinates, is_in_gap, IsInSomeGap, gaps_along, IsUnionOf}
use Rattle.face_laws.specs.GridFaces.{LiesInNumbered, AreCellsOf, face_in_space, coordinate_from, planes_at, grid_planes, numbered_fullness}
use Rattle.face_laws.specs.GridRounds.{Rises}
use Rattle.lemmas.specs.Lists.{Member, Ascends}
use Rattle.solid_model.specs.WalledBoxes.{is_below, is_within, box_place, place_of_number}
use Rattle.solid_model.specs.GridBox.{grid_cell_of}
use Rattle.solid_model.proofs.BoxCells.{below-bounds, bounds-below, within-below, outside-below}
use Rattle.face_laws.proofs.GridFaces.{faces_are_in_space}
use Rattle.face_laws.proofs.GridLines.{LiesBetween}
use Rattle.solid_model.proofs.UnionDrawing.{none_before_first}
use Rattle.solid_model.proofs.Unions.{cells_over, member-cells_over, range_from, member-range_from}

-- ---- the planes of a list

from_rises : (z : ℤ) (zs : List ℤ) → Ascends ◌<ℤ◌ (z ∷ zs) → (n : ℕ) → coordinate_from z zs n <ℤ coordinate_from z zs (suc n)
from_rises z [] ascends zero = omega (arith, ints)
from_rises z [] ascends (suc n) = from_rises (z +ℤ pos 1) [] (tt, tt) n
from_rises z (w ∷ zs) ascends zero = ascends.0.0
from_rises z (w ∷ zs) ascends (suc n) = from_rises w zs ascends.1 n

-- each lies beyond the one before it
pub planes_rise : (zs : List ℤ) → Ascends ◌<ℤ◌ zs → Rises (planes_at zs)
planes_rise [] ascends i = omega (arith, ints)
planes_rise (z ∷ zs) ascends (pos n) =
    let e : pos (suc n) ≡ pos n +ℤ pos 1 = omega (arith, ints) in
    subst (λ k. coordinate_from z zs n <ℤ planes_at (z ∷ zs) k) e (from_rises z zs ascends n)
planes_rise (z ∷ zs) ascends (negsuc zero) =
    let e : pos 0 ≡ negsuc 0 +ℤ pos 1 = omega (arith, ints) in
    subst (λ k. (z -ℤ pos 1) <ℤ planes_at (z ∷ zs) k) e (omega (arith, ints))
planes_rise (z ∷ zs) ascends (negsuc (suc n)) =
    let e : negsuc n ≡ negsuc (suc n) +ℤ pos 1 = omega (arith, ints) in
    subst (λ k. (z -ℤ pos (suc (suc n))) <ℤ planes_at (z ∷ zs) k) e (omega (arith, ints))

-- ---- gaps, by their numbers

-- a place lies in the gap of this number, which is one of the list's, or in no gap, and the number is none of them
abbrev IsNumberOf : List ℤ → ℤ → ℤ → Type 0
IsNumberOf zs k x = (IsTrue (is_below (length zs - 1) k) × IsTrue (is_in_gap zs (place_of_number k) x))
    ⊎ ((is_below (length zs - 1) k ≡ false) × (IsInSomeGap zs x → ⊥))

from_least : (z : ℤ) (zs : List ℤ) → Ascends ◌<ℤ◌ (z ∷ zs) → (n : ℕ) → z ≤ℤ coordinate_from z zs n
from_least z zs ascends zero = omega (arith, ints)
from_least z zs ascends (suc n) = let l = from_least z zs ascends n in let r = from_rises z zs ascends n in omega
    (arith, ints, l, r)

number_from : (z : ℤ) (zs : List ℤ) → Ascends ◌<ℤ◌ (z ∷ zs) → (n : ℕ) (x : ℤ) → coordinate_from z zs n ≤ℤ x
    → x <ℤ coordinate_from z zs (suc n)
    → ((suc n < length (z ∷ zs)) × IsTrue (is_in_gap (z ∷ zs) n x)) ⊎ ((length (z ∷ zs) ≤ suc n) × (IsInSomeGap (z ∷ zs) x → ⊥))
number_from z [] ascends n x low high = inr (omega arith, λ gap. false≢true gap.1)
number_from z (w ∷ zs) ascends zero x low high = inl
    (omega arith, and_from (int_le z x) (int_lt x w) (grind (arith, ints)) (grind (arith, ints)))
number_from z (w ∷ zs) ascends (suc n) x low high =
    let least = from_least w zs ascends.1 n in
    elim (number_from w zs ascends.1 n x low high) as
    (λ _. ((suc (suc n) < length (z ∷ w ∷ zs)) × IsTrue (is_in_gap (z ∷ w ∷ zs) (suc n) x)) ⊎
    ((length (z ∷ w ∷ zs) ≤ suc (suc n)) × (IsInSomeGap (z ∷ w ∷ zs) x → ⊥))) [
      | inl there ↦ inl (omega (arith, there.0), there.1)
      | inr none ↦ inr (omega (arith, none.0), λ gap. past z w zs x (omega (arith, ints, least, low)) none.1 gap.0 gap.1)
    ]
  where
    past : (a b : ℤ) (cs : List ℤ) (y : ℤ) → b ≤ℤ y → (IsInSomeGap (b ∷ cs) y → ⊥) → (m : ℕ)
        → IsTrue (is_in_gap (a ∷ b ∷ cs) m y) → ⊥
    past a b cs y l none zero e = let parts = and_parts (int_le a y) (int_lt y b) e in omega (arith, ints, parts.1)
    past a b cs y l none (suc m) e = none (m, e)

not_below : (size : ℕ) (k : ℤ) → (k <ℤ pos 0) ⊎ (pos size ≤ℤ k) → is_below size k ≡ false
not_below size k off = false_from_ne_true (is_below size k) (λ e. let b = below-bounds size k e in
    elim off as (λ _. ⊥) [ inl l ↦ omega (arith, ints, b.0, l) | inr l ↦ omega (arith, ints, b.1, l) ])

-- what lies between two planes lies in the gap of their number
number_of : (zs : List ℤ) → Ascends ◌<ℤ◌ zs → (k x : ℤ) → LiesBetween (planes_at zs) k x → IsNumberOf zs k x
number_of [] ascends k x at = inr (not_below 0 k (by k), λ gap. false≢true gap.1)
  where
    by : (i : ℤ) → (i <ℤ pos 0) ⊎ (pos 0 ≤ℤ i)
    by (pos i) = inr (omega (arith, ints))
    by (negsuc i) = inl (omega (arith, ints))
number_of (z ∷ zs) ascends (pos n) x at =
    let e : pos n +ℤ pos 1 ≡ pos (suc n) = omega (arith, ints) in
    let high : x <ℤ coordinate_from z zs (suc n) = subst (λ k. x <ℤ planes_at (z ∷ zs) k) e at.high in
    elim (number_from z zs ascends n x at.low high) as (λ _. IsNumberOf (z ∷ zs) (pos n) x) [
      | inl there ↦ inl (
        bounds-below (length (z ∷ zs) - 1) (pos n) (omega (arith, ints))
            (let l = there.0 in omega (arith, ints)),
        there.1,
      )
      | inr none ↦ inr (not_below (length (z ∷ zs) - 1) (pos n) (inr (let l = none.0 in omega (arith, ints))), none.1)
    ]
number_of (z ∷ zs) ascends (negsuc n) x at =
    inr (
      not_below (length (z ∷ zs) - 1) (negsuc n) (inl (omega (arith, ints))),
      λ gap. none_before_first z zs ascends gap.0 x
          (before n at.high) gap.1,
    )
  where
    before : (m : ℕ) → x <ℤ planes_at (z ∷ zs) (negsuc m +ℤ pos 1) → x <ℤ z
    before zero l = let e : negsuc 0 +ℤ pos 1 ≡ pos 0 = omega (arith, ints) in subst (λ k. x <ℤ planes_at (z ∷ zs) k) e l
    before (suc m) l =
        let e : negsuc (suc m) +ℤ pos 1 ≡ negsuc m = omega (arith, ints) in
        let h : x <ℤ (z -ℤ pos (suc m)) = subst (λ k. x <ℤ planes_at (z ∷ zs) k) e l in omega (arith, ints, h)

-- ---- unions

module _ (coordinates : Coordinates) (ascends : (a : Axis) → Ascends ◌<ℤ◌ (coordinates a)) (chosen : List Bool)
    (full : Cell → Bool)
    (union : IsUnionOf coordinates chosen full) where
  number_along : (n c : Cell) → LiesInNumbered (grid_planes coordinates) n c → (a : Axis)
      → IsNumberOf (coordinates a) (coordinate a n) (coordinate a c)
  number_along n c lies a = number_of (coordinates a) (ascends a) (coordinate a n) (coordinate a c)
      (record { low = (lies a).0; high = (lies a).1 })

  -- the unit cells of a union are those of its grid cells, by their numbers
  pub union_cells : AreCellsOf (grid_planes coordinates) (numbered_fullness coordinates chosen) full
  union_cells n c lies = by (is_within (gaps_along coordinates) n) refl
    where
      in_gap : is_within (gaps_along coordinates) n ≡ true → (a : Axis)
          → IsTrue (is_in_gap (coordinates a) (place_of_number (coordinate a n)) (coordinate a c))
      in_gap within a = elim (number_along n c lies a) as
          (λ _. IsTrue (is_in_gap (coordinates a) (place_of_number (coordinate a n)) (coordinate a c))) [
            | inl there ↦ there.1
            | inr none ↦ absurd (both_ways (is_below (gaps_along coordinates a) (coordinate a n)) none.0
                (within-below (gaps_along coordinates) n within a))
          ]

      in_none : (a : Axis) → is_below (gaps_along coordinates a) (coordinate a n) ≡ false
          → IsInSomeGap (coordinates a) (coordinate a c) → ⊥
      in_none a out gap = elim (number_along n c lies a) as (λ _. ⊥) [
        | inl there ↦ both_ways (is_below (gaps_along coordinates a) (coordinate a n)) out there.0
        | inr none ↦ none.1 gap
      ]

      by : (b : Bool) → is_within (gaps_along coordinates) n ≡ b
          → full c ≡ (is_within (gaps_along coordinates) n && slice_index_or chosen (box_place (gaps_along coordinates) n) false)
      by true e = union.inside (grid_cell_of n) c (in_gap e)
          ∙ sym (ap (λ (b : Bool). b && slice_index_or chosen (box_place (gaps_along coordinates) n) false) e)
      by false e = (let (a, out) = outside-below (gaps_along coordinates) n e in union.outside c
          (λ inside. in_none a out (inside a)))
          ∙ sym (ap (λ (b : Bool). b && slice_index_or chosen (box_place (gaps_along coordinates) n) false) e)

  -- the cells of the box
  box_cells : List Cell
  box_cells = cells_over (range_from (pos 0) (gaps_along coordinates X)) (range_from (pos 0) (gaps_along coordinates Y))
      (range_from (pos 0) (gaps_along coordinates Z))

  in_box : (n : Cell) → IsTrue (numbered_fullness coordinates chosen n) → Member box_cells n
  unfolding box_cells
  in_box n is =
      let within = (and_parts (is_within (gaps_along coordinates) n)
      (slice_index_or chosen (box_place (gaps_along coordinates) n) false) is).0 in
      member-cells_over (range_from (pos 0) (gaps_along coordinates X)) (range_from (pos 0) (gaps_along coordinates Y))
      (range_from (pos 0) (gaps_along coordinates Z)) n
      (along X (within-below (gaps_along coordinates) n within X)) (along Y (within-below (gaps_along coordinates) n within Y))
      (along Z (within-below (gaps_along coordinates) n within Z))
    where
      along : (a : Axis) → is_below (gaps_along coordinates a) (coordinate a n) ≡ true
          → Member (range_from (pos 0) (gaps_along coordinates a)) (coordinate a n)
      along a below = let b = below-bounds (gaps_along coordinates a) (coordinate a n) below in
          member-range_from (gaps_along coordinates a) (pos 0) (coordinate a n) b.0 (let l = b.1 in omega (arith, ints))

  -- The faces of a union are those of the solid of numbers, as they stand in space.
  pub union_faces : (fs : List FaceParts) → AreFacesOf (numbered_fullness coordinates chosen) fs
      → AreFacesOf full (map (face_in_space (grid_planes coordinates)) fs)
  union_faces = faces_are_in_space (grid_planes coordinates) (λ a. planes_rise (coordinates a) (ascends a))
      (numbered_fullness coordinates chosen) full union_cells box_cells in_box
