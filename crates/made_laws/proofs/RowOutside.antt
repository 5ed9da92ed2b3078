-- What lies in no cube along all axes is outside: in a view that shows two axes along which it isn't in one cube, nothing is
-- drawn beside its square but towards the diagonal, so each face of the column over the square leads out the other way.
use Rattle.std.proofs.Common.{◌≡◌, ◌⊎◌, ⊎_elim, inl, inr, Bool, true, false, not, ◌&&◌, ◌||◌, ℕ, ◌+◌, List, None, ℤ, pos, ◌+ℤ◌, ◌-ℤ◌, ◌≤ℤ◌, ◌<ℤ◌, refl, ap, sym, subst, ◌∙◌, arith}
use Rattle.std.proofs.lemmas.Bool.{both_ways, and_parts}
use Rattle.std.proofs.lemmas.Int.{ints, by_lt_z}
use Rattle.solid_model.specs.declared.cell.Axis.{Axis}
use Rattle.solid_model.specs.declared.cell.Axis.TheVariants.{X, Y, Z}
use Rattle.solid_model.specs.declared.cell.Cell.{Cell}
use Rattle.solid_model.specs.declared.frame.View.{View}
use Rattle.solid_model.specs.declared.frame.View.TheVariants.{Front, Top, Side}
use Rattle.solid_model.specs.Blocks.{IsOutside}
use Rattle.solid_model.specs.Cells.{coordinate, placed, cell_before, cell_after}
use Rattle.solid_model.specs.DrawnStyle.{solid_drawing}
use Rattle.solid_model.specs.Frames.{frame_of}
use Rattle.solid_model.specs.Panels.{GridParts, coordinates_of, IsGridOf}
use Rattle.solid_model.specs.WalledBoxes.{same_axis, face_sizes, LeadsOut}
use Rattle.solid_model.specs.Runs.{IsDrawing}
use Rattle.solid_model.specs.VirtualFaces.{Bars, IsVirtual}
use Rattle.solid_model.specs.Wire.{is_drawn_view, is_drawn_from, is_pseudo_vertex, is_drawn_or_point, is_pseudo_edge}
use Rattle.solid_model.specs.GridBox.{grid_sizes, axis_along, axis_across}
use Rattle.solid_model.proofs.InGrid.{before_after}
use Rattle.drawing_maker.specs.declared.cube.Cube.{Cube}
use Rattle.drawing_maker.specs.Cubes.{cube_side, row_cells}
use Rattle.drawing_maker.specs.Rows.{row_ticks, coordinates_of_ticks}
use Rattle.made_laws.proofs.BoxLines.{some_greater, out_down, out_up}
use Rattle.drawing_maker.proofs.Rows.{IsRow}
use Rattle.drawing_maker.proofs.RowTicks.{part_at}
use Rattle.made_laws.proofs.RowGrid.{row_drawn, undrawn}
use Rattle.made_laws.proofs.RowPlaces.{first_place}
use Rattle.made_laws.proofs.RowCubelets.{Covers, covered_or_none, one_covers, IsOff, Apart, in_or_off, full_at, full_off}

-- ---- edges that aren't drawn

own_name : (a : Axis) → same_axis a a ≡ true
own_name X = refl
own_name Y = refl
own_name Z = refl

module _ (g : GridParts) (shown : (v : View) → is_drawn_view g v ≡ true) where
  shown_in : (a : Axis) (n : Cell) → is_pseudo_edge g a n ≡ true → (v : View) → is_drawn_or_point g a n v ≡ true
  shown_in a n e v = by v
    where
      outer : (is_drawn_or_point g a n Front && (is_drawn_or_point g a n Top && is_drawn_or_point g a n Side)) ≡ true
      outer = (and_parts _ (is_pseudo_vertex g n && is_pseudo_vertex g (cell_after a n)) e).0

      inner : (is_drawn_or_point g a n Front ≡ true) × ((is_drawn_or_point g a n Top && is_drawn_or_point g a n Side) ≡ true)
      inner = and_parts (is_drawn_or_point g a n Front) _ outer

      by : (w : View) → is_drawn_or_point g a n w ≡ true
      by Front = inner.0
      by Top = (and_parts (is_drawn_or_point g a n Top) (is_drawn_or_point g a n Side) inner.1).0
      by Side = (and_parts (is_drawn_or_point g a n Top) (is_drawn_or_point g a n Side) inner.1).1

  -- a pseudo edge is drawn in a view that shows it as a segment
  pseudo_drawn : (v : View) (upright : Bool) (n : Cell) → is_pseudo_edge g (axis_along v upright) n ≡ true → is_drawn_from g v upright n ≡ true
  pseudo_drawn v upright n e = by upright (and_parts (is_off false) (is_off true) (sym (ap (λ b. not b || (is_off false && is_off true)) (shown v)) ∙ shown_in a n e v)) refl
    where
      a : Axis
      a = axis_along v upright

      is_off : Bool → Bool
      is_off w = not (same_axis (axis_along v w) a) || is_drawn_from g v w n

      own : (w : Bool) → axis_along v w ≡ a → is_off w ≡ true → is_drawn_from g v w n ≡ true
      own w same h = sym (ap (λ b. not b || is_drawn_from g v w n) (ap (λ x. same_axis x a) same ∙ own_name a)) ∙ h

      by : (w : Bool) → (is_off false ≡ true) × (is_off true ≡ true) → axis_along v w ≡ a → is_drawn_from g v w n ≡ true
      by true h same = own true same h.1
      by false h same = own false same h.0

  -- one that isn't bars no step from face to face, in the plane across the view's sight or in the one along it
  pub unbarred_across : (v : View) (upright : Bool) (n : Cell) → is_drawn_from g v upright n ≡ false
      → Bars g (frame_of v).away.axis (axis_across v upright) n → ⊥
  unbarred_across Front true n none h = both_ways _ none (pseudo_drawn Front true n h)
  unbarred_across Front false n none h = both_ways _ none (pseudo_drawn Front false n h)
  unbarred_across Top true n none h = both_ways _ none (pseudo_drawn Top true n h)
  unbarred_across Top false n none h = both_ways _ none (pseudo_drawn Top false n h)
  unbarred_across Side true n none h = both_ways _ none (pseudo_drawn Side true n h)
  unbarred_across Side false n none h = both_ways _ none (pseudo_drawn Side false n h)

  pub unbarred_away : (v : View) (upright : Bool) (n : Cell) → is_drawn_from g v upright n ≡ false
      → Bars g (axis_across v upright) (frame_of v).away.axis n → ⊥
  unbarred_away Front true n none h = both_ways _ none (pseudo_drawn Front true n h)
  unbarred_away Front false n none h = both_ways _ none (pseudo_drawn Front false n h)
  unbarred_away Top true n none h = both_ways _ none (pseudo_drawn Top true n h)
  unbarred_away Top false n none h = both_ways _ none (pseudo_drawn Top false n h)
  unbarred_away Side true n none h = both_ways _ none (pseudo_drawn Side true n h)
  unbarred_away Side false n none h = both_ways _ none (pseudo_drawn Side false n h)

-- ---- columns over squares

-- what depends on the numbers of a cell along two axes of a view
abbrev pub OfSquare : (ℤ → ℤ → Type 0) → View → Bool → Cell → Type 0
OfSquare Q v upright n = Q (coordinate (axis_along v upright) n) (coordinate (axis_across v upright) n)

module _ (Q : ℤ → ℤ → Type 0) where
  -- stays along the view's sight
  pub kept_away : (v : View) (upright : Bool) (k : ℤ) (n : Cell) → OfSquare Q v upright n → OfSquare Q v upright (placed (frame_of v).away.axis k n)
  kept_away Front true k n h = h
  kept_away Front false k n h = h
  kept_away Top true k n h = h
  kept_away Top false k n h = h
  kept_away Side true k n h = h
  kept_away Side false k n h = h

  -- and across it only the second number is another
  pub moved_across : (v : View) (upright : Bool) (k : ℤ) (n : Cell) → Q (coordinate (axis_along v upright) n) k → OfSquare Q v upright (placed (axis_across v upright) k n)
  moved_across Front true k n h = h
  moved_across Front false k n h = h
  moved_across Top true k n h = h
  moved_across Top false k n h = h
  moved_across Side true k n h = h
  moved_across Side false k n h = h

module _ (ps : List Cube) (row : IsRow ps) where
  -- over a square that lies in no cube nothing is full
  empty_apart : (v : View) (upright : Bool) (n : Cell) → OfSquare (Apart ps row) v upright n → full_at ps row n ≡ false
  empty_apart v upright n apart = ⊎_elim (λ at. absurd (apart at.0 (at.1 (axis_along v upright)) (at.1 (axis_across v upright)))) (full_off ps row n) (in_or_off ps row n)

  -- numbers before a cube, or behind it, aren't in a cube with one of its own
  apart_before : (p : Cube) (z w : ℤ) → Covers ps row p z → w <ℤ pos (first_place ps p) → Apart ps row z w
  apart_before p z w at l q k m =
      let own = subst (λ r. Covers ps row r w) (one_covers ps row q p z k at) m in let f = own.from in omega (arith, ints, f)

  apart_behind : (p : Cube) (z w : ℤ) → Covers ps row p z → pos (first_place ps p + cube_side p.kind) ≤ℤ w → Apart ps row z w
  apart_behind p z w at l q k m =
      let own = subst (λ r. Covers ps row r w) (one_covers ps row q p z k at) m in let f = own.to in omega (arith, ints, f)

  module _ (g : GridParts) (same : (a : Axis) → coordinates_of g a ≡ coordinates_of_ticks (row_ticks ps))
      (grid : IsGridOf (solid_drawing (row_cells ps)) g) (is : IsDrawing (solid_drawing (row_cells ps))) where
    -- between two squares that lie in no cube nothing is drawn
    unbarred_apart : (v : View) (upright : Bool) (n : Cell) → OfSquare (Apart ps row) v upright n
        → OfSquare (Apart ps row) v upright (cell_before (axis_across v upright) n) → Bars g (frame_of v).away.axis (axis_across v upright) n → ⊥
    unbarred_apart v upright n here before = unbarred_across g (row_drawn ps row g same grid is) v upright n (undrawn ps row g same grid is v upright n (λ k.
        empty_apart v upright _ (kept_away (Apart ps row) v upright k n here)
        ∙ sym (empty_apart v upright _ (kept_away (Apart ps row) v upright k (cell_before (axis_across v upright) n) before))))

    -- A face over such a square leads out in its plane, across the sight: down where all squares down from it are such,
    face_out_down : (v : View) (upright : Bool) (Q : ℤ → ℤ → Type 0) → ((z w : ℤ) → Q z w → Apart ps row z w) → ((z w : ℤ) → Q z w → Q z (w -ℤ pos 1))
        → (n : Cell) → OfSquare Q v upright n → LeadsOut (face_sizes (grid_sizes g) (frame_of v).away.axis) (Bars g (frame_of v).away.axis) n
    face_out_down v upright Q apart down n h =
        let kept : (m : Cell) → OfSquare Q v upright m → OfSquare Q v upright (cell_before (axis_across v upright) m) =
        λ m at. moved_across Q v upright _ m (down _ _ at) in
        let k = some_greater (coordinate (axis_across v upright) n) in
        out_down (face_sizes (grid_sizes g) (frame_of v).away.axis) (Bars g (frame_of v).away.axis) (axis_across v upright) (OfSquare Q v upright)
        (λ m at. unbarred_apart v upright m (apart _ _ at) (apart _ _ (kept m at))) kept k.0 n k.1 h

    -- and up where all squares up from it are
    face_out_up : (v : View) (upright : Bool) (Q : ℤ → ℤ → Type 0) → ((z w : ℤ) → Q z w → Apart ps row z w) → ((z w : ℤ) → Q z w → Q z (w +ℤ pos 1))
        → (n : Cell) → pos 0 ≤ℤ coordinate (axis_across v upright) n
        → OfSquare Q v upright n → LeadsOut (face_sizes (grid_sizes g) (frame_of v).away.axis) (Bars g (frame_of v).away.axis) n
    face_out_up v upright Q apart up n from h =
        let kept : (m : Cell) → OfSquare Q v upright m → OfSquare Q v upright (cell_after (axis_across v upright) m) =
        λ m at. moved_across Q v upright _ m (up _ _ at) in
        out_up sizes (Bars g (frame_of v).away.axis) (axis_across v upright) (OfSquare Q v upright)
        (λ m at. unbarred_apart v upright (cell_after (axis_across v upright) m) (apart _ _ (kept m at))
        (subst (OfSquare (Apart ps row) v upright) (sym (before_after (axis_across v upright) m)) (apart _ _ at)))
        kept (sizes (axis_across v upright)) n (omega (arith, ints, from)) h
      where
        sizes : Axis → ℕ
        sizes = face_sizes (grid_sizes g) (frame_of v).away.axis

    -- One of the two is so: the cube along the first axis, if there is one, lies before the second number or behind it.
    face_out : (v : View) (upright : Bool) (n : Cell) → OfSquare (Apart ps row) v upright n
        → LeadsOut (face_sizes (grid_sizes g) (frame_of v).away.axis) (Bars g (frame_of v).away.axis) n
    face_out v upright n apart = by (covered_or_none ps row (coordinate (axis_along v upright) n))
      where
        z : ℤ
        z = coordinate (axis_along v upright) n

        w : ℤ
        w = coordinate (axis_across v upright) n

        by : ((p : Cube) × Covers ps row p z) ⊎ ((part_at ps z ≡ None) × ((p : Cube) → Covers ps row p z → ⊥))
            → LeadsOut (face_sizes (grid_sizes g) (frame_of v).away.axis) (Bars g (frame_of v).away.axis) n
        by (inr none) = face_out_down v upright (λ x y. (p : Cube) → Covers ps row p x → ⊥) (λ x y h p at too. h p at) (λ x y h. h) n none.1
        by (inl (p, at)) = by_lt_z w (pos (first_place ps p))
            (λ before. face_out_down v upright (λ x y. Covers ps row p x × (y <ℤ pos (first_place ps p)))
            (λ x y h. apart_before p x y h.0 h.1) (λ x y h. (h.0, omega (arith, ints, h.1))) n (at, before))
            (λ from. by_lt_z w (pos (first_place ps p + cube_side p.kind))
            (λ to. absurd (apart p at (record { member = at.member; from = from; to = to })))
            (λ behind. face_out_up v upright (λ x y. Covers ps row p x × (pos (first_place ps p + cube_side p.kind) ≤ℤ y))
            (λ x y h. apart_behind p x y h.0 h.1) (λ x y h. (h.0, omega (arith, ints, h.1))) n (omega (arith, ints)) (at, behind)))

    -- so down the column over the square no face is virtual
    column_out : (v : View) (upright : Bool) (n : Cell) → OfSquare (Apart ps row) v upright n → IsOutside g n
    column_out v upright n apart =
        let k = some_greater (coordinate (frame_of v).away.axis n) in
        out_down (grid_sizes g) (IsVirtual g) (frame_of v).away.axis (OfSquare (Apart ps row) v upright)
        (λ m at virtual. virtual.1 (face_out v upright m at)) (λ m at. kept_away (Apart ps row) v upright _ m at) k.0 n k.1 apart

    pub off_is_outside : (n : Cell) → IsOff ps row n → IsOutside g n
    off_is_outside n (inl apart) = column_out Top false n apart
    off_is_outside n (inr apart) = column_out Side false n apart
