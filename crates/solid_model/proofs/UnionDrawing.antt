-- The drawing of a union of grid cells stays on the grid.
use Rattle.std.proofs.Common.{◌≡◌, ◌⊎◌, inl, inr, ⊎_elim, ◌↔◌, Bool, true, false, ℕ, zero, suc, List, [], ◌∷◌, ℤ, pos, ◌-ℤ◌, ◌≤ℤ◌, ◌<ℤ◌, int_lt, int_le, IsTrue, refl, ap, sym, subst, ◌∙◌, arith}
use Rattle.std.proofs.lemmas.Bool.{false≢true, and_parts, and_from}
use Rattle.std.proofs.lemmas.Int.{ints, by_lt_z}
use Rattle.solid_model.specs.declared.cell.Axis.{Axis}
use Rattle.solid_model.specs.declared.cell.Axis.TheVariants.{X, Y, Z}
use Rattle.solid_model.specs.declared.cell.Cell.{Cell}
use Rattle.solid_model.specs.declared.frame.View.{View}
use Rattle.solid_model.specs.declared.segment.Style.TheVariants.{Blank}
use Rattle.solid_model.specs.Cells.{coordinate, is_full}
use Rattle.solid_model.specs.Columns.{cell_in}
use Rattle.solid_model.specs.DrawnStyle.{solid_drawing}
use Rattle.solid_model.specs.Frames.{frame_of, along, across, cell_on}
use Rattle.solid_model.specs.Grid.{Coordinates, GridCell, is_in_gap, IsInSomeGap, LiesInGridCell, LiesInGrid, IsUnionOf}
use Rattle.lemmas.specs.Lists.{Member, Ascends}
use Rattle.solid_model.proofs.OnGrid.{StaysOnGrid}
use Rattle.solid_model.specs.Segments.{segment_at}
use Rattle.solid_model.proofs.ColumnRule.{equal_columns}
use Rattle.solid_model.proofs.InGrid.{between_members, gap_or_none}
use Rattle.lemmas.proofs.Lists.{each-at}
use Rattle.solid_model.proofs.Styles.{one_style, same_columns, drawn_style_drawn}
use Rattle.solid_model.proofs.Views.{across_along, views_are_frames, each_axis, coordinates_at, runs_forward, stands_forward, forward_cell}

-- ---- places in the same gaps

-- two places lie in the same gaps of a list
abbrev pub LieInSameGaps : List ℤ → ℤ → ℤ → Type 0
LieInSameGaps zs y z = (n : ℕ) → IsTrue (is_in_gap zs n y) ↔ IsTrue (is_in_gap zs n z)

-- each coordinate lies in the gaps in which it lies
pub same_gaps-itself : (zs : List ℤ) (z : ℤ) → LieInSameGaps zs z z
same_gaps-itself zs z n = (λ e. e, λ e. e)

same_gaps-like : (zs : List ℤ) (y z w x : ℤ) → y ≡ w → z ≡ x → LieInSameGaps zs w x → LieInSameGaps zs y z
same_gaps-like zs y z w x p q same = subst (λ u. LieInSameGaps zs y u) (sym q) (subst (λ u. LieInSameGaps zs u x) (sym p) same)

-- a place that is no member lies in the same gaps as the one before it
pub same_gaps_before : (zs : List ℤ) (z : ℤ) → (Member zs z → ⊥) → LieInSameGaps zs (z -ℤ pos 1) z
same_gaps_before [] z none n = (λ e. e, λ e. e)
same_gaps_before (a ∷ []) z none n = (λ e. e, λ e. e)
same_gaps_before (a ∷ b ∷ zs) z none zero = (
  (λ e. let parts = and_parts (int_le a (z -ℤ pos 1)) (int_lt (z -ℤ pos 1) b) e in
      and_from (int_le a z) (int_lt z b) (let p : a ≤ℤ z = omega (arith, ints, parts.0) in grind (arith, ints))
      (let p : z <ℤ b = below z b (λ same. none (inr (inl (sym same)))) (omega (arith, ints, parts.1)) in grind (arith, ints))),
  (λ e. let parts = and_parts (int_le a z) (int_lt z b) e in
      and_from (int_le a (z -ℤ pos 1)) (int_lt (z -ℤ pos 1) b)
      (let p : a <ℤ z = below a z (λ same. none (inl same)) (omega (arith, ints, parts.0)) in grind (arith, ints))
      (let p : (z -ℤ pos 1) <ℤ b = omega (arith, ints, parts.1) in grind (arith, ints))),
)
  where
    below : (x y : ℤ) → (x ≡ y → ⊥) → x ≤ℤ y → x <ℤ y
    below x y differ l = by_lt_z x y (λ m. m) (λ m. absurd (differ (omega (arith, ints))))
same_gaps_before (a ∷ b ∷ zs) z none (suc n) = same_gaps_before (b ∷ zs) z (λ k. none (inr k)) n

-- what lies before the first member lies in no gap
pub none_before_first : (b : ℤ) (zs : List ℤ) → Ascends ◌<ℤ◌ (b ∷ zs) → (n : ℕ) (z : ℤ) → z <ℤ b → IsTrue (is_in_gap (b ∷ zs) n z) → ⊥
none_before_first b zs ascends n z l e = ⊎_elim {C = ⊥} (λ same. omega (arith, ints, low.2)) (λ later. let m = each-at (λ w. b <ℤ w) zs low.0 ascends.0 later in omega (arith, ints, low.2)) low.1
  where
    low : (w : ℤ) × Member (b ∷ zs) w × (w ≤ℤ z)
    low = (between_members (b ∷ zs) n z e).0

-- a place lies in one gap of an ascending list
pub one_gap : (zs : List ℤ) → Ascends ◌<ℤ◌ zs → (n m : ℕ) (z : ℤ) → IsTrue (is_in_gap zs n z) → IsTrue (is_in_gap zs m z) → n ≡ m
one_gap [] ascends n m z e h = absurd (false≢true e)
one_gap (a ∷ []) ascends n m z e h = absurd (false≢true e)
one_gap (a ∷ b ∷ zs) ascends zero zero z e h = refl
one_gap (a ∷ b ∷ zs) ascends zero (suc m) z e h = absurd (none_before_first b zs ascends.1 m z (let parts = and_parts (int_le a z) (int_lt z b) e in omega (arith, ints, parts.1)) h)
one_gap (a ∷ b ∷ zs) ascends (suc n) zero z e h = absurd (none_before_first b zs ascends.1 n z (let parts = and_parts (int_le a z) (int_lt z b) h in omega (arith, ints, parts.1)) e)
one_gap (a ∷ b ∷ zs) ascends (suc n) (suc m) z e h = ap suc (one_gap (b ∷ zs) ascends.1 n m z e h)

-- places in one gap lie in the same gaps
same_gaps_in_gap : (zs : List ℤ) → Ascends ◌<ℤ◌ zs → (n : ℕ) (y z : ℤ) → IsTrue (is_in_gap zs n y) → IsTrue (is_in_gap zs n z) → LieInSameGaps zs y z
same_gaps_in_gap zs ascends n y z at_y at_z m = (
  (λ e. subst (λ l. IsTrue (is_in_gap zs l z)) (one_gap zs ascends n m y at_y e) at_z),
  (λ e. subst (λ l. IsTrue (is_in_gap zs l y)) (one_gap zs ascends n m z at_z e) at_y),
)

-- ---- cells of a union

-- a grid cell by its three numbers
abbrev pub numbered : ℕ → ℕ → ℕ → GridCell
numbered i j k X = i
numbered i j k Y = j
numbered i j k Z = k

module _ (coordinates : Coordinates) (ascends : (a : Axis) → Ascends ◌<ℤ◌ (coordinates a)) where
  -- a cell lies in a grid cell, or outside all of them
  pub in_grid_or_not : (c : Cell) → ((n : GridCell) × LiesInGridCell coordinates n c) ⊎ (LiesInGrid coordinates c → ⊥)
  in_grid_or_not c = by (gap_or_none (coordinates X) (ascends X) c.x) (gap_or_none (coordinates Y) (ascends Y) c.y) (gap_or_none (coordinates Z) (ascends Z) c.z)
    where
      in_all : (p : IsInSomeGap (coordinates X) c.x) (q : IsInSomeGap (coordinates Y) c.y) (r : IsInSomeGap (coordinates Z) c.z) → LiesInGridCell coordinates (numbered p.0 q.0 r.0) c
      in_all p q r X = p.1
      in_all p q r Y = q.1
      in_all p q r Z = r.1

      by : IsInSomeGap (coordinates X) c.x ⊎ (IsInSomeGap (coordinates X) c.x → ⊥) → IsInSomeGap (coordinates Y) c.y ⊎ (IsInSomeGap (coordinates Y) c.y → ⊥)
          → IsInSomeGap (coordinates Z) c.z ⊎ (IsInSomeGap (coordinates Z) c.z → ⊥) → ((n : GridCell) × LiesInGridCell coordinates n c) ⊎ (LiesInGrid coordinates c → ⊥)
      by (inl p) (inl q) (inl r) = inl (numbered p.0 q.0 r.0, in_all p q r)
      by (inr none) q r = inr (λ lies. none (lies X))
      by (inl p) (inr none) r = inr (λ lies. none (lies Y))
      by (inl p) (inl q) (inr none) = inr (λ lies. none (lies Z))

  module _ (chosen : List Bool) (full : Cell → Bool) (union : IsUnionOf coordinates chosen full) where
    -- cells in the same gaps along each axis agree
    pub agree_in_same_gaps : (c d : Cell) → ((a : Axis) → LieInSameGaps (coordinates a) (coordinate a c) (coordinate a d)) → full c ≡ full d
    agree_in_same_gaps c d same = ⊎_elim
        (λ at. union.inside at.0 c at.1 ∙ sym (union.inside at.0 d (λ a. (same a (at.0 a)).0 (at.1 a))))
        (λ none. union.outside c none ∙ sym (union.outside d (λ lies. none (λ a. let gap = lies a in (gap.0, (same a gap.0).1 gap.1)))))
        (in_grid_or_not c)

    -- cells of a view at places in the same gaps agree
    agree_at_places : (v : View) (upright : Bool) (i m j l k : ℤ) → LieInSameGaps (coordinates (along (frame_of v) upright).axis) i m
        → LieInSameGaps (coordinates (across (frame_of v) upright).axis) j l → full (cell_in (frame_of v) upright i j k) ≡ full (cell_in (frame_of v) upright m l k)
    agree_at_places v upright i m j l k same_along same_across =
        let f = frame_of v in
        let three = across_along f (views_are_frames v) upright in
        let at = coordinates_at (cell_on (along f upright) i) (cell_on (across f upright) j) (cell_on f.away k) _ _ _ three in
        let to = coordinates_at (cell_on (along f upright) m) (cell_on (across f upright) l) (cell_on f.away k) _ _ _ three in
        agree_in_same_gaps (cell_in f upright i j k) (cell_in f upright m l k)
        (each_axis (λ a. LieInSameGaps (coordinates a) (coordinate a (cell_in f upright i j k)) (coordinate a (cell_in f upright m l k)))
        (along f upright).axis (across f upright).axis f.away.axis three
        (same_gaps-like (coordinates (along f upright).axis) _ _ i m (at.first ∙ forward_cell (along f upright) i (runs_forward v upright)) (to.first ∙ forward_cell (along f upright) m (runs_forward v upright)) same_along)
        (same_gaps-like (coordinates (across f upright).axis) _ _ j l (at.second ∙ forward_cell (across f upright) j (stands_forward v upright)) (to.second ∙ forward_cell (across f upright) l (stands_forward v upright)) same_across)
        (same_gaps-like (coordinates f.away.axis) _ _ (cell_on f.away k) (cell_on f.away k) at.third to.third (same_gaps-itself (coordinates f.away.axis) (cell_on f.away k))))

    -- a cell at a place along a view's segments that lies in no gap is empty
    empty_past_ends : (v : View) (upright : Bool) (i j k : ℤ) → (IsInSomeGap (coordinates (along (frame_of v) upright).axis) i → ⊥) → full (cell_in (frame_of v) upright i j k) ≡ false
    empty_past_ends v upright i j k none =
        let f = frame_of v in
        let at = coordinates_at (cell_on (along f upright) i) (cell_on (across f upright) j) (cell_on f.away k) _ _ _ (across_along f (views_are_frames v) upright) in
        union.outside (cell_in f upright i j k) (λ lies. none (subst (IsInSomeGap _) (at.first ∙ forward_cell (along f upright) i (runs_forward v upright)) (lies (along f upright).axis)))

-- ---- the drawing of a union

module _ (coordinates : Coordinates) (ascends : (a : Axis) → Ascends ◌<ℤ◌ (coordinates a)) (chosen : List Bool) (s : List Cell)
    (union : IsUnionOf coordinates chosen (is_full s)) where
  -- equal columns of cells draw nothing
  blank_between_equal : (v : View) (upright : Bool) (start line : ℤ)
      → ((k : ℤ) → is_full s (cell_in (frame_of v) upright start line k) ≡ is_full s (cell_in (frame_of v) upright start (line -ℤ pos 1) k))
      → solid_drawing s (segment_at v upright start line) ≡ Blank
  blank_between_equal v true start line same =
      one_style (frame_of v) (is_full s) (segment_at v true start line) _ _ (drawn_style_drawn (frame_of v) (views_are_frames v) s (segment_at v true start line))
      (equal_columns (frame_of v) (views_are_frames v) (is_full s) (segment_at v true start line) same)
  blank_between_equal v false start line same =
      one_style (frame_of v) (is_full s) (segment_at v false start line) _ _ (drawn_style_drawn (frame_of v) (views_are_frames v) s (segment_at v false start line))
      (equal_columns (frame_of v) (views_are_frames v) (is_full s) (segment_at v false start line) same)

  -- the same columns of cells draw the same
  same_between_same : (v : View) (upright : Bool) (start other line : ℤ)
      → ((j k : ℤ) → is_full s (cell_in (frame_of v) upright start j k) ≡ is_full s (cell_in (frame_of v) upright other j k))
      → solid_drawing s (segment_at v upright start line) ≡ solid_drawing s (segment_at v upright other line)
  same_between_same v true start other line same =
      let f = frame_of v in let is = views_are_frames v in
      one_style f (is_full s) (segment_at v true other line) _ _
      (same_columns f is (is_full s) (segment_at v true start line) (segment_at v true other line) (same line) (same (line -ℤ pos 1)) _ (drawn_style_drawn f is s (segment_at v true start line)))
      (drawn_style_drawn f is s (segment_at v true other line))
  same_between_same v false start other line same =
      let f = frame_of v in let is = views_are_frames v in
      one_style f (is_full s) (segment_at v false other line) _ _
      (same_columns f is (is_full s) (segment_at v false start line) (segment_at v false other line) (same line) (same (line -ℤ pos 1)) _ (drawn_style_drawn f is s (segment_at v false start line)))
      (drawn_style_drawn f is s (segment_at v false other line))

  -- the drawing of a union of grid cells stays on the grid
  pub union_on_grid : StaysOnGrid coordinates (solid_drawing s)
  union_on_grid = record {
    off_lines = λ v upright start line none. blank_between_equal v upright start line (λ k. sym (agree_at_places coordinates ascends chosen (is_full s) union
        v upright start start (line -ℤ pos 1) line k (same_gaps-itself _ start) (same_gaps_before _ line none)));
    off_ends = λ v upright start line none. blank_between_equal v upright start line (λ k.
        empty_past_ends coordinates ascends chosen (is_full s) union v upright start line k none
        ∙ sym (empty_past_ends coordinates ascends chosen (is_full s) union v upright start (line -ℤ pos 1) k none));
    steady = λ v upright n start other line at_start at_other. same_between_same v upright start other line (λ j k.
        agree_at_places coordinates ascends chosen (is_full s) union v upright start other j j k
        (same_gaps_in_gap _ (ascends (along (frame_of v) upright).axis) n start other at_start at_other) (same_gaps-itself _ j));
  }
