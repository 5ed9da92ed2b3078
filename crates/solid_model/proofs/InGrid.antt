-- A matching solid lies in the grid: between two slices of cells at a position that is no grid coordinate nothing changes.
use Rattle.std.proofs.Common.{◌≡◌, ◌≢◌, ◌⊎◌, inl, inr, ⊎_elim, Bool, true, false, ℕ, zero, suc, List, [], ◌∷◌, ℤ, pos, ◌+ℤ◌, ◌-ℤ◌, ◌≤ℤ◌, ◌<ℤ◌, int_lt, int_le, refl, ap, sym, subst, ◌∙◌, arith}
use Rattle.std.proofs.lemmas.Bool.{false≢true, and_parts, and_from}
use Rattle.std.proofs.lemmas.Int.{ints, by_lt_z}
use Rattle.solid_model.specs.declared.cell.Axis.{Axis}
use Rattle.solid_model.specs.declared.cell.Axis.TheVariants.{X, Y, Z}
use Rattle.solid_model.specs.declared.cell.Cell.{Cell}
use Rattle.solid_model.specs.declared.frame.View.{View}
use Rattle.solid_model.specs.declared.frame.View.TheVariants.{Front, Top, Side}
use Rattle.solid_model.specs.declared.segment.Segment.{Segment}
use Rattle.solid_model.specs.declared.segment.Style.{Style}
use Rattle.solid_model.specs.declared.segment.Style.TheVariants.{Blank, Dashed, Solid}
use Rattle.solid_model.specs.Boxes.{place_of}
use Rattle.solid_model.specs.Cells.{coordinate, placed, cell_before, cell_after, is_full}
use Rattle.solid_model.specs.Columns.{cell_in}
use Rattle.solid_model.specs.Draws.{Draws}
use Rattle.solid_model.specs.Frames.{frame_of, along, across}
use Rattle.solid_model.specs.Grid.{IsGridCoordinate, AreGridCoordinates, is_in_gap, IsInSomeGap, Coordinates, GridCell, LiesInGridCell, LiesInGrid}
use Rattle.lemmas.specs.Lists.{Member, Ascends}
use Rattle.solid_model.specs.Matching.{Matches}
use Rattle.solid_model.specs.Moved.{Shows, SeesEachAxis}
use Rattle.solid_model.specs.Segments.{segment_at}
use Rattle.solid_model.proofs.ColumnRule.{beside_blank}
use Rattle.lemmas.proofs.Integers.{natural}
use Rattle.lemmas.proofs.Lists.{each-at, same_ascending}
use Rattle.solid_model.proofs.WithinViews.{Least, Greatest, outermost_by}
use Rattle.solid_model.proofs.Views.{views_are_frames, cell_at_its_places}

-- ---- slices of cells

-- a style is Blank or isn't
pub blank_or_drawn : (style : Style) → (style ≡ Blank) ⊎ (style ≢ Blank)
blank_or_drawn Blank = inl refl
blank_or_drawn Dashed = inr (λ e. cc)
blank_or_drawn Solid = inr (λ e. cc)

-- d stands just before c across the segments of a kind
pub record StandsBefore (v : View) (upright : Bool) (d c : Cell) : Type 0 where
  pub same_along : place_of (along (frame_of v) upright) d ≡ place_of (along (frame_of v) upright) c
  pub before : place_of (across (frame_of v) upright) d ≡ place_of (across (frame_of v) upright) c -ℤ pos 1
  pub same_away : place_of (frame_of v).away d ≡ place_of (frame_of v).away c

module _ (drawing : Segment → Style) (s : List Cell) (matches : Matches drawing s) where
  -- beside a segment that isn't drawn the two cells agree at every depth
  beside_undrawn : (v : View) (upright : Bool) (i j k : ℤ) → Shows drawing v → drawing (segment_at v upright i j) ≡ Blank
      → is_full s (cell_in (frame_of v) upright i j k) ≡ is_full s (cell_in (frame_of v) upright i (j -ℤ pos 1) k)
  beside_undrawn v true i j k shows blank =
      let g : Segment = segment_at v true i j in
      beside_blank (frame_of v) (views_are_frames v) s g (subst (Draws (frame_of v) (is_full s) g) blank (matches.1 g shows)) k
  beside_undrawn v false i j k shows blank =
      let g : Segment = segment_at v false i j in
      beside_blank (frame_of v) (views_are_frames v) s g (subst (Draws (frame_of v) (is_full s) g) blank (matches.1 g shows)) k

  -- so do two cells one before the other, where nothing is drawn on the line between them
  across_undrawn : (v : View) (upright : Bool) (d c : Cell) → Shows drawing v → StandsBefore v upright d c
      → ((start : ℤ) → drawing (segment_at v upright start (place_of (across (frame_of v) upright) c)) ≢ Blank → ⊥) → is_full s d ≡ is_full s c
  across_undrawn v upright d c shows at none =
      let f = frame_of v in
      let i = place_of (along f upright) c in let j = place_of (across f upright) c in let k = place_of f.away c in
      let blank = ⊎_elim (λ e. e) (λ drawn. absurd (none i drawn)) (blank_or_drawn (drawing (segment_at v upright i j))) in
      sym (ap (is_full s) (cell_at_its_places f (views_are_frames v) upright d))
      ∙ (λ t. is_full s (cell_in f upright (at.same_along t) (at.before t) (at.same_away t)))
      ∙ sym (beside_undrawn v upright i j k shows blank)
      ∙ ap (is_full s) (cell_at_its_places f (views_are_frames v) upright c)

  -- where a cell begins at no grid coordinate along an axis, it agrees with the cell before it
  pub slices_agree : SeesEachAxis drawing → (a : Axis) (c : Cell) → (IsGridCoordinate drawing a (coordinate a c) → ⊥) → is_full s (cell_before a c) ≡ is_full s c
  slices_agree sees a c none =
      let at = sees a in
      subst (λ b. (IsGridCoordinate drawing b (coordinate b c) → ⊥) → is_full s (cell_before b c) ≡ is_full s c) at.2 (by at.0 at.1 at.3) none
    where
      by : (v : View) (upright : Bool) → Shows drawing v → (IsGridCoordinate drawing (along (frame_of v) upright).axis (coordinate (along (frame_of v) upright).axis c) → ⊥)
          → is_full s (cell_before (along (frame_of v) upright).axis c) ≡ is_full s c
      by Front false shows nothing = across_undrawn Front true (cell_before X c) c shows (record { same_along = refl; before = refl; same_away = refl }) (λ start drawn. nothing (Front, false, refl, inl (start, drawn)))
      by Front true shows nothing = across_undrawn Front false (cell_before Z c) c shows (record { same_along = refl; before = refl; same_away = refl }) (λ start drawn. nothing (Front, true, refl, inl (start, drawn)))
      by Top false shows nothing = across_undrawn Top true (cell_before X c) c shows (record { same_along = refl; before = refl; same_away = refl }) (λ start drawn. nothing (Top, false, refl, inl (start, drawn)))
      by Top true shows nothing = across_undrawn Top false (cell_before Y c) c shows (record { same_along = refl; before = refl; same_away = refl }) (λ start drawn. nothing (Top, true, refl, inl (start, drawn)))
      by Side false shows nothing = across_undrawn Side true (cell_before Y c) c shows (record { same_along = refl; before = refl; same_away = refl }) (λ start drawn. nothing (Side, false, refl, inl (start, drawn)))
      by Side true shows nothing = across_undrawn Side false (cell_before Z c) c shows (record { same_along = refl; before = refl; same_away = refl }) (λ start drawn. nothing (Side, true, refl, inl (start, drawn)))

-- an axis has one list of grid coordinates
pub one_coordinates : (drawing : Segment → Style) (a : Axis) (zs ws : List ℤ) → AreGridCoordinates drawing a zs → AreGridCoordinates drawing a ws → zs ≡ ws
one_coordinates drawing a zs ws h k =
    same_ascending ◌<ℤ◌ (λ x y l m. omega (arith, ints)) zs ws h.ordered k.ordered (λ z l. (k.exact z).1 ((h.exact z).0 l)) (λ z l. (h.exact z).1 ((k.exact z).0 l))

-- ---- gaps of an ascending list

-- the gap of this number: its ends, and that no member lies between them
pub record Gap (zs : List ℤ) (n : ℕ) : Type 0 where
  pub low : ℤ
  pub high : ℤ
  pub inside : (z : ℤ) → is_in_gap zs n z ≡ true → (low ≤ℤ z) × (z <ℤ high)
  pub low_member : Member zs low
  pub none_between : (z : ℤ) → low <ℤ z → z <ℤ high → Member zs z → ⊥

-- a gap in which something lies has such ends
pub gap_at : (zs : List ℤ) → Ascends ◌<ℤ◌ zs → (n : ℕ) (z : ℤ) → is_in_gap zs n z ≡ true → Gap zs n
gap_at [] ascends n z e = absurd (false≢true e)
gap_at (a ∷ []) ascends n z e = absurd (false≢true e)
gap_at (a ∷ b ∷ zs) ascends zero z e = record {
  low = a;
  high = b;
  inside = λ y h. let parts = and_parts (int_le a y) (int_lt y b) h in (omega (arith, ints, parts.0), omega (arith, ints, parts.1));
  low_member = inl refl;
  none_between = λ y from to k. ⊎_elim {C = ⊥} (λ same. omega (arith, ints)) (λ l. ⊎_elim {C = ⊥} (λ same. omega (arith, ints))
      (λ later. let beyond = each-at (λ w. b <ℤ w) zs y ascends.1.0 later in omega (arith, ints)) l) k;
}
gap_at (a ∷ b ∷ zs) ascends (suc n) z e =
    let rest = gap_at (b ∷ zs) ascends.1 n z e in
    let first = each-at (λ w. a <ℤ w) (b ∷ zs) rest.low ascends.0 rest.low_member in
    record {
      low = rest.low;
      high = rest.high;
      inside = rest.inside;
      low_member = inr rest.low_member;
      none_between = λ y from to k. ⊎_elim {C = ⊥} (λ same. omega (arith, ints)) (rest.none_between y from to) k;
    }

-- a place lies in a gap of an ascending list, or every member lies beyond it, or none does
pub some_gap_or_outside : (zs : List ℤ) → Ascends ◌<ℤ◌ zs → (z : ℤ)
    → IsInSomeGap zs z ⊎ (((w : ℤ) → Member zs w → z <ℤ w) ⊎ ((w : ℤ) → Member zs w → w ≤ℤ z))
some_gap_or_outside [] ascends z = inr (inl (λ w k. absurd k))
some_gap_or_outside (a ∷ []) ascends z = by_lt_z z a
    (λ l. inr (inl (λ w k. ⊎_elim {C = z <ℤ w} (λ e. omega (arith, ints)) (λ none. absurd none) k)))
    (λ l. inr (inr (λ w k. ⊎_elim {C = w ≤ℤ z} (λ e. omega (arith, ints)) (λ none. absurd none) k)))
some_gap_or_outside (a ∷ b ∷ zs) ascends z = by_lt_z z a
    (λ l. inr (inl (λ w k. ⊎_elim {C = z <ℤ w} (λ e. omega (arith, ints)) (λ m. let beyond = each-at (λ y. a <ℤ y) (b ∷ zs) w ascends.0 m in omega (arith, ints)) k)))
    (λ l. by_lt_z z b (λ m. inl (zero, and_from (int_le a z) (int_lt z b) (grind (arith, ints)) (grind (arith, ints))))
    (λ m. later l m (some_gap_or_outside (b ∷ zs) ascends.1 z)))
  where
    Outside : List ℤ → Type 0
    Outside ys = ((w : ℤ) → Member ys w → z <ℤ w) ⊎ ((w : ℤ) → Member ys w → w ≤ℤ z)

    later : a ≤ℤ z → b ≤ℤ z → IsInSomeGap (b ∷ zs) z ⊎ Outside (b ∷ zs) → IsInSomeGap (a ∷ b ∷ zs) z ⊎ Outside (a ∷ b ∷ zs)
    later l m (inl gap) = inl (suc gap.0, gap.1)
    later l m (inr (inl beyond)) = absurd (let first = beyond b (inl refl) in omega (arith, ints))
    later l m (inr (inr behind)) = inr (inr (λ w k. ⊎_elim {C = w ≤ℤ z} (λ e. omega (arith, ints)) (behind w) k))

-- what lies in a gap has members on both sides of it
pub between_members : (zs : List ℤ) (n : ℕ) (z : ℤ) → is_in_gap zs n z ≡ true → ((w : ℤ) × Member zs w × (w ≤ℤ z)) × ((w : ℤ) × Member zs w × (z <ℤ w))
between_members [] n z e = absurd (false≢true e)
between_members (a ∷ []) n z e = absurd (false≢true e)
between_members (a ∷ b ∷ zs) zero z e =
    let parts = and_parts (int_le a z) (int_lt z b) e in
    ((a, inl refl, omega (arith, ints, parts.0)), (b, inr (inl refl), omega (arith, ints, parts.1)))
between_members (a ∷ b ∷ zs) (suc n) z e =
    let rest = between_members (b ∷ zs) n z e in
    ((rest.0.0, inr rest.0.1, rest.0.2), (rest.1.0, inr rest.1.1, rest.1.2))

-- a place lies in a gap of an ascending list or in none
pub gap_or_none : (zs : List ℤ) → Ascends ◌<ℤ◌ zs → (z : ℤ) → IsInSomeGap zs z ⊎ (IsInSomeGap zs z → ⊥)
gap_or_none zs ascends z = ⊎_elim inl (λ out. inr (λ gap. none out (between_members zs gap.0 z gap.1))) (some_gap_or_outside zs ascends z)
  where
    none : ((w : ℤ) → Member zs w → z <ℤ w) ⊎ ((w : ℤ) → Member zs w → w ≤ℤ z)
        → ((w : ℤ) × Member zs w × (w ≤ℤ z)) × ((w : ℤ) × Member zs w × (z <ℤ w)) → ⊥
    none (inl beyond) (low, high) = let l = beyond low.0 low.1 in omega (arith, ints, low.2)
    none (inr behind) (low, high) = let l = behind high.0 high.1 in omega (arith, ints, high.2)

-- ---- from slice to slice

-- what doesn't change from place to place between two bounds is the same at all of them
pub steady : {A : Type 0} (p : ℤ → A) (low high : ℤ) → ((z : ℤ) → low <ℤ z → z <ℤ high → p (z -ℤ pos 1) ≡ p z)
    → (d : ℕ) (z : ℤ) → low ≤ℤ z → (z +ℤ pos d) <ℤ high → p z ≡ p (z +ℤ pos d)
steady p low high step zero z from to = ap p (omega (arith, ints))
steady p low high step (suc d) z from to =
    let next : z +ℤ pos (suc d) ≡ (z +ℤ pos 1) +ℤ pos d = omega (arith, ints) in
    let back : (z +ℤ pos 1) -ℤ pos 1 ≡ z = omega (arith, ints) in
    ap p (sym back) ∙ step (z +ℤ pos 1) (omega (arith, ints)) (omega (arith, ints))
    ∙ steady p low high step d (z +ℤ pos 1) (omega (arith, ints)) (omega (arith, ints)) ∙ ap p (sym next)

-- so it is the same at any two of them
pub steady_between : {A : Type 0} (p : ℤ → A) (low high : ℤ) → ((z : ℤ) → low <ℤ z → z <ℤ high → p (z -ℤ pos 1) ≡ p z)
    → (y z : ℤ) → (low ≤ℤ y) × (y <ℤ high) → (low ≤ℤ z) × (z <ℤ high) → p y ≡ p z
steady_between p low high step y z at_y at_z = by_lt_z y z (λ l. upwards y z at_y at_z (omega (arith, ints))) (λ l. sym (upwards z y at_z at_y l))
  where
    upwards : (x w : ℤ) → (low ≤ℤ x) × (x <ℤ high) → (low ≤ℤ w) × (w <ℤ high) → x ≤ℤ w → p x ≡ p w
    upwards x w at_x at_w l =
        let d = natural (w -ℤ x) (omega (arith, ints)) in
        let e : x +ℤ pos d.0 ≡ w = omega (arith, ints, d.1) in
        steady p low high step d.0 x at_x.0 (omega (arith, ints, d.1)) ∙ ap p e

-- the cell before one that was placed is the one placed before it
pub before_placed : (a : Axis) (z : ℤ) (c : Cell) → cell_before a (placed a z c) ≡ placed a (z -ℤ pos 1) c
before_placed X z c = refl
before_placed Y z c = refl
before_placed Z z c = refl

-- a cell that is placed along an axis has this coordinate there
pub placed_at : (a : Axis) (z : ℤ) (c : Cell) → coordinate a (placed a z c) ≡ z
placed_at X z c = refl
placed_at Y z c = refl
placed_at Z z c = refl

-- the cell before the next one is the cell itself
pub before_after : (a : Axis) (c : Cell) → cell_before a (cell_after a c) ≡ c
before_after X c = let p : (c.x +ℤ pos 1) -ℤ pos 1 ≡ c.x = omega (arith, ints) in λ t. record c { x = p t }
before_after Y c = let p : (c.y +ℤ pos 1) -ℤ pos 1 ≡ c.y = omega (arith, ints) in λ t. record c { y = p t }
before_after Z c = let p : (c.z +ℤ pos 1) -ℤ pos 1 ≡ c.z = omega (arith, ints) in λ t. record c { z = p t }

module _ (drawing : Segment → Style) (sees : SeesEachAxis drawing) (s : List Cell) (matches : Matches drawing s) (coordinates : Coordinates)
    (are : (a : Axis) → AreGridCoordinates drawing a (coordinates a)) where
  -- a place that is no member is no grid coordinate
  no_coordinate : (a : Axis) (z : ℤ) → (Member (coordinates a) z → ⊥) → IsGridCoordinate drawing a z → ⊥
  no_coordinate a z none is = none (((are a).exact z).1 is)

  -- moved along an axis within a gap, a cell stays as full as it was
  moved_in_gap : (a : Axis) (n : ℕ) (c : Cell) (y z : ℤ) → is_in_gap (coordinates a) n y ≡ true → is_in_gap (coordinates a) n z ≡ true
      → is_full s (placed a y c) ≡ is_full s (placed a z c)
  moved_in_gap a n c y z in_y in_z =
      let gap = gap_at (coordinates a) (are a).ordered n y in_y in
      steady_between (λ w. is_full s (placed a w c)) gap.low gap.high
      (λ w from to. ap (is_full s) (sym (before_placed a w c)) ∙ slices_agree drawing s matches sees a (placed a w c)
      (subst (λ v. IsGridCoordinate drawing a v → ⊥) (sym (placed_at a w c)) (no_coordinate a w (gap.none_between w from to))))
      y z (gap.inside y in_y) (gap.inside z in_z)

  -- a matching solid is a union of grid cells
  pub agree_in_grid_cell : (n : GridCell) (c d : Cell) → LiesInGridCell coordinates n c → LiesInGridCell coordinates n d → is_full s c ≡ is_full s d
  agree_in_grid_cell n c d in_c in_d =
      moved_in_gap X (n X) c c.x d.x (in_c X) (in_d X)
      ∙ moved_in_gap Y (n Y) (placed X d.x c) c.y d.y (in_c Y) (in_d Y)
      ∙ moved_in_gap Z (n Z) (placed Y d.y (placed X d.x c)) c.z d.z (in_c Z) (in_d Z)

  -- every full cell lies in a gap along each axis: the outermost one would have a full cell beyond it
  in_some_gap : (a : Axis) (c : Cell) → is_full s c ≡ true → IsInSomeGap (coordinates a) (coordinate a c)
  in_some_gap a c full = ⊎_elim (λ gap. gap) (λ out. absurd (⊎_elim {C = ⊥} all_beyond all_behind out)) (some_gap_or_outside (coordinates a) (are a).ordered (coordinate a c))
    where
      all_beyond : ((w : ℤ) → Member (coordinates a) w → coordinate a c <ℤ w) → ⊥
      all_beyond beyond =
          let m = outermost_by Least (coordinate a) s c full in
          let near = m.2 c full in
          let agrees = slices_agree drawing s matches sees a m.0 (no_coordinate a (coordinate a m.0) (λ k. let l = beyond (coordinate a m.0) k in omega (arith, ints))) in
          let before = m.2 (cell_before a m.0) (agrees ∙ m.1) in
          let at = placed_at a (coordinate a m.0 -ℤ pos 1) m.0 in
          omega (arith, ints)

      all_behind : ((w : ℤ) → Member (coordinates a) w → w ≤ℤ coordinate a c) → ⊥
      all_behind behind =
          let m = outermost_by Greatest (coordinate a) s c full in
          let near = m.2 c full in
          let next = placed a (coordinate a m.0 +ℤ pos 1) m.0 in
          let at = placed_at a (coordinate a m.0 +ℤ pos 1) m.0 in
          let agrees = slices_agree drawing s matches sees a next (no_coordinate a (coordinate a next) (λ k. let l = behind (coordinate a next) k in omega (arith, ints))) in
          let back : cell_before a next ≡ m.0 = before_after a m.0 in
          let after = m.2 next (sym agrees ∙ ap (is_full s) back ∙ m.1) in
          omega (arith, ints)

  -- and lies in the box of all grid cells
  pub lies_in_grid : (c : Cell) → is_full s c ≡ true → LiesInGrid coordinates c
  lies_in_grid c full a = in_some_gap a c full
