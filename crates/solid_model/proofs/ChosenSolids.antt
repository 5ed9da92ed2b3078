-- From choices to solids: choices of grid cells in their order are unions in theirs, and each matching solid is such a union.
use Rattle.std.proofs.Common.{◌≡◌, inl, inr, ⊎_elim, Bool, true, false, ℕ, ◌<◌, List, [], ◌∷◌, length, map, get_or, ◌≤ℤ◌, ◌<ℤ◌, refl, ap, sym, subst, ◌∙◌, arith}
use Rattle.std.proofs.lemmas.Bool.{false_from_ne_true}
use Rattle.std.proofs.lemmas.Int.{ints, by_lt_z}
use Rattle.std.proofs.lemmas.List.{length-map, get_or-map, ext_get_or}
use Rattle.solid_model.specs.declared.cell.Axis.{Axis}
use Rattle.solid_model.specs.declared.cell.Axis.TheVariants.{X, Y, Z}
use Rattle.solid_model.specs.declared.cell.Cell.{Cell}
use Rattle.solid_model.specs.declared.segment.Segment.{Segment}
use Rattle.solid_model.specs.declared.segment.Style.{Style}
use Rattle.solid_model.specs.Cells.{is_full}
use Rattle.solid_model.specs.Choices.{ChoicePrecedes}
use Rattle.solid_model.specs.Grid.{Coordinates, AreGridCoordinates, GridCell, LiesInGridCell, gaps_along, grid_cell_count, grid_cell_place, IsUnionOf}
use Rattle.lemmas.specs.Lists.{Member, Ascends}
use Rattle.solid_model.specs.Matching.{Matches}
use Rattle.solid_model.specs.Orders.{ComesBefore, Precedes}
use Rattle.solid_model.specs.GridBox.{grid_cell_of}
use Rattle.solid_model.proofs.BoxPlaces.{cell_of_place, cell_of_place-within, cell_of_place-there}
use Rattle.solid_model.proofs.CellOrder.{LiesBefore, before-lies, lies-before, before_one_way, not_before_itself}
use Rattle.solid_model.proofs.Corners.{corners, corner_of, corner_lies, corner_at_place, length-corners, place_within, ascends-corners, lying-is_grid_cell, within-is_grid_cell, begins_no_later, IsGridCell}
use Rattle.solid_model.specs.Moved.{SeesEachAxis}
use Rattle.solid_model.proofs.InGrid.{agree_in_grid_cell, lies_in_grid}
use Rattle.lemmas.proofs.ListPlaces.{member-at}
use Rattle.lemmas.proofs.Lists.{each-at}
use Rattle.solid_model.proofs.UnionDrawing.{in_grid_or_not}

-- the first difference of two choices that are read off an ascending list of cells
record IsFirstDifference (full other : Cell → Bool) (cells : List Cell) (c : Cell) : Type 0 where
  member : Member cells c
  full_there : full c ≡ true
  empty_there : other c ≡ false
  same_before : (b : Cell) → Member cells b → ComesBefore b c → full b ≡ other b

first_difference : (full other : Cell → Bool) (cells : List Cell) → Ascends ComesBefore cells → ChoicePrecedes (map full cells) (map other cells)
    → (c : Cell) × IsFirstDifference full other cells c
first_difference full other [] ascends precedes = absurd precedes
first_difference full other (x ∷ cells) ascends (inl (p, q)) = (
  x,
  record {
    member = inl refl;
    full_there = p;
    empty_there = q;
    same_before = λ b k l. absurd (⊎_elim {C = ⊥} (λ e. not_before_itself x (subst (λ d. ComesBefore d x) (sym e) l))
        (λ m. before_one_way x b (each-at (ComesBefore x) cells b ascends.0 m) l) k);
  },
)
first_difference full other (x ∷ cells) ascends (inr (same, precedes)) =
    let rest = first_difference full other cells ascends.1 precedes in (
      rest.0,
      record {
        member = inr rest.1.member;
        full_there = rest.1.full_there;
        empty_there = rest.1.empty_there;
        same_before = λ b k l. ⊎_elim (λ e. subst (λ d. full d ≡ other d) e same) (λ m. rest.1.same_before b m l) k;
      },
    )

-- what stands no later along each axis than a cell that comes before another comes before it too
before_from_corner : (a b c : Cell) → a.x ≤ℤ b.x → a.y ≤ℤ b.y → a.z ≤ℤ b.z → ComesBefore b c → ComesBefore a c
before_from_corner a b c in_x in_y in_z l = lies-before a c (by (before-lies b c l))
  where
    by : LiesBefore b c → LiesBefore a c
    by (inl p) = inl (omega (arith, ints))
    by (inr (e, inl p)) = by_lt_z a.z c.z (λ m. inl m) (λ m. inr (omega (arith, ints), inl (omega (arith, ints))))
    by (inr (e, inr (h, p))) = by_lt_z a.z c.z (λ m. inl m) (λ m. inr (
      omega (arith, ints),
      by_lt_z a.y c.y (λ n. inl n) (λ n. inr (omega (arith, ints), omega (arith, ints))),
    ))

module _ (coordinates : Coordinates) (ascends : (a : Axis) → Ascends ◌<ℤ◌ (coordinates a)) where
  -- unions of the same grid cells are one solid
  pub one_union : (chosen : List Bool) (full other : Cell → Bool) → IsUnionOf coordinates chosen full → IsUnionOf coordinates chosen other → (c : Cell) → full c ≡ other c
  one_union chosen full other union union_too c = ⊎_elim
      (λ at. union.inside at.0 c at.1 ∙ sym (union_too.inside at.0 c at.1)) (λ none. union.outside c none ∙ sym (union_too.outside c none))
      (in_grid_or_not coordinates ascends c)

  -- in a union a cell agrees with the corner of its grid cell
  like_corner : (chosen : List Bool) (full : Cell → Bool) → IsUnionOf coordinates chosen full → (n : GridCell) (c : Cell) → LiesInGridCell coordinates n c
      → full c ≡ full (corner_of coordinates ascends n)
  like_corner chosen full union n c at =
      union.inside n c at ∙ sym (union.inside n (corner_of coordinates ascends n) (corner_lies coordinates ascends n (lying-is_grid_cell coordinates ascends n c at)))

  -- so two unions that agree at a corner agree in its grid cell
  like_corners : (chosen other : List Bool) (full full_too : Cell → Bool) → IsUnionOf coordinates chosen full → IsUnionOf coordinates other full_too
      → (n : GridCell) (c : Cell) → LiesInGridCell coordinates n c → full (corner_of coordinates ascends n) ≡ full_too (corner_of coordinates ascends n) → full c ≡ full_too c
  like_corners chosen other full full_too union union_too n c at same =
      like_corner chosen full union n c at ∙ same ∙ sym (like_corner other full_too union_too n c at)

  -- each place of the list of corners is that of a grid cell
  cell_at_place : (p : ℕ) → p < length (corners coordinates ascends)
      → (n : GridCell) × IsGridCell coordinates ascends n × (grid_cell_place coordinates n ≡ p)
  cell_at_place p l =
      let within = cell_of_place-within (gaps_along coordinates) p (subst (λ n. p < n) (length-corners coordinates ascends) l) in (
        grid_cell_of (cell_of_place (gaps_along coordinates) p),
        within-is_grid_cell coordinates ascends (cell_of_place (gaps_along coordinates) p) within,
        cell_of_place-there (gaps_along coordinates) p,
      )

  -- a choice of grid cells, read off its union at the corners
  pub chosen_at_corners : (chosen : List Bool) (full : Cell → Bool) → IsUnionOf coordinates chosen full → length chosen ≡ grid_cell_count coordinates
      → chosen ≡ map full (corners coordinates ascends)
  chosen_at_corners chosen full union long =
      let all = corners coordinates ascends in
      let same_length : length chosen ≡ length (map full all) = long ∙ sym (length-corners coordinates ascends) ∙ sym (length-map all full) in
      ext_get_or false chosen (map full all) same_length (λ i l.
      let within : i < length all = subst (λ n. i < n) (long ∙ sym (length-corners coordinates ascends)) l in
      let at = cell_at_place i within in
      let c = corner_of coordinates ascends at.0 in
      ap (λ p. get_or chosen p false) (sym at.2) ∙ sym (union.inside at.0 c (corner_lies coordinates ascends at.0 at.1))
      ∙ ap full (sym (corner_at_place coordinates ascends at.0 c at.1) ∙ ap (λ p. get_or all p c) at.2)
      ∙ sym (get_or-map full all i c false within))

  -- choices of grid cells come in the order of their unions
  pub union_precedes : (chosen other : List Bool) (full full_too : Cell → Bool) → IsUnionOf coordinates chosen full → IsUnionOf coordinates other full_too
      → length chosen ≡ grid_cell_count coordinates → length other ≡ grid_cell_count coordinates → ChoicePrecedes chosen other → Precedes full full_too
  union_precedes chosen other full full_too union union_too long long_too precedes =
      let at_corners = subst (λ cs. ChoicePrecedes cs (map full_too (corners coordinates ascends))) (chosen_at_corners chosen full union long)
      (subst (ChoicePrecedes chosen) (chosen_at_corners other full_too union_too long_too) precedes) in
      let first = first_difference full full_too (corners coordinates ascends) (ascends-corners coordinates ascends) at_corners in (
        first.0,
        first.1.full_there,
        first.1.empty_there,
        λ b l. ⊎_elim
            (λ at.
            let is = lying-is_grid_cell coordinates ascends at.0 b at.1 in
            let corner = corner_of coordinates ascends at.0 in
            let member : Member (corners coordinates ascends) corner = subst (Member (corners coordinates ascends)) (corner_at_place coordinates ascends at.0 corner is)
            (member-at (corners coordinates ascends) (grid_cell_place coordinates at.0) corner (place_within coordinates ascends at.0 is)) in
            let before = before_from_corner corner b first.0 (begins_no_later (coordinates X) (at.0 X) b.x (at.1 X)) (begins_no_later (coordinates Y) (at.0 Y) b.y (at.1 Y))
            (begins_no_later (coordinates Z) (at.0 Z) b.z (at.1 Z)) l in
            like_corners chosen other full full_too union union_too at.0 b at.1 (first.1.same_before corner member before))
            (λ none. union.outside b none ∙ sym (union_too.outside b none))
            (in_grid_or_not coordinates ascends b),
      )

module _ (drawing : Segment → Style) (sees : SeesEachAxis drawing) (coordinates : Coordinates) (are : (a : Axis) → AreGridCoordinates drawing a (coordinates a)) where
  abbrev ascends_here : (a : Axis) → Ascends ◌<ℤ◌ (coordinates a)
  ascends_here a = (are a).ordered

  -- a matching solid is the union of the grid cells whose corners it fills
  pub matching_union : (s : List Cell) → Matches drawing s → IsUnionOf coordinates (map (is_full s) (corners coordinates ascends_here)) (is_full s)
  matching_union s matches = record {
    inside = λ n c at.
        let is = lying-is_grid_cell coordinates ascends_here n c at in
        let corner = corner_of coordinates ascends_here n in
        let there = place_within coordinates ascends_here n is in
        agree_in_grid_cell drawing sees s matches coordinates are n c corner at (corner_lies coordinates ascends_here n is)
        ∙ ap (is_full s) (sym (corner_at_place coordinates ascends_here n corner is))
        ∙ sym (get_or-map (is_full s) (corners coordinates ascends_here) (grid_cell_place coordinates n) corner false there);
    outside = λ c none. false_from_ne_true (is_full s c) (λ full. none (lies_in_grid drawing sees s matches coordinates are c full));
  }
