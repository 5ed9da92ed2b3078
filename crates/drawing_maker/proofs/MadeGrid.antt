-- The grid of a made solid's drawing.
use Rattle.std.proofs.Common.{◌≡◌, inl, Bool, ℕ, ◌+◌, ◌*◌, ◌<◌, ◌≤◌, List, [], ◌∷◌, drop, length, ℤ, pos, ◌≤ℤ◌, ◌<ℤ◌, refl, ap, sym, subst, ◌∙◌, arith}
use Rattle.std.proofs.lemmas.Int.{ints}
use Rattle.std.proofs.lemmas.List.{length-map}
use Rattle.solid_model.specs.declared.cell.Axis.{Axis}
use Rattle.solid_model.specs.declared.cell.Axis.TheVariants.{X, Y, Z}
use Rattle.solid_model.specs.declared.frame.View.{View}
use Rattle.solid_model.specs.Cells.{is_full}
use Rattle.solid_model.specs.DrawnStyle.{solid_drawing}
use Rattle.solid_model.specs.Frames.{frame_of, along}
use Rattle.solid_model.specs.Grid.{Coordinates, IsDrawnAcross, AreGridCoordinates, IsUnionOf, grid_cell_count, gaps_along}
use Rattle.lemmas.specs.Lists.{Member, Each, Ascends}
use Rattle.solid_model.specs.Panels.{PanelsStyles, GridParts, coordinates_of, IsGridOf, IsGrid}
use Rattle.solid_model.proofs.OnGrid.{StaysOnGrid}
use Rattle.solid_model.specs.PerAxis.{by_axis}
use Rattle.solid_model.specs.Runs.{IsDrawing}
use Rattle.lemmas.proofs.Lists.{member-from_map, each-at}
use Rattle.solid_model.proofs.StayingOnGrid.{coordinate_on_grid}
use Rattle.solid_model.proofs.UnionDrawing.{union_on_grid}
use Rattle.column_laws.specs.GridPanels.{ArePanels}
use Rattle.drawing_maker.specs.declared.cube.Cube.{Cube}
use Rattle.drawing_maker.specs.declared.ticks.Tick.{Tick}
use Rattle.drawing_maker.specs.Made.{generator_of, made_cubes, made_solid}
use Rattle.drawing_maker.specs.Making.{IsMade}
use Rattle.drawing_maker.specs.Rows.{row_ticks, coordinates_of_ticks, grid_over, cells_before, AreSmall}
use Rattle.drawing_maker.proofs.Drawn.{first_by}
use Rattle.drawing_maker.proofs.DrawnAcross.{drawn_across}
use Rattle.drawing_maker.proofs.MadeRows.{made_stand, made_row, next_is_near, few_ticks}
use Rattle.drawing_maker.proofs.RowCoordinates.{differs_at_tick, row_coordinate}
use Rattle.drawing_maker.proofs.RowDrawing.{drawing_on_grid}
use Rattle.drawing_maker.proofs.RowTicks.{ascends_row, tick_in_row, tick_in_cube}
use Rattle.drawing_maker.proofs.RowUnion.{gaps_are, union_of_row, length-cells_before}
use Rattle.drawing_maker.proofs.Rows.{scaled}

-- the cubes are small
pub made_are_small : (n : ℕ) → AreSmall (made_cubes n)
made_are_small n =
    let stand = made_stand n in
    both (made_cubes n) stand.sized stand.placed
  where
    both : (ps : List Cube) → Each (λ p. (0 < p.scale) × (p.scale ≤ 9)) ps → Each (λ p. (0 ≤ p.origin) × (p.origin ≤ 0 + 46 * 14)) ps → AreSmall ps
    both [] h k = tt
    both (p ∷ ps) h k = ((h.0.1, omega (arith, k.0.1)), both ps h.1 k.1)

-- a coordinate of a made row is near
pub made_coordinate : (n : ℕ) (z : ℤ) → Member (coordinates_of_ticks (row_ticks (made_cubes n))) z → (pos 0 ≤ℤ z) × (z ≤ℤ pos 1000)
made_coordinate n z k =
    let s = member-from_map (λ (t : Tick). pos t.at) (row_ticks (made_cubes n)) z k in
    let p = tick_in_row (made_cubes n) s.0 s.1 in
    let at = tick_in_cube p.0 s.0 p.2 in
    let stand = made_stand n in
    let sized = each-at (λ (q : Cube). (0 < q.scale) × (q.scale ≤ 9)) (made_cubes n) p.0 stand.sized p.1 in
    let placed = each-at (λ (q : Cube). (0 ≤ q.origin) × (q.origin ≤ 0 + 46 * 14)) (made_cubes n) p.0 stand.placed p.1 in
    let near = next_is_near p.0 sized.1 in
    let e = scaled p.0 at.0 _ at.1 in
    (omega (arith, ints, s.2), omega (arith, ints, s.2, at.2, placed.1, near, e))

module _ (n : ℕ) (coordinates : Coordinates) (same : (a : Axis) → coordinates a ≡ coordinates_of_ticks (row_ticks (made_cubes n))) where
  ascends : (a : Axis) → Ascends ◌<ℤ◌ (coordinates a)
  ascends a = subst (Ascends ◌<ℤ◌) (sym (same a)) (ascends_row (made_cubes n) (made_row n))

  pub made_union : IsUnionOf coordinates (cells_before (drop 1 (row_ticks (made_cubes n)))) (is_full (made_solid n))
  made_union = union_of_row (made_cubes n) (made_row n) coordinates same

  stays : StaysOnGrid coordinates (solid_drawing (made_solid n))
  stays = union_on_grid coordinates ascends _ (made_solid n) made_union

  -- its coordinates are the row's
  pub made_coordinates : (a : Axis) → AreGridCoordinates (solid_drawing (made_solid n)) a (coordinates a)
  made_coordinates a = record {
    ordered = ascends a;
    exact = λ z. (
      (λ k. row_coordinate (made_cubes n) (made_row n) a z (subst (λ zs. Member zs z) (same a) k)),
      coordinate_on_grid coordinates ascends (solid_drawing (made_solid n)) stays a z,
    );
  }

  -- something is drawn on each line at 0: the first cube begins there
  drawn_at_zero : (v : View) (upright : Bool) → IsDrawnAcross (solid_drawing (made_solid n)) v upright (pos 0)
  drawn_at_zero v upright =
      let a = (along (frame_of v) upright).axis in
      let d = differs_at_tick (made_cubes n) (made_row n) (first_by (generator_of n)) (inl refl) a 0 (omega arith) in
      subst (IsDrawnAcross (solid_drawing (made_solid n)) v upright) (d.1 ∙ ap pos (omega arith))
      (drawn_across (made_solid n) v upright d.0 d.2)

  pub made_drawing : IsDrawing (solid_drawing (made_solid n))
  made_drawing = drawing_on_grid coordinates ascends (solid_drawing (made_solid n)) stays (pos 1000)
      (λ a z k. made_coordinate n z (subst (λ zs. Member zs z) (same a) k)) drawn_at_zero (omega (arith, ints))

-- ---- what is made

module _ (n : ℕ) (ticks : List Tick) (chosen : List Bool) (panels : PanelsStyles) (count : ℕ) (ticks_are : ticks ≡ row_ticks (made_cubes n))
    (chosen_are : chosen ≡ cells_before (drop 1 ticks)) (count_is : count ≡ length ticks) (panels_are : ArePanels (by_axis count count count) chosen panels) where
  abbrev g : GridParts
  g = grid_over ticks panels

  coordinates_are : (a : Axis) → coordinates_of g a ≡ coordinates_of_ticks ticks
  coordinates_are X = refl
  coordinates_are Y = refl
  coordinates_are Z = refl

  counts_are : (a : Axis) → by_axis count count count a ≡ length ticks
  counts_are X = count_is
  counts_are Y = count_is
  counts_are Z = count_is

  same_coordinates : (a : Axis) → coordinates_of g a ≡ coordinates_of_ticks (row_ticks (made_cubes n))
  same_coordinates a = coordinates_are a ∙ ap coordinates_of_ticks ticks_are

  how_many : (a : Axis) → length (coordinates_of g a) ≡ length ticks
  how_many a = ap length (coordinates_are a) ∙ length-map ticks (λ (s : Tick). pos s.at)

  union_of_chosen : IsUnionOf (coordinates_of g) chosen (is_full (made_solid n))
  union_of_chosen = subst (λ cells. IsUnionOf (coordinates_of g) cells (is_full (made_solid n)))
      (sym (chosen_are ∙ ap (λ ss. cells_before (drop 1 ss)) ticks_are)) (made_union n (coordinates_of g) same_coordinates)

  grid_of_made : IsGridOf (solid_drawing (made_solid n)) g
  grid_of_made = record {
    coordinates = made_coordinates n (coordinates_of g) same_coordinates;
    few = λ a. (let l = few_ticks n in omega (arith, how_many a, ap length ticks_are, l));
    styles = panels_are (coordinates_of g)
        (record { ordered = λ a. (made_coordinates n (coordinates_of g) same_coordinates a).ordered; count = λ a. how_many a ∙ sym (counts_are a) })
        (made_solid n) union_of_chosen;
    sees = (made_drawing n (coordinates_of g) same_coordinates).sees;
  }

  pub is_grid : IsGrid g
  is_grid = (solid_drawing (made_solid n), made_drawing n (coordinates_of g) same_coordinates, grid_of_made)

  pub is_made : IsMade n g chosen
  is_made = record { grid = grid_of_made; cells = union_of_chosen; count = counted }
    where
      gap_count : (a : Axis) → gaps_along (coordinates_of g) a ≡ length (drop 1 ticks)
      gap_count a = gaps_are (made_cubes n) (made_row n) (coordinates_of g) same_coordinates a ∙ ap (λ ss. length (drop 1 ss)) (sym ticks_are)

      counted : length chosen ≡ grid_cell_count (coordinates_of g)
      counted = ap length chosen_are ∙ length-cells_before (drop 1 ticks) ∙ omega arith
          ∙ sym (λ t. gap_count Z t * gap_count Y t * gap_count X t)

-- few coordinates along each axis
pub few_counts : (n : ℕ) (ticks : List Tick) (count : ℕ) → ticks ≡ row_ticks (made_cubes n) → count ≡ length ticks → (a : Axis) → by_axis count count count a ≤ 64
few_counts n ticks count are same X = let l = few_ticks n in omega (arith, l, same, ap length are)
few_counts n ticks count are same Y = let l = few_ticks n in omega (arith, l, same, ap length are)
few_counts n ticks count are same Z = let l = few_ticks n in omega (arith, l, same, ap length are)

-- and one at least
pub some_ticks : (n : ℕ) (ticks : List Tick) → ticks ≡ row_ticks (made_cubes n) → 1 ≤ length ticks
some_ticks n ticks are =
    let p = first_by (generator_of n) in
    let one : 1 ≤ length (row_ticks (made_cubes n)) = omega arith in
    omega (arith, one, ap length are)
