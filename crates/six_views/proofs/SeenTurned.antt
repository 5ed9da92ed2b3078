-- What is computed of a layer's columns is the drawing of the turned solid on the turned grid.
use Rattle.std.proofs.Common.{◌≡◌, Bool, false, ℕ, ◌+◌, ◌-◌, ◌*◌, ◌/◌, ◌%◌, ◌<◌, List, map, length, slice_index_or, ap, sym, subst, ◌∙◌, arith}
use Rattle.std.specs.List.{range_with_len}
use Rattle.std.proofs.lemmas.List.{get_or-map}
use Rattle.std.proofs.lemmas.List.FromFn.{length-range_with_len, get_or-range_with_len}
use Rattle.std.proofs.lemmas.Nat.{div-mul-add, mod-mul-add, mul-add-lt}
use Rattle.solid_model.specs.declared.cell.Axis.{Axis}
use Rattle.solid_model.specs.declared.cell.Axis.TheVariants.{X, Y, Z}
use Rattle.solid_model.specs.declared.cell.Cell.{Cell}
use Rattle.solid_model.specs.declared.segment.Style.{Style}
use Rattle.solid_model.specs.Cells.{is_full}
use Rattle.solid_model.specs.DrawnStyle.{solid_drawing}
use Rattle.solid_model.specs.Grid.{Coordinates, GridCell, IsUnionOf, gaps_along}
use Rattle.solid_model.specs.Panels.{grid_styles}
use Rattle.solid_model.specs.PerAxis.{by_axis, gaps_of}
use Rattle.solid_model.proofs.OnGrid.{StaysOnGrid}
use Rattle.solid_model.proofs.UnionDrawing.{union_on_grid}
use Rattle.solid_model.specs.GridPlaces.{place_in}
use Rattle.column_laws.specs.GridPanels.{HasCounts, AreStylesAlong}
use Rattle.dxf_entities.specs.declared.layer.Layer.{Layer}
use Rattle.six_views.specs.Turned.{turned_cells, turned_coordinates, turned_numbers, AreTurnedCells}
use Rattle.six_views.proofs.Turned.{full_turned}
use Rattle.six_views.proofs.TurnedGrid.{counts-turned, union_turned}

-- ---- lists of grid cells

-- the numbers of the grid cell at a place of a list of all cells
abbrev numbers_at : (Axis → ℕ) → ℕ → GridCell
numbers_at sizes p = by_axis (p % sizes X) (p / sizes X % sizes Y) (p / sizes X / sizes Y)

module _ (sizes : Axis → ℕ) (n : GridCell) (within : (b : Axis) → n b < sizes b) where
  row : ℕ
  row = n Z * sizes Y + n Y

  at_place : (b : Axis) → numbers_at sizes (place_in sizes n) b ≡ n b
  at_place X = mod-mul-add (n Z * sizes Y + n Y) (sizes X) (n X) (within X)
  at_place Y = ap (λ q. q % sizes Y) (div-mul-add (n Z * sizes Y + n Y) (sizes X) (n X) (within X)) ∙ mod-mul-add (n Z) (sizes Y) (n Y) (within Y)
  at_place Z = ap (λ q. q / sizes Y) (div-mul-add (n Z * sizes Y + n Y) (sizes X) (n X) (within X)) ∙ div-mul-add (n Z) (sizes Y) (n Y) (within Y)

  place_within : place_in sizes n < sizes X * (sizes Y * sizes Z)
  place_within = mul-add-lt (n Z * sizes Y + n Y) (sizes X) (n X) (sizes Y * sizes Z) (mul-add-lt (n Z) (sizes Y) (n Y) (sizes Z) (within Z) (within Y)) (within X)

-- there is a list of the values of grid cells
pub some_list : (sizes : Axis → ℕ) (value : GridCell → Bool)
    → (xs : List Bool) × ((n : GridCell) → ((b : Axis) → n b < sizes b) → slice_index_or xs (place_in sizes n) false ≡ value n)
some_list sizes value = (
  map at (range_with_len 0 count),
  λ n within.
      let p : ℕ = place_in sizes n in
      let inside : p < length (range_with_len 0 count) = subst (λ k. p < k) (sym (length-range_with_len 0 count)) (place_within sizes n within) in
      get_or-map at (range_with_len 0 count) p 0 false inside
      ∙ ap at (get_or-range_with_len 0 count p 0 (place_within sizes n within) ∙ zero_more p)
      ∙ ap value (λ t b. at_place sizes n within b t),
)
  where
    count : ℕ
    count = sizes X * (sizes Y * sizes Z)

    at : ℕ → Bool
    at p = value (numbers_at sizes p)

    zero_more : (p : ℕ) → 0 + p ≡ p
    zero_more p = omega arith

-- so there is one of the cells that are turned
pub some_turned : (x : Layer) (sizes : Axis → ℕ) (chosen : List Bool) → (turned : List Bool) × AreTurnedCells x sizes chosen turned
some_turned x sizes chosen = some_list sizes (λ n. slice_index_or chosen (place_in sizes (turned_numbers x sizes n)) false)

-- ---- the drawing of what is turned

module _ (x : Layer) (counts : Axis → ℕ) (coordinates : Coordinates) (has : HasCounts counts coordinates) (chosen turned : List Bool)
    (are : AreTurnedCells x (gaps_of counts) chosen turned) (s : List Cell) (union : IsUnionOf coordinates chosen (is_full s)) where
  abbrev grid : Coordinates
  grid = turned_coordinates x coordinates

  pub same_sizes : gaps_of counts ≡ gaps_along coordinates
  same_sizes = λ t b. sym (has.count b) t - 1

  pub turned_union : IsUnionOf grid turned (is_full (turned_cells x s))
  turned_union = subst (IsUnionOf grid turned) (λ t c. sym (full_turned x s c) t)
      (union_turned x coordinates chosen turned (is_full s) union (subst (λ (sizes : Axis → ℕ). AreTurnedCells x sizes chosen turned) same_sizes are))

  -- the styles that are computed of the columns are those of the turned solid,
  pub seen_styles : (upright : Bool) (styles : List Style) → AreStylesAlong counts turned x.view upright styles
      → styles ≡ grid_styles (solid_drawing (turned_cells x s)) grid x.view upright
  seen_styles upright styles all = all grid (counts-turned x coordinates counts has) (turned_cells x s) turned_union

  -- whose drawing stays on the turned grid
  pub seen_on_grid : StaysOnGrid grid (solid_drawing (turned_cells x s))
  seen_on_grid = union_on_grid grid (counts-turned x coordinates counts has).ordered turned (turned_cells x s) turned_union
