-- Each made drawing has a grid: that of its row's ticks.
use Rattle.std.proofs.Common.{◌≡◌, ℕ, ◌≤◌, List, drop, length, ℤ, pos, refl, sym, subst, arith}
use Rattle.std.proofs.lemmas.List.{length-map}
use Rattle.solid_model.specs.declared.cell.Axis.{Axis}
use Rattle.solid_model.specs.declared.cell.Axis.TheVariants.{X, Y, Z}
use Rattle.solid_model.specs.declared.segment.Segment.{Segment}
use Rattle.solid_model.specs.declared.segment.Style.{Style}
use Rattle.solid_model.specs.Cells.{is_full}
use Rattle.solid_model.specs.DrawnStyle.{solid_drawing}
use Rattle.solid_model.specs.Grid.{Coordinates, AreGridCoordinates, IsUnionOf}
use Rattle.solid_model.specs.Limits.{most_grid_coordinates}
use Rattle.solid_model.specs.Moved.{SeesEachAxis}
use Rattle.solid_model.specs.Panels.{GridParts, coordinates_of, AreGridStyles, IsGridOf, IsGrid}
use Rattle.solid_model.proofs.DrawnPanels.{drawn_panels, drawn_panels_are}
use Rattle.drawing_maker.specs.declared.ticks.Tick.{Tick}
use Rattle.drawing_maker.specs.Made.{made_cubes, made_solid}
use Rattle.drawing_maker.specs.Rows.{row_ticks, coordinates_of_ticks, cells_before}
use Rattle.drawing_maker.proofs.MadeGrid.{made_coordinates, made_union}
use Rattle.drawing_maker.proofs.MadeRows.{few_ticks}
use Rattle.made_laws.proofs.MadeSolid.{made_is_drawing}

-- ---- the same coordinates along each axis

module _ (drawing : Segment → Style) (zs : List ℤ) where
  -- the grid with these coordinates, whose segments have the drawing's styles
  abbrev grid_along : GridParts
  grid_along = record { xs = zs; ys = zs; zs = zs; panels = drawn_panels drawing (λ a. zs) }

  same_along : (a : Axis) → coordinates_of grid_along a ≡ zs
  same_along X = refl
  same_along Y = refl
  same_along Z = refl

  styles_are : AreGridStyles drawing (coordinates_of grid_along) grid_along.panels
  styles_are = subst (λ (cs : Coordinates). AreGridStyles drawing cs grid_along.panels) (λ t a. sym (same_along a) t) (drawn_panels_are drawing (λ a. zs))

  -- it is the drawing's, where these are the coordinates
  is_grid_along : SeesEachAxis drawing → ((a : Axis) → AreGridCoordinates drawing a zs) → length zs ≤ most_grid_coordinates → IsGridOf drawing grid_along
  is_grid_along sees are few = record {
    coordinates = λ a. subst (AreGridCoordinates drawing a) (sym (same_along a)) (are a);
    few = λ a. subst (λ ws. length ws ≤ most_grid_coordinates) (sym (same_along a)) few;
    styles = styles_are;
    sees = sees;
  }

-- ---- made drawings

-- the grid of a made drawing
pub made_grid : ℕ → GridParts
made_grid n = grid_along (solid_drawing (made_solid n)) (coordinates_of_ticks (row_ticks (made_cubes n)))

-- it has the coordinates of the row's ticks
pub made_grid_along : (n : ℕ) (a : Axis) → coordinates_of (made_grid n) a ≡ coordinates_of_ticks (row_ticks (made_cubes n))
unfolding made_grid
made_grid_along n = same_along (solid_drawing (made_solid n)) (coordinates_of_ticks (row_ticks (made_cubes n)))

few_along : (n : ℕ) → length (coordinates_of_ticks (row_ticks (made_cubes n))) ≤ most_grid_coordinates
few_along n = let few = few_ticks n in omega (arith, length-map (row_ticks (made_cubes n)) (λ (s : Tick). pos s.at))

-- it is the grid of the drawing
pub made_grid_is : (n : ℕ) → IsGridOf (solid_drawing (made_solid n)) (made_grid n)
unfolding made_grid
made_grid_is n = is_grid_along (solid_drawing (made_solid n)) (coordinates_of_ticks (row_ticks (made_cubes n)))
    (made_is_drawing n).sees (made_coordinates n (λ a. coordinates_of_ticks (row_ticks (made_cubes n))) (λ a. refl)) (few_along n)

-- so it is a grid
pub made_grid_is_grid : (n : ℕ) → IsGrid (made_grid n)
made_grid_is_grid n = (solid_drawing (made_solid n), made_is_drawing n, made_grid_is n)

-- and the made solid is a union of its cells
pub made_grid_union : (n : ℕ) → IsUnionOf (coordinates_of (made_grid n)) (cells_before (drop 1 (row_ticks (made_cubes n)))) (is_full (made_solid n))
made_grid_union n = made_union n (coordinates_of (made_grid n)) (made_grid_along n)
