-- The blocks of a made solid's grid.
use Rattle.std.proofs.Common.{◌≡◌, ℕ, List, drop, Option, refl}
use Rattle.solid_model.specs.declared.cell.Axis.{Axis}
use Rattle.solid_model.specs.Blocks.{AreBlocksOf}
use Rattle.solid_model.specs.DrawnStyle.{solid_drawing}
use Rattle.solid_model.specs.Grid.{Coordinates, AreGridCoordinates}
use Rattle.solid_model.specs.Panels.{GridParts, coordinates_of, IsGridOf}
use Rattle.solid_model.proofs.InGrid.{one_coordinates}
use Rattle.solid_model.proofs.UnionDrawing.{union_on_grid}
use Rattle.drawing_maker.specs.declared.cube.Cube.{Cube}
use Rattle.drawing_maker.specs.Made.{made_cubes, made_solid}
use Rattle.drawing_maker.specs.Cubes.{row_cells}
use Rattle.made_laws.specs.RowBlocks.{blocks_in_row, row_block_count}
use Rattle.drawing_maker.specs.Rows.{row_ticks, coordinates_of_ticks}
use Rattle.solid_model.proofs.StayingOnGrid.{coordinate_on_grid}
use Rattle.drawing_maker.proofs.MadeRows.{made_row}
use Rattle.made_laws.proofs.MadeSolid.{made_is_drawing}
use Rattle.made_laws.proofs.RowBlocks.{row_blocks, row_numbers}
use Rattle.drawing_maker.proofs.RowCoordinates.{row_coordinate}
use Rattle.drawing_maker.proofs.Rows.{IsRow}
use Rattle.drawing_maker.proofs.RowTicks.{ascends_row}
use Rattle.drawing_maker.proofs.RowUnion.{union_of_row}

-- the coordinates of the grid of a row's drawing are those of its ticks
module _ (ps : List Cube) (row : IsRow ps) where
  abbrev own_coordinates : Coordinates
  own_coordinates = λ a. coordinates_of_ticks (row_ticks ps)

  are_coordinates : (a : Axis) → AreGridCoordinates (solid_drawing (row_cells ps)) a (coordinates_of_ticks (row_ticks ps))
  are_coordinates a = record {
    ordered = ascends_row ps row;
    exact = λ z. (
      row_coordinate ps row a z,
      coordinate_on_grid own_coordinates (λ b. ascends_row ps row) (solid_drawing (row_cells ps))
          (union_on_grid own_coordinates (λ b. ascends_row ps row) _ (row_cells ps) (union_of_row ps row own_coordinates (λ b. refl))) a z,
    );
  }

  pub row_grid_coordinates : (g : GridParts) → IsGridOf (solid_drawing (row_cells ps)) g → (a : Axis) → coordinates_of g a ≡ coordinates_of_ticks (row_ticks ps)
  row_grid_coordinates g grid a = one_coordinates (solid_drawing (row_cells ps)) a (coordinates_of g a) (coordinates_of_ticks (row_ticks ps)) (grid.coordinates a) (are_coordinates a)

module _ (n : ℕ) (g : GridParts) (grid : IsGridOf (solid_drawing (made_solid n)) g) where
  -- of each cube its full cells together, and each of its voids
  pub made_blocks : AreBlocksOf g (blocks_in_row (made_cubes n) (drop 1 (row_ticks (made_cubes n)))) (row_block_count (made_cubes n))
  made_blocks = row_blocks (made_cubes n) (made_row n) g (row_grid_coordinates (made_cubes n) (made_row n) g grid) grid (made_is_drawing n)

  -- numbered in one way
  pub made_numbers : (numbers : List (Option ℕ)) (count : ℕ) → AreBlocksOf g numbers count
      → (numbers ≡ blocks_in_row (made_cubes n) (drop 1 (row_ticks (made_cubes n)))) × (count ≡ row_block_count (made_cubes n))
  made_numbers = row_numbers (made_cubes n) (made_row n) g (row_grid_coordinates (made_cubes n) (made_row n) g grid) grid (made_is_drawing n)
