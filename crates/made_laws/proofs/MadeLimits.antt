-- Made drawings stay within the limits of a search: the blocks of their grids are those of their rows, which are few, and so are
-- their live prefixes and the solids that match them.
use Rattle.std.proofs.Common.{◌≡◌, ℕ, zero, suc, ◌*◌, ◌≤◌, List, [], Bool, true, not, ◌&&◌, length, Option, refl, subst, drop, arith}
use Rattle.drawing_maker.specs.declared.cube.Kind.{Kind}
use Rattle.drawing_maker.specs.declared.cube.Kind.TheVariants.{UnitCube, HollowCube, EightVoids}
use Rattle.drawing_maker.specs.Made.{generator_of, has_eight_voids, later_cubes, made_cubes, made_solid}
use Rattle.drawing_maker.specs.Cubes.{next_origin}
use Rattle.drawing_maker.proofs.Drawn.{after_two, first_by, later_by}
use Rattle.made_laws.proofs.DemandedBlocks.{sum_with}
use Rattle.made_laws.specs.RowBlocks.{block_count, blocks_in_row, row_block_count}
use Rattle.drawing_maker.specs.Rows.{row_ticks}
use Rattle.made_laws.proofs.CountsOfLive.{few_live, few_solids}
use Rattle.made_laws.proofs.DemandedColumns.{IsProblemOf}
use Rattle.made_laws.proofs.MadeBlocks.{made_blocks, made_numbers, row_grid_coordinates}
use Rattle.drawing_maker.proofs.MadeRows.{made_row}
use Rattle.made_laws.proofs.MadeSolid.{made_is_drawing}
use Rattle.made_laws.proofs.SomeMadeGrid.{made_grid, made_grid_is}
use Rattle.rand_pcg.specs.Lcg.{Lcg}
use Rattle.column_laws.proofs.LivePrefixes.{live_keeps_matching}
use Rattle.solid_model.specs.declared.cell.Axis.{Axis}
use Rattle.solid_model.specs.declared.cell.Axis.TheVariants.{X, Y, Z}
use Rattle.solid_model.specs.declared.cell.Cell.{Cell}
use Rattle.solid_model.specs.Blocks.{AreBlocksOf, IsBlocksOf, ProblemParts}
use Rattle.solid_model.specs.Choices.{IsMatchingChoice}
use Rattle.solid_model.specs.Forcing.{is_live}
use Rattle.solid_model.specs.DrawnStyle.{solid_drawing}
use Rattle.solid_model.specs.Limits.{most_blocks}
use Rattle.solid_model.specs.Matching.{AreSolidsOf}
use Rattle.solid_model.specs.Panels.{GridParts, coordinates_of, IsGridOf}
use Rattle.solid_model.specs.PerAxis.{numbers_of}
use Rattle.solid_model.specs.Tree.{live_below, live_count}
use Rattle.solid_model.specs.GridBox.{grid_sizes}
use Rattle.solid_model.proofs.BlockChoices.{all_solids_of_blocks}
use Rattle.solid_model.proofs.CompleteTree.{complete_tree}
use Rattle.solid_model.proofs.SolidOrder.{one_list_of_solids}
use Rattle.solid_model.proofs.SolidsOfChoices.{as_many}

-- ---- blocks

few_of_kind : (kind : Kind) → block_count kind ≤ 9
few_of_kind UnitCube = omega arith
few_of_kind HollowCube = omega arith
few_of_kind EightVoids = omega arith

few_of_later : (more : ℕ) (g : Lcg) (alone : Bool) (origin : ℕ) → row_block_count (later_cubes more g alone origin) ≤ 9 * more
few_of_later zero g alone origin = omega arith
few_of_later (suc more) g alone origin =
    let p = later_by g alone origin in
    let still = alone && not (has_eight_voids p.kind) in
    let behind = few_of_later more (after_two g) still (next_origin p) in
    omega (arith, few_of_kind p.kind, behind, sum_with p (later_cubes more (after_two g) still (next_origin p)))

few_blocks_of_row : (n : ℕ) → row_block_count (made_cubes n) ≤ 126
few_blocks_of_row n =
    let g = generator_of n in
    let p = first_by g in
    let behind = few_of_later 13 (after_two g) true (next_origin p) in
    omega (arith, few_of_kind p.kind, behind, sum_with p (later_cubes 13 (after_two g) true (next_origin p)))

module _ (n : ℕ) (g : GridParts) (grid : IsGridOf (solid_drawing (made_solid n)) g) where
  -- a grid of a made drawing has few blocks
  pub few_made_blocks : (numbers : List (Option ℕ)) (count : ℕ) → AreBlocksOf g numbers count → count ≤ most_blocks
  few_made_blocks numbers count are = let few = few_blocks_of_row n in omega (arith, (made_numbers n g grid numbers count are).1)

-- ---- live prefixes

module _ (n : ℕ) (p : ProblemParts) (grid : IsGridOf (solid_drawing (made_solid n)) p.grid) (blocks : IsBlocksOf p.grid p.blocks) where
  is_problem : IsProblemOf (made_cubes n) p
  is_problem =
      let are = made_numbers n p.grid grid p.blocks.numbers p.blocks.count blocks.blocks in
      record { row = made_row n; drawing = made_is_drawing n; grid = grid; coordinates = row_grid_coordinates (made_cubes n) (made_row n) p.grid grid; blocks = blocks; numbers = are.0; count = are.1 }

  pub few_made_nodes : live_count (is_live p) p.blocks.count [] ≤ 1000000
  few_made_nodes = few_live n p is_problem

  pub few_made_choices : length (live_below (is_live p) p.blocks.count []) ≤ 4096
  few_made_choices = few_solids n p is_problem

-- ---- solids

-- the problem of a made drawing
abbrev pub made_problem : ℕ → ProblemParts
made_problem n = record {
  grid = made_grid n;
  blocks = record {
    sizes = record { x = grid_sizes (made_grid n) X; y = grid_sizes (made_grid n) Y; z = grid_sizes (made_grid n) Z };
    numbers = blocks_in_row (made_cubes n) (drop 1 (row_ticks (made_cubes n)));
    count = row_block_count (made_cubes n);
  };
}

pub made_blocks_are : (n : ℕ) → IsBlocksOf (made_problem n).grid (made_problem n).blocks
made_blocks_are n = record { sized = sized; blocks = made_blocks n (made_grid n) (made_grid_is n) }
  where
    sized : (a : Axis) → numbers_of (made_problem n).blocks.sizes a ≡ grid_sizes (made_grid n) a
    sized X = refl
    sized Y = refl
    sized Z = refl

pub few_made_solids : (n : ℕ) (solids : List (List Cell)) → AreSolidsOf (solid_drawing (made_solid n)) solids → length solids ≤ 4096
few_made_solids n solids all =
    let drawing = solid_drawing (made_solid n) in let p = made_problem n in
    let whole = live_below (is_live p) p.blocks.count [] in
    let matching = complete_tree (IsMatchingChoice drawing (coordinates_of p.grid) p.blocks.numbers) (is_live p) p.blocks.count
    (live_keeps_matching drawing (made_is_drawing n) p (made_grid_is n) (made_blocks_are n)) in
    let (listed, are, filled) = all_solids_of_blocks drawing p.grid (made_grid_is n) p.blocks.numbers p.blocks.count (made_blocks_are n).blocks whole matching in
    let many = as_many (coordinates_of p.grid) p.blocks.numbers p.blocks.count whole listed filled in
    let few = few_made_choices n p (made_grid_is n) (made_blocks_are n) in
    subst (λ (ss : List (List Cell)). length ss ≤ 4096) (one_list_of_solids drawing listed solids are all) (omega (arith, many, few))
