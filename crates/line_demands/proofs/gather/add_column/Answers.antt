-- One cell more.
use Rattle.std.proofs.Common.{◌≡◌, ◌<◌, ℕ, false, ap, sym, subst, ◌∙◌, refl, arith}
use Rattle.line_demands.specs.declared.gather.ColumnPlace.{ColumnPlace}
use Rattle.line_demands.specs.KeptColumns.{column_count}
use Rattle.line_demands.specs.Gathered.{IsGatheredTo, place_numbered}
use Rattle.line_demands.specs.Sight.{first_place, step_away}
use Rattle.line_demands.proofs.ColumnPlaces.{Stands, place_inside}
use Rattle.line_demands.proofs.Gathering.{gathered_more}
use Rattle.line_demands.proofs.gather.add_column.Goals as goal
use Rattle.solid_model.specs.declared.frame.Frame.{Frame}
use Rattle.solid_model.specs.Frames.{frame_of}
use Rattle.solid_model.specs.PerAxis.{numbers_of}
use Rattle.solid_model.specs.WalledBoxes.{Sizes}
use Rattle.solid_model.specs.GridBox.{grid_sizes, axis_along, axis_across}

pub place_of_column-place-requires-clause-there : goal.place_of_column-place-requires-clause-there
place_of_column-place-requires-clause-there c =
    subst (λ (s : Sizes). c.args.number < column_count s) (sym (c.sizes-sizes.ensures.sizes ∙ ap grid_sizes c.grid.ensures.grid)) c.requires.there

pub block_at_depth-block-requires-clause-sizes : goal.block_at_depth-block-requires-clause-sizes
block_at_depth-block-requires-clause-sizes c = c.sizes-sizes.ensures.sizes ∙ ap grid_sizes c.grid.ensures.grid

-- a column stands within its view
stands : (sizes grid : Sizes) (number : ℕ) (at : ColumnPlace) → sizes ≡ grid → number < column_count grid → at ≡ place_numbered sizes number → Stands sizes at
stands sizes grid number at same there is =
    subst (Stands sizes) (sym is) (place_inside sizes number (subst (λ (s : Sizes). number < column_count s) (sym same) there))

pub cells_of_column-cells-requires-clause-right : goal.cells_of_column-cells-requires-clause-right
cells_of_column-cells-requires-clause-right c =
    let sized = c.sizes-sizes.ensures.sizes ∙ ap grid_sizes c.grid.ensures.grid in
    let l = (stands (numbers_of c.sizes-sizes.result) _ c.args.number c.place_of_column-place.result sized c.requires.there c.place_of_column-place.ensures).0 in
    let few = c.sizes-sizes.ensures.few (axis_along c.place_of_column-place.result.view false) in
    omega arith

pub cells_of_column-cells-requires-clause-up : goal.cells_of_column-cells-requires-clause-up
cells_of_column-cells-requires-clause-up c =
    let sized = c.sizes-sizes.ensures.sizes ∙ ap grid_sizes c.grid.ensures.grid in
    let l = (stands (numbers_of c.sizes-sizes.result) _ c.args.number c.place_of_column-place.result sized c.requires.there c.place_of_column-place.ensures).1 in
    let few = c.sizes-sizes.ensures.few (axis_across c.place_of_column-place.result.view false) in
    omega arith

pub block_at_depth-block-requires-clause-right : goal.block_at_depth-block-requires-clause-right
block_at_depth-block-requires-clause-right c =
    (stands (numbers_of c.sizes-sizes.result) _ c.args.number c.place_of_column-place.result (c.sizes-sizes.ensures.sizes ∙ ap grid_sizes c.grid.ensures.grid) c.requires.there c.place_of_column-place.ensures).0

pub block_at_depth-block-requires-clause-up : goal.block_at_depth-block-requires-clause-up
block_at_depth-block-requires-clause-up c =
    (stands (numbers_of c.sizes-sizes.result) _ c.args.number c.place_of_column-place.result (c.sizes-sizes.ensures.sizes ∙ ap grid_sizes c.grid.ensures.grid) c.requires.there c.place_of_column-place.ensures).1

pub block_at_depth-block-requires-clause-cells : goal.block_at_depth-block-requires-clause-cells
block_at_depth-block-requires-clause-cells c =
    let sizes = numbers_of c.sizes-sizes.result in
    let at = c.place_of_column-place.result in record {
      first = c.cells_of_column-cells.ensures.first ∙ ap (λ (f : Frame). first_place sizes f at.right at.up) c.frame.ensures;
      step = c.cells_of_column-cells.ensures.step ∙ ap (λ (f : Frame). step_away sizes f) c.frame.ensures;
    }

pub loop-depth-preserved : goal.loop-depth-preserved
loop-depth-preserved c = gathered_more c.args.problem.now c.place_of_column-place.result c.args.number c.args.spans.now c.loop-depth.depth c.loop-depth.spans c.add_cell.new.spans c.loop-depth.on c.add_cell.new.on
    c.loop-depth.may c.in_ok-may.may c.block_at_depth-block.result c.loop-depth.invariant c.block_at_depth-block.ensures.block c.in_ok-may.ensures.spans c.in_ok-may.ensures.on c.in_ok-may.ensures.may

pub returns : goal.returns
returns c =
    let sized : numbers_of c.sizes-sizes.result ≡ grid_sizes c.args.problem.now.grid = c.sizes-sizes.ensures.sizes ∙ ap grid_sizes c.grid.ensures.grid in
    let at : c.place_of_column-place.result ≡ place_numbered (grid_sizes c.args.problem.now.grid) c.args.number = c.place_of_column-place.ensures ∙ ap (λ (s : Sizes). place_numbered s c.args.number) sized in
    let ended : c.loop-depth.depth ≡ c.along-depth-end.result = omega (arith, c.loop-depth-test.false, c.loop-depth.auto.depth-end) in
    let depth : c.loop-depth.depth ≡ grid_sizes c.args.problem.now.grid (frame_of c.place_of_column-place.result.view).away.axis =
    ended ∙ c.along-depth-end.ensures ∙ (λ t. sized t (c.frame-2.ensures t).away.axis) in
    record {
      full = refl;
      all = subst (λ (x : ColumnPlace). IsGatheredTo c.args.problem.now x c.args.number (grid_sizes c.args.problem.now.grid (frame_of x.view).away.axis) c.args.spans.now c.loop-depth.spans c.loop-depth.on c.loop-depth.may) at
          (subst (λ n. IsGatheredTo c.args.problem.now c.place_of_column-place.result c.args.number n c.args.spans.now c.loop-depth.spans c.loop-depth.on c.loop-depth.may) depth c.loop-depth.invariant);
    }
