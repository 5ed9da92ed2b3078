-- The grid has the line, and so its places.
use Rattle.std.proofs.Common.{pos, ◌-ℤ◌, ◌+◌, ◌<◌, subst, refl}
use Rattle.line_demands.proofs.ColumnPlaces.{line_cell, line_at}
use Rattle.line_demands.proofs.beside.beside_of.Goals as goal
use Rattle.line_demands.specs.KeptColumns.{IsColumnOf, column_count}
use Rattle.solid_model.specs.PerAxis.{numbers_of}
use Rattle.solid_model.specs.WalledBoxes.{Sizes}
use Rattle.solid_model.specs.GridBox.{grid_sizes}

pub column_after-requires-clause-cell : goal.column_after-requires-clause-cell
column_after-requires-clause-cell c = line_cell c.args.grid.now (numbers_of c.sizes-sizes.result) c.args.line c.sizes-sizes.ensures.sizes c.requires

pub column_before-requires-clause-cell : goal.column_before-requires-clause-cell
column_before-requires-clause-cell c = line_cell c.args.grid.now (numbers_of c.sizes-sizes.result) c.args.line c.sizes-sizes.ensures.sizes c.requires

pub column_before-requires-clause-at : goal.column_before-requires-clause-at
column_before-requires-clause-at c = line_at c.args.grid.now (numbers_of c.sizes-sizes.result) c.args.line c.sizes-sizes.ensures.sizes c.requires

pub returns-clause-cell : goal.returns-clause-cell
returns-clause-cell c = line_cell c.args.grid.now (grid_sizes c.args.grid.now) c.args.line refl c.requires

pub returns-clause-after : goal.returns-clause-after
returns-clause-after c = subst (λ (s : Sizes). IsColumnOf s c.args.line (pos c.args.line.at) c.column_after.result) c.sizes-sizes.ensures.sizes c.column_after.ensures.is

pub returns-clause-before : goal.returns-clause-before
returns-clause-before c = subst (λ (s : Sizes). IsColumnOf s c.args.line (pos c.args.line.at -ℤ pos 1) c.column_before.result) c.sizes-sizes.ensures.sizes c.column_before.ensures.is

pub returns-clause-inside_after : goal.returns-clause-inside_after
returns-clause-inside_after c = subst (λ (s : Sizes). c.column_after.result < column_count s + 1) c.sizes-sizes.ensures.sizes c.column_after.ensures.inside

pub returns-clause-inside_before : goal.returns-clause-inside_before
returns-clause-inside_before c = subst (λ (s : Sizes). c.column_before.result < column_count s + 1) c.sizes-sizes.ensures.sizes c.column_before.ensures.inside
