-- The row stays as it is, or gets more cells.
use Rattle.std.proofs.Common.{rules}
use Rattle.flood.specs.RowFlood.{ways_of}
use Rattle.flood.proofs.RowFloods.{pulls_none, pulls_more}
use Rattle.flood.proofs.row_flood.pull.Goals as goal

pub returns-then-cells-reached : goal.returns-then-cells-reached
returns-then-cells-reached c =
    pulls_none (ways_of c.args.ways.now) c.args.reached.now c.args.row c.pulled-cells.result c.pulled-cells.ensures.cells c.if-cells-reached.true

pub returns : goal.returns
returns c = pulls_more (ways_of c.args.ways.now) c.args.reached.now c.args.row c.pulled-cells.result c.requires.row c.pulled-cells.ensures.more
    c.if-cells-reached.false (search rules) c.pulled-cells.ensures.cells
