-- No step leads to further cells of the rows before. However far back it goes on, a word has grown.
use Rattle.std.proofs.Common.{◌+◌, ◌-◌, ◌*◌, ◌≤◌, length}
use Rattle.flood.specs.RowFlood.{ways_of, unreached, RowsGrow, AreClosedRows}
use Rattle.flood.proofs.row_flood.flood_rows.Given as goal

abbrev pub invariant-loop-row : goal.invariant-loop-row
invariant-loop-row l = record {
  grows : RowsGrow (ways_of l.ways) l.fn.reached l.reached;
  within : l.row ≤ length l.reached;
  closed : AreClosedRows (ways_of l.ways) l.reached l.row;
}

abbrev pub decreases-loop-row : goal.decreases-loop-row
decreases-loop-row l = unreached l.reached * (length l.reached + 1) + (length l.reached - l.row)
