-- A row has grown, or one more is closed.
use Rattle.std.proofs.Common.{◌+◌, sym, subst, arith}
use Rattle.flood.specs.RowFlood.{ways_of, AreClosedRows}
use Rattle.flood.proofs.RowFloods.{grows_none, grows_then, closed_still, closed_one_more}
use Rattle.flood.proofs.row_flood.flood_rows.Goals as goal

pub loop-row-init : goal.loop-row-init
loop-row-init c = record {
  grows = grows_none (ways_of c.args.ways.now) c.args.reached.now;
  within = omega arith;
  closed = λ r l. absurd (omega (arith, l));
}

pub first_open-row-requires-clause-closed : goal.first_open-row-requires-clause-closed
first_open-row-requires-clause-closed c =
    closed_still (ways_of c.args.ways.now) c.loop-row.reached c.pull.new.reached c.loop-row.row c.pull.ensures.others c.loop-row.invariant.closed

pub loop-row-preserved-then-pull : goal.loop-row-preserved-then-pull
loop-row-preserved-then-pull c = record {
  grows = grows_then (ways_of c.args.ways.now) c.args.reached.now c.loop-row.reached c.pull.new.reached c.loop-row.invariant.grows c.pull.ensures.grows;
  within = omega (arith, c.first_open-row.ensures.within, c.loop-row.invariant.within, c.pull.ensures.grows.size);
  closed = c.first_open-row.ensures.closed;
}

pub loop-row-preserved : goal.loop-row-preserved
loop-row-preserved c =
    let same = c.pull.ensures.same c.if-pull.false in record {
      grows = grows_then (ways_of c.args.ways.now) c.args.reached.now c.loop-row.reached c.pull.new.reached c.loop-row.invariant.grows c.pull.ensures.grows;
      within = omega (arith, c.loop-row-test.true, c.pull.ensures.grows.size);
      closed = subst (λ rows. AreClosedRows (ways_of c.args.ways.now) rows (c.loop-row.row + 1)) (sym same)
          (closed_one_more (ways_of c.args.ways.now) c.loop-row.reached c.loop-row.row c.loop-row.invariant.closed (c.pull.ensures.closed c.if-pull.false));
    }
