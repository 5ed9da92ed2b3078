-- The columns are the view's, and the runs of both kinds are made of them.
use Rattle.std.proofs.Common.{◌≤◌, ℕ, List, sym, subst, arith}
use Rattle.solid_model.specs.declared.cell.Axis.{Axis}
use Rattle.solid_model.specs.Grid.{gaps_along}
use Rattle.solid_model.specs.Panels.{coordinates_of}
use Rattle.solid_model.specs.PerAxis.{numbers_of}
use Rattle.column_lanes.specs.declared.column.Column.{Column}
use Rattle.columns.specs.ColumnLists.{AreColumns}
use Rattle.solid_model.specs.DrawnStyle.{solid_drawing}
use Rattle.six_views.specs.SightFrames.{sight_frame}
use Rattle.six_views.specs.Turned.{turned_cells}
use Rattle.six_views.proofs.SeenRuns.{columns_are, view_seen}
use Rattle.six_views.proofs.seen.seen_lines.Goals as goal

pub view_columns-requires : goal.view_columns-requires
view_columns-requires c a = subst (λ (n : Axis → ℕ). n a ≤ 64) (sym c.gaps.ensures) (let few = c.counts_of.ensures.few a in omega arith)

pub runs_along-requires : goal.runs_along-requires
runs_along-requires c = (
  c.args.cells.now,
  subst (λ (cs : List Column). AreColumns (sight_frame c.args.layer) (gaps_along (coordinates_of c.args.grid.now)) c.args.cells.now cs) (sym c.deref.ensures.value)
      (columns_are c.args.layer (numbers_of c.counts_of.result) (coordinates_of c.args.grid.now) c.counts_of.ensures.counts c.sight_frame.result (numbers_of c.gaps.result)
      c.args.cells.now c.in_ok-columns.columns.items c.sight_frame.ensures c.gaps.ensures c.in_ok-columns.ensures),
)

pub runs_along-requires-2 : goal.runs_along-requires-2
runs_along-requires-2 c = (
  c.args.cells.now,
  subst (λ (cs : List Column). AreColumns (sight_frame c.args.layer) (gaps_along (coordinates_of c.args.grid.now)) c.args.cells.now cs) (sym c.deref-2.ensures.value)
      (columns_are c.args.layer (numbers_of c.counts_of.result) (coordinates_of c.args.grid.now) c.counts_of.ensures.counts c.sight_frame.result (numbers_of c.gaps.result)
      c.args.cells.now c.in_ok-columns.columns.items c.sight_frame.ensures c.gaps.ensures c.in_ok-columns.ensures),
)

pub returns : goal.returns
returns c = λ s union g of.
    let x = c.args.layer in
    let are = columns_are x (numbers_of c.counts_of.result) (coordinates_of c.args.grid.now) c.counts_of.ensures.counts c.sight_frame.result (numbers_of c.gaps.result)
    c.args.cells.now c.in_ok-columns.columns.items c.sight_frame.ensures c.gaps.ensures c.in_ok-columns.ensures in
    let on = λ (cs : List Column). AreColumns (sight_frame x) (gaps_along (coordinates_of c.args.grid.now)) c.args.cells.now cs in
    view_seen x.view (solid_drawing (turned_cells x s)) c.in_ok-runs_along.field-0 c.in_ok-runs_along-2.field-0
    (c.in_ok-runs_along.ensures c.args.cells.now s (subst on (sym c.deref.ensures.value) are) union)
    (c.in_ok-runs_along-2.ensures c.args.cells.now s (subst on (sym c.deref-2.ensures.value) are) union) g of
