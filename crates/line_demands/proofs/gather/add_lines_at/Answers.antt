-- One more.
use Rattle.line_demands.proofs.KeptState.{is_beside}
use Rattle.line_demands.proofs.MoreSides.{line_more}
use Rattle.line_demands.proofs.gather.add_lines_at.Goals as goal
use Rattle.std.proofs.Common.{ℕ, ◌+◌, map, sym, subst}
use Rattle.std.specs.List.{range_with_len}
use Rattle.line_demands.specs.Gathered.{AreMoreSides}
use Rattle.solid_model.specs.declared.line_id.LineId.{LineId}

pub loop-cell-preserved : goal.loop-cell-preserved
loop-cell-preserved c =
    let f : ℕ → LineId = λ cell. record { view = c.args.view; upright = c.args.upright; at = c.args.at; cell = cell } in
    let told = c.beside_of.ensures in
    let beside = is_beside c.args.problem.now c.grid-in-loop-cell.result.now c.beside_of.result (f c.loop-cell.cell) c.grid-in-loop-cell.ensures.grid
    told.line told.cell told.style told.after told.before told.inside_after told.inside_before in
    subst (AreMoreSides c.args.problem.now (map f (range_with_len 0 (c.loop-cell.cell + 1))) (c.loop-cell.cell + 1) c.args.sides.now.items) (sym c.in_ok-push.ensures.items)
    (line_more c.args.problem.now f c.loop-cell.cell c.args.sides.now.items c.loop-cell.sides.items c.beside_of.result c.loop-cell.invariant beside told.line)
