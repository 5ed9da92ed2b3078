-- One more.
use Rattle.line_demands.proofs.MoreSides.{lines_more, fewer}
use Rattle.line_demands.proofs.gather.add_lines.Goals as goal
use Rattle.std.proofs.Common.{◌≡◌, ◌≤◌, ◌+◌, ◌*◌, suc, subst, ap, ◌∙◌, arith}
use Rattle.std.specs.List.{flat_map, range_with_len}
use Rattle.line_demands.specs.Gathered.{AreMoreSides}
use Rattle.solid_model.specs.Demands.{lines_at}
use Rattle.solid_model.specs.GridBox.{grid_sizes, axis_across}

pub loop-at-preserved : goal.loop-at-preserved
loop-at-preserved c =
    let p = c.args.problem.now in
    let f = lines_at p.grid c.args.view c.args.upright in
    let n = c.loop-at.at in
    let e : n * 63 + 63 ≡ (n + 1) * 63 = omega arith in
    subst (λ m. AreMoreSides p (flat_map f (range_with_len 0 (n + 1))) m c.args.sides.now.items c.add_lines_at.new.sides.items) e
    (lines_more p f n c.args.sides.now.items c.loop-at.sides.items c.add_lines_at.new.sides.items c.loop-at.invariant c.in_ok-add_lines_at.ensures)

pub returns : goal.returns
returns c =
    let p = c.args.problem.now in
    let f = lines_at p.grid c.args.view c.args.upright in
    let size : c.cells_across-at-end.result ≡ grid_sizes p.grid (axis_across c.args.view c.args.upright) = c.cells_across-at-end.ensures.same ∙ ap (λ g. grid_sizes g (axis_across c.args.view c.args.upright)) c.grid.ensures.grid in
    let ended : c.loop-at.at ≡ suc c.cells_across-at-end.result = omega (arith, c.loop-at-test.false, c.loop-at.auto.at-end) in
    let few : c.loop-at.at * 63 ≤ 4032 = omega (arith, ended, c.cells_across-at-end.ensures.few) in
    subst (λ n. AreMoreSides p (flat_map f (range_with_len 0 n)) 4032 c.args.sides.now.items c.loop-at.sides.items) (ended ∙ ap suc size)
    (fewer p (flat_map f (range_with_len 0 c.loop-at.at)) (c.loop-at.at * 63) 4032 c.args.sides.now.items c.loop-at.sides.items few c.loop-at.invariant)
