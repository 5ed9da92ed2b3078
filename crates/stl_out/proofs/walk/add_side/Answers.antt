-- One plane more.
use Rattle.std.proofs.Common.{◌++◌, ◌∙◌, ap}
use Rattle.stl_out.specs.Walk.{in_plane}
use Rattle.stl_out.proofs.Walked.{one_more}
use Rattle.stl_out.proofs.walk.add_side.Goals as goal

pub loop-at-preserved : goal.loop-at-preserved
loop-at-preserved c =
    let of = in_plane c.args.cells.now c.args.out in
    c.in_ok-add_plane.ensures ∙ ap (λ rs. rs ++ of c.loop-at.at) c.loop-at.invariant ∙ one_more of c.args.rectangles.now.items c.loop-at.at
