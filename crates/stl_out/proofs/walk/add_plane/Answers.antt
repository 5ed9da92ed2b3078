-- One row more.
use Rattle.std.proofs.Common.{◌++◌, ◌∙◌, ap, pos, Bool}
use Rattle.solid_model.specs.Faces.{is_boundary}
use Rattle.solid_model.specs.Marks.{is_marked}
use Rattle.solid_model.specs.Rounds.{Spot}
use Rattle.stl_out.specs.Walk.{in_row}
use Rattle.stl_out.proofs.Walked.{one_more}
use Rattle.stl_out.proofs.walk.add_plane.Goals as goal

pub loop-row-preserved : goal.loop-row-preserved
loop-row-preserved c =
    let in_one = λ (squares : Spot → Bool). in_row squares c.args.out (pos c.args.at) c.along-count.result in
    let of = in_one (is_boundary (is_marked c.args.cells.now) c.args.out (pos c.args.at)) in
    c.in_ok-add_row.ensures ∙ ap (λ squares. c.loop-row.rectangles.items ++ in_one squares c.loop-row.row) (λ i q. c.in_ok-squares.ensures q i)
    ∙ ap (λ rs. rs ++ of c.loop-row.row) c.loop-row.invariant ∙ one_more of c.args.rectangles.now.items c.loop-row.row
