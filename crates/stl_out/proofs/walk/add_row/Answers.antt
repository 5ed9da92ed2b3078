-- One square more.
use Rattle.std.proofs.Common.{◌++◌, ◌∙◌, ap, pos, ℕ, List}
use Rattle.faces.specs.PlaneSquares.{is_there}
use Rattle.stl_out.specs.declared.rectangle.Rectangle.{Rectangle}
use Rattle.stl_out.specs.Walk.{square_in, at_square}
use Rattle.stl_out.proofs.Walked.{one_more}
use Rattle.stl_out.proofs.walk.add_row.Goals as goal

pub loop-place-preserved : goal.loop-place-preserved
loop-place-preserved c =
    let there = is_there c.args.squares.now in
    let of : ℕ → List Rectangle = λ place. at_square there c.args.out (pos c.args.at) (square_in c.args.out c.args.row place) in
    c.in_ok-add_square.ensures ∙ ap (λ rs. rs ++ of c.loop-place.place) c.loop-place.invariant ∙ one_more of c.args.rectangles.now.items c.loop-place.place
