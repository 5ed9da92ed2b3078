-- What is come to are all boundary rectangles.
use Rattle.std.proofs.Common.{◌≡◌, ◌∙◌, take, sym, subst, ap, arith}
use Rattle.std.specs.List.{flat_map}
use Rattle.solid_model.specs.Marks.{is_marked}
use Rattle.stl_out.specs.Rectangles.{AreRectanglesOf}
use Rattle.stl_out.specs.Walk.{on_side, on_all_sides}
use Rattle.stl_out.proofs.CellSides.{six_outs}
use Rattle.stl_out.proofs.Walked.{all_rectangles}
use Rattle.stl_out.proofs.walk.boundary_rectangles.Goals as goal

pub returns-clause-all : goal.returns-clause-all
returns-clause-all c =
    let m = c.args.cells.now in
    let end : c.loop-out.out-index ≡ 6 = omega arith in
    let walked : c.loop-out.rectangles.items ≡ on_all_sides m = c.loop-out.invariant ∙ ap (λ n. flat_map (on_side m) (take n six_outs)) end in
    subst (AreRectanglesOf (is_marked m)) (sym walked) (all_rectangles m)
