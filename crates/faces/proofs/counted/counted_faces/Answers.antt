-- All sides.
use Rattle.std.proofs.Common.{◌≡◌, subst, arith}
use Rattle.solid_model.specs.Marks.{is_marked}
use Rattle.faces.specs.FacesSoFar.{AreFacesBefore}
use Rattle.faces.proofs.MoreFaces.{all_faces}
use Rattle.faces.proofs.counted.counted_faces.Goals as goal

pub returns : goal.returns
returns c =
    let m = c.args.cells.now in
    let end : c.loop-out.out-index ≡ 6 = omega arith in
    all_faces m c.loop-out.faces.items (subst (λ n. AreFacesBefore (is_marked m) n 0 c.loop-out.faces.items) end c.loop-out.invariant)
