-- One plane more; and all of a side.
use Rattle.std.proofs.Common.{◌≡◌, ◌+◌, refl, sym, subst, ◌∙◌, arith}
use Rattle.solid_model.specs.Faces.{outward, out_number}
use Rattle.solid_model.specs.Marks.{is_marked}
use Rattle.solid_model.specs.PerAxis.{numbers_of}
use Rattle.faces.specs.FacesSoFar.{AreFacesBefore}
use Rattle.faces.proofs.MoreFaces.{plane_more, side_done}
use Rattle.faces.proofs.counted.add_side_faces.Goals as goal

pub loop-at-preserved : goal.loop-at-preserved
loop-at-preserved c =
    let full = is_marked c.args.cells.now in
    let (new, is, are) = c.in_ok-add_plane_faces.ensures in
    subst (AreFacesBefore full (out_number c.args.out) (c.loop-at.at + 1)) (sym is)
    (plane_more full (out_number c.args.out) c.loop-at.at c.loop-at.faces.items c.loop-at.invariant c.args.out refl new are)

pub returns : goal.returns
returns c =
    let m = c.args.cells.now in
    let size : c.along-planes.result ≡ numbers_of m.sizes (outward c.args.out).axis =
    c.along-planes.ensures ∙ (λ i. numbers_of (c.sizes.ensures.sizes i) (c.direction.ensures i).axis) in
    side_done m (out_number c.args.out) c.loop-at.at c.loop-at.faces.items c.args.out refl (omega arith) c.loop-at.invariant
