-- One plane more; and all of a side.
use Rattle.std.proofs.Common.{◌≡◌, ◌+◌, refl, subst, ◌∙◌, arith}
use Rattle.solid_model.specs.Faces.{outward, out_number}
use Rattle.solid_model.specs.Marks.{is_marked}
use Rattle.solid_model.specs.Panels.{coordinates_of}
use Rattle.solid_model.specs.PerAxis.{numbers_of}
use Rattle.report.specs.PlaneTexts.{AreFirstLines}
use Rattle.report.proofs.PlaneLines.{first_more, first_of_side}
use Rattle.report.proofs.plane_texts.put_side.Goals as goal

pub loop-at-preserved : goal.loop-at-preserved
loop-at-preserved c =
    let coordinates = coordinates_of c.args.grid.now in
    let m = c.args.cells.now in
    let n = out_number c.args.out in
    let at = c.loop-at.at in
    let (within, put) = c.in_ok-put_plane.ensures.put in
    let (p, is, lines) = put in
    let next : c.args.first + at + 1 ≡ c.args.first + (at + 1) = omega arith in
    record {
      each = c.put_plane.ensures.each;
      first = subst (AreFirstLines c.args.decimals coordinates (is_marked m) n (at + 1) c.put_plane.new.planes.items) next
          (first_more c.args.decimals coordinates m n at c.loop-at.planes.items c.put_plane.new.planes.items (c.args.first + at)
          c.loop-at.invariant.first c.args.out refl p is within lines);
    }

pub returns-clause-put : goal.returns-clause-put
returns-clause-put c =
    let coordinates = coordinates_of c.args.grid.now in
    let m = c.args.cells.now in
    let n = out_number c.args.out in
    let size : c.along-count.result ≡ numbers_of m.sizes (outward c.args.out).axis =
    c.along-count.ensures ∙ (λ i. numbers_of (c.sizes.ensures.sizes i) (c.direction.ensures i).axis) in
    let all : c.loop-at.at ≡ c.along-count.result + 1 = omega (arith, c.loop-at-test.false, c.loop-at.auto.at-end) in
    let end : c.args.first + c.loop-at.at ≡ c.args.first + (c.along-count.result + 1) = omega (arith, all) in
    subst (AreFirstLines c.args.decimals coordinates (is_marked m) (n + 1) 0 c.loop-at.planes.items) end
    (first_of_side c.args.decimals coordinates m n c.loop-at.at c.loop-at.planes.items (c.args.first + c.loop-at.at) c.args.out refl
    (omega (arith, all, size)) c.loop-at.invariant.first)
