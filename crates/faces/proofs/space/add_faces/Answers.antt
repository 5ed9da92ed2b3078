-- One face more.
use Rattle.std.proofs.Common.{◌∙◌, ap, sym, subst}
use Rattle.lemmas.specs.Lists.{Each}
use Rattle.faces.specs.PlaneFaces.{IsNearLoop}
use Rattle.faces.proofs.LoopParts.{each-place}
use Rattle.faces.proofs.space.add_faces.Goals as goal

pub face_of-requires-clause-near : goal.face_of-requires-clause-near
face_of-requires-clause-near c =
    subst (Each IsNearLoop) (sym (c.as_slice.ensures.value ∙ ap (λ r. r.items) c.loops-item.is))
    (each-place (λ r. r.items) (Each IsNearLoop) c.args.groups.now c.loop-loops.loops-index c.loops-item.result c.loop-loops-test.true c.requires.near)
