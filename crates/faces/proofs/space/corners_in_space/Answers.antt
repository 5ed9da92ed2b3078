-- One corner more.
use Rattle.std.proofs.Common.{◌∙◌, ◌++◌, [], ◌∷◌, ap₂, sym, pos}
use Rattle.solid_model.specs.Faces.{place}
use Rattle.faces.specs.PlaneFaces.{IsNearSpot}
use Rattle.faces.specs.Points.{spot_of}
use Rattle.faces.proofs.LoopParts.{map-twice_next, each-place}
use Rattle.faces.proofs.space.corners_in_space.Goals as goal

pub corner-requires-clause-near : goal.corner-requires-clause-near
corner-requires-clause-near c = each-place spot_of IsNearSpot c.args.points.now c.loop-point.point-index _ c.loop-point-test.true c.requires.near

pub loop-point-preserved : goal.loop-point-preserved
loop-point-preserved c =
    c.in_ok-push.ensures.items ∙ ap₂ (λ cs d. cs ++ d ∷ []) c.loop-point.invariant c.corner.ensures
    ∙ sym (map-twice_next spot_of (place c.args.out (pos c.args.at)) c.args.points.now c.loop-point.point-index _ c.loop-point-test.true)
