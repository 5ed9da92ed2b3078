-- One side more.
use Rattle.std.proofs.Common.{◌∙◌, ◌++◌, [], ◌∷◌, ap, sym, get_or}
use Rattle.faces.specs.Border.{side_at}
use Rattle.faces.specs.PlaneSquares.{is_there}
use Rattle.solid_model.specs.Rounds.{corners}
use Rattle.faces.proofs.LoopParts.{corners-next}
use Rattle.faces.proofs.loops.corners_of.Goals as goal

pub loop-number-preserved : goal.loop-number-preserved
loop-number-preserved c =
    let t = c.args.border.now.squares.now in
    let side = side_at c.args.border.now.up_first in
    c.in_ok-add_corner.ensures
    ∙ ap (λ ps. ps ++ corners (is_there t) (side (get_or c.args.round.now c.loop-number.number-index 0) ∷ [])) c.loop-number.invariant
    ∙ sym (corners-next (is_there t) side c.args.round.now c.loop-number.number-index c.loop-number-test.true)
