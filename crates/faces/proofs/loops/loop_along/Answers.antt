-- The loop of the first side.
use Rattle.std.proofs.Common.{◌∙◌, ap}
use Rattle.faces.specs.Border.{side_at}
use Rattle.solid_model.specs.Rounds.{left_square}
use Rattle.faces.proofs.LoopParts.{first-at}
use Rattle.faces.proofs.loops.loop_along.Goals as goal

pub returns : goal.returns
returns c =
    let side = side_at c.args.border.now.up_first in
    let square = c.left_square.ensures ∙ ap left_square (c.side.ensures ∙ ap side (first-at c.args.round.now)) in
    let corners = c.in_ok-corners_of.ensures in
    λ i. record { square = square i; corners = corners i }
