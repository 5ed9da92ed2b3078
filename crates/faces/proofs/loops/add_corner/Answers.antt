-- A corner more, or none.
use Rattle.std.proofs.Common.{◌∙◌, [], ◌∷◌, ap, sym, map}
use Rattle.std.proofs.lemmas.List.{map-append}
use Rattle.faces.specs.Border.{side_at}
use Rattle.faces.specs.PlaneSquares.{is_there}
use Rattle.faces.specs.Points.{spot_of}
use Rattle.faces.proofs.LoopParts.{corner_here, no_corner_here}
use Rattle.faces.proofs.loops.add_corner.Goals as goal

pub returns-in_ok-push : goal.returns-in_ok-push
returns-in_ok-push c =
    let t = c.args.border.now.squares.now in
    ap (map spot_of) c.in_ok-push.ensures.items ∙ map-append spot_of c.args.found.now.items (c.side-side.result.end ∷ [])
    ∙ corner_here (is_there t) (map spot_of c.args.found.now.items) c.side-side.result (side_at c.args.border.now.up_first c.args.number)
    c.side-side.ensures (sym c.turns.ensures ∙ c.if-turns.true)

pub returns-else-turns : goal.returns-else-turns
returns-else-turns c =
    let t = c.args.border.now.squares.now in
    no_corner_here (is_there t) (map spot_of c.args.found.now.items) c.side-side.result (side_at c.args.border.now.up_first c.args.number)
    c.side-side.ensures (sym c.turns.ensures ∙ c.if-turns.false)
