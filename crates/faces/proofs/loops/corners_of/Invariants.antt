-- The corners so far.
use Rattle.std.proofs.Common.{◌≡◌, map, take}
use Rattle.faces.specs.Border.{side_at}
use Rattle.faces.specs.PlaneSquares.{is_there}
use Rattle.faces.specs.Points.{spot_of}
use Rattle.solid_model.specs.Rounds.{corners}
use Rattle.faces.proofs.loops.corners_of.Given as goal

abbrev pub invariant-loop-number : goal.invariant-loop-number
invariant-loop-number l =
    map spot_of l.found.items ≡ corners (is_there l.border.squares.now) (map (side_at l.border.up_first) (take l.number-index l.round))
