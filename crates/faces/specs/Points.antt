-- Points of a plane whose coordinates aren't negative.
use Rattle.std.specs.Prelude.{pos}
use Rattle.solid_model.specs.Rounds.{Spot}
use Rattle.faces.specs.declared.point.Point.{Point}

-- a point as a spot
abbrev pub spot_of : Point → Spot
spot_of p = record { u = pos p.u; v = pos p.v }
