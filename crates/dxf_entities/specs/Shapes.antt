-- What an entity draws, as far as its pairs tell it.
use Rattle.std.specs.Prelude.{ℕ, List, [], ◌∷◌, Result, Ok}
use Rattle.solid_model.specs.declared.fault.Fault.{Fault}
use Rattle.dxf_groups.specs.Pairs.{TextPair}
use Rattle.dxf_entities.specs.declared.kind.Kind.{Kind}
use Rattle.dxf_entities.specs.declared.kind.Kind.TheVariants as kind
use Rattle.dxf_entities.specs.declared.shape.Shape.{Shape}
use Rattle.dxf_entities.specs.declared.shape.Shape.TheVariants as shape
use Rattle.dxf_entities.specs.Coordinates.{with_coordinate, line_ends}
use Rattle.dxf_entities.specs.Known.{Point, none_known, no_vertex}
use Rattle.dxf_entities.specs.Outlines.{with_vertex, route_of, whole_route}
use Rattle.dxf_entities.specs.Steps.{◌>>=◌}

-- what an entity of this kind draws, before its pairs tell anything
abbrev pub begun_shape : Kind → Shape
begun_shape kind.Line = shape.Line none_known
begun_shape kind.Polyline = shape.Polyline no_vertex
begun_shape kind.Geometry = shape.Nothing
begun_shape kind.Other = shape.Nothing

-- one more pair of an entity that begins on this line is looked at
abbrev pub with_shape : ℕ → ℕ → TextPair → Shape → Result Shape Fault
with_shape decimals line p (shape.Line c) =
    with_coordinate decimals p c >>= λ more. Ok (shape.Line more)
with_shape decimals line p (shape.Polyline o) =
    with_vertex decimals line p o >>= λ more. Ok (shape.Polyline more)
with_shape decimals line p shape.Nothing = Ok shape.Nothing

-- one more pair is looked at, unless there is a fault
abbrev pub more_shape : ℕ → ℕ → TextPair → Result Shape Fault → Result Shape Fault
more_shape decimals line p read = read >>= with_shape decimals line p

-- the pairs are looked at in the file's order
abbrev pub known_shape : ℕ → ℕ → List TextPair → Shape → Result Shape Fault
known_shape decimals line [] s = Ok s
known_shape decimals line (p ∷ ps) s =
    with_shape decimals line p s >>= known_shape decimals line ps

-- the points through which it goes, after the last pair
abbrev pub points_of : ℕ → Shape → Result (List Point) Fault
points_of line (shape.Line c) = line_ends line c >>= λ ends. Ok (ends.from ∷ ends.to ∷ [])
points_of line (shape.Polyline o) = whole_route line o.begun (route_of o)
points_of line shape.Nothing = Ok []
