-- The vertices of a polyline's entity.
use Rattle.std.specs.Prelude.{ℕ, ◌+◌, ◌%◌, ◌==◌, Bool, false, List, [], ◌∷◌, ◌++◌, ℤ, pos, unsigned_abs, Option, Some, None, Result, Ok, Err, if◌then◌else◌}
use Rattle.std.specs.Option.{unwrap_or}
use Rattle.std.specs.Ordering.{int_eq}
use Rattle.solid_model.specs.declared.fault.Fault.{Fault}
use Rattle.solid_model.specs.declared.fault.Fault.TheVariants as fault
use Rattle.dxf_groups.specs.declared.numerals.NumeralFault.{NumeralFault}
use Rattle.dxf_groups.specs.declared.numerals.NumeralFault.TheVariants as numeral
use Rattle.dxf_groups.specs.Numerals.{scaled_of, whole_of}
use Rattle.dxf_groups.specs.Pairs.{TextPair}
use Rattle.dxf_entities.specs.Coordinates.{value_at}
use Rattle.dxf_entities.specs.Entries.{has_code}
use Rattle.dxf_entities.specs.Known.{Point, KnownOutline}
use Rattle.dxf_entities.specs.Steps.{◌>>=◌}

-- the x coordinate of a vertex that begins, where the one before it doesn't lack its y coordinate
abbrev pub first_x : ℕ → ℕ → TextPair → Option ℤ → Result ℤ Fault
first_x decimals line p (Some x) = Err (fault.Missing line (pos 20))
first_x decimals line p None = value_at p (scaled_of decimals p.value)

-- a pair with code 10 begins a vertex
abbrev pub with_x : ℕ → ℕ → TextPair → KnownOutline → Result KnownOutline Fault
with_x decimals line p o =
    first_x decimals line p o.begun >>= λ x. Ok (record o { begun = Some x })

-- the y coordinate ends the vertex that lacks it; else none has begun, or the last one has it already
abbrev pub ended_vertex : ℕ → ℕ → TextPair → Option ℤ → List Point → Result Point Fault
ended_vertex decimals line p (Some x) vertices =
    value_at p (scaled_of decimals p.value) >>= λ y. Ok (record { x = x; y = y })
ended_vertex decimals line p None [] = Err (fault.Missing line (pos 10))
ended_vertex decimals line p None (v ∷ vs) = Err (fault.Repeated p.line p.code)

-- a pair with code 20 ends a vertex
abbrev pub with_y : ℕ → ℕ → TextPair → KnownOutline → Result KnownOutline Fault
with_y decimals line p o = ended_vertex decimals line p o.begun o.vertices
    >>= λ v. Ok (record o { vertices = o.vertices ++ v ∷ []; begun = None })

-- a side is straight where its bulge is 0
abbrev pub flat : ℕ → TextPair → Result ℤ NumeralFault → Result (Unit {0}) Fault
flat line p (Err numeral.BadNumber) = Err (fault.BadNumber (p.line + 1) p.code)
flat line p (Err numeral.NotWhole) = Err (fault.Curved line)
flat line p (Err numeral.TooFar) = Err (fault.Curved line)
flat line p (Ok z) = if int_eq z (pos 0) then Ok tt else Err (fault.Curved line)

-- flags that are odd close the polyline; the first ones count
abbrev pub first_flags : TextPair → Option Bool → Result Bool Fault
first_flags p (Some closed) = Ok closed
first_flags p None = value_at p (whole_of p.value) >>= λ z. Ok (unsigned_abs z % 2 == 1)

-- One more pair is looked at: those with the codes 10 and 20 give vertices, those with 42 the bulges
-- of the sides, and the first with 70 the flags.
abbrev pub with_vertex : ℕ → ℕ → TextPair → KnownOutline → Result KnownOutline Fault
with_vertex decimals line p o =
    if has_code 10 p then with_x decimals line p o
    else (if has_code 20 p then with_y decimals line p o
    else (if has_code 42 p then (flat line p (whole_of p.value) >>= λ _. Ok o)
    else (if has_code 70 p then (first_flags p o.closed >>= λ closed. Ok (record o { closed = Some closed }))
    else Ok o)))

-- the vertices of two or more, and the first one again
abbrev pub come_back : List Point → List Point
come_back [] = []
come_back (a ∷ []) = a ∷ []
come_back (a ∷ b ∷ vs) = (a ∷ b ∷ vs) ++ a ∷ []

-- the points through which a polyline goes: its vertices, and where it is closed the first one again
abbrev pub route_of : KnownOutline → List Point
route_of o = if unwrap_or o.closed false then come_back o.vertices else o.vertices

-- the last vertex may not lack its y coordinate
abbrev pub whole_route : ℕ → Option ℤ → List Point → Result (List Point) Fault
whole_route line (Some x) points = Err (fault.Missing line (pos 20))
whole_route line None points = Ok points
