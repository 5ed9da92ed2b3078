-- The coordinates of a line's entity.
use Rattle.std.specs.Prelude.{ℕ, ◌+◌, ℤ, pos, Option, Some, None, Result, Ok, Err, if◌then◌else◌}
use Rattle.solid_model.specs.declared.fault.Fault.{Fault}
use Rattle.solid_model.specs.declared.fault.Fault.TheVariants as fault
use Rattle.dxf_groups.specs.declared.numerals.NumeralFault.{NumeralFault}
use Rattle.dxf_groups.specs.declared.numerals.NumeralFault.TheVariants as numeral
use Rattle.dxf_groups.specs.Numerals.{scaled_of}
use Rattle.dxf_groups.specs.Pairs.{TextPair}
use Rattle.dxf_entities.specs.Entries.{has_code}
use Rattle.dxf_entities.specs.Known.{Known}
use Rattle.dxf_entities.specs.Steps.{◌>>=◌}
use Rattle.dxf_entities.specs.declared.coordinates.Ends.{Ends}

-- the fault of a value that is no coordinate
abbrev pub value_fault : ℕ → ℤ → NumeralFault → Fault
value_fault line code numeral.BadNumber = fault.BadNumber line code
value_fault line code numeral.NotWhole = fault.NotWhole line code
value_fault line code numeral.TooFar = fault.TooFar line code

-- the coordinate that a value gives; a fault is that of the line after the code's
abbrev pub value_at : TextPair → Result ℤ NumeralFault → Result ℤ Fault
value_at p (Ok z) = Ok z
value_at p (Err e) = Err (value_fault (p.line + 1) p.code e)

-- a coordinate that isn't known yet is read with so many decimals; one that is known stands there again
abbrev pub coordinate_at : ℕ → TextPair → Option ℤ → Result ℤ Fault
coordinate_at decimals p (Some z) = Err (fault.Repeated p.line p.code)
coordinate_at decimals p None = value_at p (scaled_of decimals p.value)

-- One more pair is looked at: those with the codes 10 and 20 give the line's start, those with 11 and
-- 21 its end.
abbrev pub with_coordinate : ℕ → TextPair → Known → Result Known Fault
with_coordinate decimals p c =
    if has_code 10 p then (coordinate_at decimals p c.x0 >>= λ z. Ok (record c { x0 = Some z }))
    else (if has_code 20 p then (coordinate_at decimals p c.y0 >>= λ z. Ok (record c { y0 = Some z }))
    else (if has_code 11 p then (coordinate_at decimals p c.x1 >>= λ z. Ok (record c { x1 = Some z }))
    else (if has_code 21 p then (coordinate_at decimals p c.y1 >>= λ z. Ok (record c { y1 = Some z }))
    else Ok c)))

-- a coordinate that is there; or it is missing
abbrev pub present : ℕ → ℤ → Option ℤ → Result ℤ Fault
present line code (Some z) = Ok z
present line code None = Err (fault.Missing line code)

-- the ends of a line that has all four
unfoldable pub line_ends : ℕ → Known → Result Ends Fault
line_ends line c = do
  x0 ← present line (pos 10) c.x0
  y0 ← present line (pos 20) c.y0
  x1 ← present line (pos 11) c.x1
  y1 ← present line (pos 21) c.y1
  Ok (record { from = record { x = x0; y = y0 }; to = record { x = x1; y = y1 } })
