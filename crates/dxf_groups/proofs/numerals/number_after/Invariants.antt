-- What is left to read is read on from the number so far.
use Rattle.std.proofs.Common.{◌≡◌, ◌<◌, ◌^◌, drop}
use Rattle.std.specs.Str.Parse.{digits_value_after}
use Rattle.dxf_groups.specs.NumeralParts.{capped}
use Rattle.dxf_groups.proofs.numerals.number_after.Given as goal

abbrev pub invariant-loop-digit : goal.invariant-loop-digit
invariant-loop-digit l = record {
  fits : l.number < 2 ^ 64;
  read_on : capped (digits_value_after 10 l.number (drop l.digit-index l.digits))
      ≡ capped (digits_value_after 10 l.fn.number l.digits);
}
