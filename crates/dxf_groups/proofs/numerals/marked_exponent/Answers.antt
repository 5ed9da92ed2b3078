-- A digit or more, and nothing after them, are a number.
use Rattle.std.proofs.Common.{length, refl, sym, ◌∙◌}
use Rattle.std.specs.Str.Parse.{digits_value}
use Rattle.std.proofs.lemmas.Bool.{eqb-true, eqb-false}
use Rattle.dxf_groups.specs.Numerals.{with_sign}
use Rattle.dxf_groups.proofs.NumeralReading.{marked_by_parts, signed_digits}
use Rattle.dxf_groups.proofs.numerals.marked_exponent.Goals as goal

pub returns : goal.returns
returns c =
    let sign = c.split_sign-negative.ensures in
    let split = c.split_digits.ensures in
    let negative = c.split_sign-negative.result.0 in
    let digits = c.split_digits.result.0.now in
    let rest = c.split_digits.result.1.now in
    let read = signed_digits negative digits rest (eqb-false (length digits) 0 (sym c.if-is_empty.ensures))
    (eqb-true (length rest) 0 (sym c.if-not-is_empty.ensures)) in
    record {
      value = with_sign negative (digits_value 10 digits);
      is =
          marked_by_parts c.args.text.now negative c.split_sign-negative.result.1.now digits rest
          sign.negative sign.rest split.leading split.past ∙ read;
      is_kept = record {
        magnitude = digits_value 10 digits;
        value = refl;
        kept_as = c.number_after-magnitude.ensures;
      };
    }
