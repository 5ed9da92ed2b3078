-- No text is the exponent 0.
use Rattle.std.proofs.Common.{pos, refl, arith}
use Rattle.std.proofs.lemmas.List.{nil_from_length}
use Rattle.dxf_groups.proofs.numerals.exponent_of.Goals as goal

pub returns-in-empty : goal.returns-in-empty
returns-in-empty c = record {
  value = pos 0;
  is = rw (nil_from_length c.args.text.now (omega arith)) refl;
  is_kept = record { magnitude = 0; value = refl; kept_as = refl };
}
