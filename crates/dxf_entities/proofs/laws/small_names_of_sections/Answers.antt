-- Each comes out of the definitions by computing.
use Rattle.std.proofs.Common.{refl}
use Rattle.dxf_groups.specs.Numerals.{numeral_of, scaled_of}
use Rattle.dxf_entities.specs.Names.{layer_on}
use Rattle.dxf_entities.proofs.laws.small_names_of_sections.Goals as goal

pub returns : goal.returns
unfolding numeral_of scaled_of layer_on
returns c = record {
  section = refl;
  area = refl;
  spelled_so = refl;
  decimals = refl;
  not_whole = refl;
  too_far = refl;
  no_plane = refl;
  no_number = refl;
  two_planes = refl;
  no_view = refl;
  begins_so = refl;
  other = refl;
  six = refl;
  three = refl;
}
