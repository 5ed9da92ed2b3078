-- Each comes out of the definitions by computing.
use Rattle.std.proofs.Common.{refl}
use Rattle.dxf_groups.specs.Numerals.{numeral_of, scaled_of}
use Rattle.dxf_entities.specs.Coordinates.{line_ends}
use Rattle.dxf_entities.specs.Judging.{drawn_by}
use Rattle.dxf_entities.specs.Names.{kind_of, layer_on, linetype_of, section_of}
use Rattle.dxf_entities.proofs.laws.small_files.Goals as goal

pub returns : goal.returns
unfolding numeral_of scaled_of drawn_by line_ends kind_of layer_on linetype_of section_of
returns c = record {
  kept = refl;
  by_layer = refl;
  layer_after = refl;
  application = refl;
  oblique = refl;
  not_ended = refl;
  misplaced = refl;
  decimals = refl;
}
