-- Each comes out of the definitions by computing.
use Rattle.std.proofs.Common.{refl}
use Rattle.dxf_groups.specs.Numerals.{numeral_of, scaled_of}
use Rattle.dxf_entities.specs.Coordinates.{line_ends}
use Rattle.dxf_entities.specs.Judging.{drawn_by}
use Rattle.dxf_entities.specs.Names.{kind_of, layer_on, linetype_of, section_of}
use Rattle.dxf_entities.proofs.laws.small_files_of_sections.Goals as goal

pub returns : goal.returns
unfolding numeral_of scaled_of drawn_by line_ends kind_of layer_on linetype_of section_of
returns c = record {
  kept = refl;
  passed_over = refl;
  misnamed = refl;
  on_paper = refl;
  unread = refl;
  geometry = refl;
  text = refl;
  arc = refl;
  oblique = refl;
}
