-- No layer of a section is read.
use Rattle.dxf_entities.proofs.KeptLines.{none_cut_in_six_views}
use Rattle.dxf_entities.proofs.laws.six_views_have_no_cut.Goals as goal

pub returns : goal.returns
returns c = none_cut_in_six_views
