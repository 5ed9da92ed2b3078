-- No layer of a further view is read.
use Rattle.dxf_entities.proofs.KeptLines.{none_further_in_three_views, same_faults, three_views_are_read}
use Rattle.dxf_entities.proofs.laws.three_views_have_no_further_line.Goals as goal

pub returns : goal.returns
returns c = record { lines = three_views_are_read; alone = none_further_in_three_views; fault = same_faults }
