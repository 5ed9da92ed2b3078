-- Its grid has no coordinate above 1,000, so no line of its sheet is out of reach.
use Rattle.made_laws.proofs.MadeFiles.{made_file_reads_back}
use Rattle.made_laws.proofs.laws.made_files_read_back.Goals as goal

pub returns : goal.returns
returns c = made_file_reads_back
