-- Its lines are few, may be kept and draw the solid, and what is read differs in the numbers of lines only.
use Rattle.read_back.proofs.Written.{written_reads_back}
use Rattle.read_back.proofs.laws.written_files_read_back.Goals as goal

pub returns : goal.returns
returns c = written_reads_back
