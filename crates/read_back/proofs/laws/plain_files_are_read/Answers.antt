-- The text is cut into fields, the fields into entities, and each entity gives its line.
use Rattle.read_back.proofs.LinesRead.{plain_is_read}
use Rattle.read_back.proofs.laws.plain_files_are_read.Goals as goal

pub returns : goal.returns
returns c = plain_is_read
