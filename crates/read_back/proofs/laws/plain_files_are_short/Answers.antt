-- A printed coordinate has at most twelve bytes, so a line has at most 102.
use Rattle.read_back.proofs.Lengths.{plain_is_short}
use Rattle.read_back.proofs.laws.plain_files_are_short.Goals as goal

pub returns : goal.returns
returns c = plain_is_short
