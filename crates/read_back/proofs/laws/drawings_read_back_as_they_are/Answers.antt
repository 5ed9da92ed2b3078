-- A view that begins at 0 stays as it is, and there is one way to move a view there.
use Rattle.read_back.proofs.Written.{drawing_as_it_is}
use Rattle.read_back.proofs.laws.drawings_read_back_as_they_are.Goals as goal

pub returns : goal.returns
returns c = drawing_as_it_is
