use Rattle.solution_book.proofs.Known.{looks}
use Rattle.solution_book.proofs.reader.entered.Goals as goal

pub enter_as-requires : goal.enter_as-requires
enter_as-requires g c = looks _ _
