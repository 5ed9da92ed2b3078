use Rattle.solution_book.proofs.Pages.{only_grow}
use Rattle.solution_book.proofs.laws.pages_only_grow.Goals as goal

pub returns : goal.returns
returns c = only_grow
