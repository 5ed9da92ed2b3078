use Rattle.solution_book.proofs.Pages.{one_list}
use Rattle.solution_book.proofs.laws.pages_are_one_list.Goals as goal

pub returns : goal.returns
returns c = one_list
