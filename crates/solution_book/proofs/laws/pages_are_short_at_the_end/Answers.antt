use Rattle.solution_book.proofs.Pages.{short_at_the_end}
use Rattle.solution_book.proofs.laws.pages_are_short_at_the_end.Goals as goal

pub returns : goal.returns
returns c = short_at_the_end
