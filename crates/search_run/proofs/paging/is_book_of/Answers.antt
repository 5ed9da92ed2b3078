-- A look tells whether the book is of the problem.
use Rattle.search_run.proofs.ReadPages.{read_first}
use Rattle.search_run.proofs.paging.is_book_of.Goals as goal

pub returns : goal.returns
returns g c here = read_first c.args.problem.now c.args.reader.now c.is_of.new.self c.is_of.ensures.0 c.is_of.ensures.1 (c.is_of.ensures.2.0 here)
