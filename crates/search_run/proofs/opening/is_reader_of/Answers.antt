-- A look tells whether the book is of the problem.
use Rattle.search_run.proofs.opening.is_reader_of.Goals as goal

pub returns : goal.returns
returns g c here =
    let (e, look, same) = c.is_of.ensures in
    record { edition = e; seen = look.known; problem = same.0 here; kept = look.kept }
