use Rattle.solution_book.proofs.Known.{admits}
use Rattle.solution_book.proofs.book.Book.begin.Goals as goal

pub reader-requires : goal.reader-requires
reader-requires g c = admits
