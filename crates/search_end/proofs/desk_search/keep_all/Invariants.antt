-- Each turn takes a piece of the rest.
use Rattle.std.proofs.Common.{vec_len}
use Rattle.search_end.proofs.desk_search.keep_all.Given as goal

abbrev pub decreases-loop-piece : goal.decreases-loop-piece
decreases-loop-piece l = vec_len l.rest
