-- Each turn takes a value.
use Rattle.std.proofs.Common.{length}
use Rattle.search_tests.proofs.trees.+lets_on.Given as goal

abbrev pub decreases-lets_on : goal.decreases-lets_on
decreases-lets_on l = length l.values.now
