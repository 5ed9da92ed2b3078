-- The tests of the first layers.
use Rattle.std.proofs.Common.{◌≡◌, take}
use Rattle.fit_lanes.specs.Tests.{layers_asked}
use Rattle.fit_lanes.proofs.layer_test.tests_of.Given as goal

abbrev pub invariant-loop-asked : goal.invariant-loop-asked
invariant-loop-asked l = l.tests.items ≡ layers_asked l.problem (take l.asked-index l.further)
