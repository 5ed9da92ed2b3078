-- The tests stay, and the first layers are shown.
use Rattle.std.proofs.Common.{◌≡◌, take}
use Rattle.fit_lanes.specs.Tests.{ShowsIn}
use Rattle.lemmas.specs.Lists.{Each}
use Rattle.fit_lanes.proofs.layer_test.show_all.Given as goal

abbrev pub invariant-loop-test : goal.invariant-loop-test
invariant-loop-test l = (l.tests ≡ l.initial.tests) × Each (λ layer. ShowsIn layer l.choice) (take l.test-index l.initial.tests)
