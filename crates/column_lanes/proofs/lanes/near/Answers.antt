-- Lane by lane.
use Rattle.std.proofs.Common.{◌+◌, ◌-◌, ◌%◌, ◌^◌, ℕ}
use Rattle.std.specs.Int.RustNames.{bit_xor}
use Rattle.column_lanes.proofs.EightLanes.{each_two, all_are}
use Rattle.column_lanes.proofs.lanes.near.Goals as goal

pub returns : goal.returns
returns c = λ value lanes. each_two bit_xor lanes (each_two (λ (a b : ℕ). (a + (2 ^ 64 - b)) % 2 ^ 64) lanes (all_are 1))
