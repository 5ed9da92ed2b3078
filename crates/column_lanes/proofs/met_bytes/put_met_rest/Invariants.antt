use Rattle.std.proofs.Common.{◌≡◌, length}
use Rattle.column_lanes.specs.Lanes.{AreBytes}
use Rattle.column_lanes.specs.Meets.{met_at}
use Rattle.column_lanes.proofs.met_bytes.put_met_rest.Given as goal

abbrev pub invariant-loop-at : goal.invariant-loop-at
invariant-loop-at l = record {
  room : length l.out ≡ length l.full_l;
  so_far : AreBytes (met_at l.full_l l.may_l l.full_r l.may_r l.want) l.out l.at;
}
