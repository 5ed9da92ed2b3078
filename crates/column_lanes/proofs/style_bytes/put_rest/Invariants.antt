use Rattle.std.proofs.Common.{◌≡◌, length}
use Rattle.column_lanes.specs.Lanes.{AreBytes}
use Rattle.column_lanes.specs.Styles.{code_at}
use Rattle.column_lanes.proofs.style_bytes.put_rest.Given as goal

abbrev pub invariant-loop-at : goal.invariant-loop-at
invariant-loop-at l = record {
  room : length l.out ≡ length l.after;
  so_far : AreBytes (code_at l.after l.before) l.out l.at;
}
