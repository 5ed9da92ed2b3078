use Rattle.std.proofs.Common.{◌≡◌, ◌*◌, length}
use Rattle.column_lanes.specs.Lanes.{AreBytes}
use Rattle.column_lanes.specs.Styles.{code_at}
use Rattle.column_lanes.proofs.style_bytes.put_eights.Given as goal

abbrev pub invariant-loop-eight : goal.invariant-loop-eight
invariant-loop-eight l = record {
  room : length l.out ≡ length l.after;
  so_far : AreBytes (code_at l.after l.before) l.out (l.eight * 8);
}
