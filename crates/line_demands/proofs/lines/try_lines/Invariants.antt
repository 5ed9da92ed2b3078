-- The lines so far are tried.
use Rattle.std.proofs.Common.{◌≡◌, ◌≤◌, ◌+◌, length, take, vec_capacity}
use Rattle.line_demands.specs.Lines.{AreMarked, AreTried, AreFreeAmong}
use Rattle.line_demands.proofs.lines.try_lines.Given as goal

abbrev pub invariant-loop-place : goal.invariant-loop-place
invariant-loop-place g l = record {
  end : l.place-end ≡ length l.lines;
  marked : AreMarked l.met l.broken.items;
  count : length l.met ≡ length l.fn.met;
  room : vec_capacity l.broken ≡ vec_capacity l.fn.broken;
  tried : AreTried l.columns l.sides (take l.place l.lines) l.fn.broken.items l.broken.items;
  free : AreFreeAmong l.columns l.sides l.lines l.place l.broken.items l.doubts;
  steps : l.steps ≤ l.fn.steps + l.place;
}
