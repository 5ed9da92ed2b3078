-- The lines so far are doubted no more.
use Rattle.std.proofs.Common.{◌≡◌, ◌<◌, ℕ, false, length, get_or}
use Rattle.propagate.proofs.doubted.DoubtedLines.clear_all.Given as goal

abbrev pub invariant-loop-number : goal.invariant-loop-number
invariant-loop-number l = record {
  count : length l.self-inside.marks.items ≡ length l.fn.self;
  end : l.number-end ≡ length l.fn.self;
  none : (k : ℕ) → k < l.number → get_or l.self-inside.marks.items k false ≡ false;
}
