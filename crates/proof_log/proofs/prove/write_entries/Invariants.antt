-- What is begun of a log, as far as it is written or stands in the piece.
use Rattle.std.proofs.Common.{◌≡◌, ◌≤◌, ℕ, List, length}
use Rattle.completeness_logs.specs.SplitMarks.{all_to_come}
use Rattle.proof_log.specs.Weights.{weight}
use Rattle.proof_log.specs.Writing.{Counts}
use Rattle.proof_log.proofs.Begun.{IsBegun}
use Rattle.tv_base.specs.Pieces.{WritesOn}
use Rattle.proof_log.proofs.prove.write_entries.Given as goal

abbrev pub invariant-loop-open : goal.invariant-loop-open
invariant-loop-open g l = record {
  problem : l.walk.problem ≡ l.fn.walk.problem;
  later : g.K.Sink.faults l.fn.sink ≤ g.K.Sink.faults l.sink;
  text : List ℕ;
  listed : ℕ;
  begun : IsBegun l.fn.walk.problem (all_to_come l.open l.walk.decisions l.walk.marks) text listed;
  written : WritesOn (g.K.Sink.held l.fn.sink) (g.K.Sink.held l.sink) text l.piece.items;
  room : length l.piece.items ≤ 64201;
  counted : Counts l.solids listed;
}

abbrev pub decreases-loop-open : goal.decreases-loop-open
decreases-loop-open g l = weight l.fn.walk.problem (all_to_come l.open l.walk.decisions l.walk.marks)
