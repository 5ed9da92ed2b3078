use Rattle.std.proofs.Common.{◌≡◌, ◌≤◌, ◌+◌, ◌∷◌, [], length, reverse}
use Rattle.dxf_groups.specs.TextLines.{text_lines}
use Rattle.completeness_logs.specs.Logs.{nothing_known}
use Rattle.completeness_logs.specs.LogTexts.{most_listed}
use Rattle.completeness_logs.specs.SplitMarks.{AreSplitMarks, all_to_come}
use Rattle.proof_check.specs.LogLines.{log_reading}
use Rattle.proof_check.specs.Walks.{LeadsTo}
use Rattle.proof_check.proofs.walk.check_lines.Given as goal

abbrev pub invariant-loop-open : goal.invariant-loop-open
invariant-loop-open l = record {
  problem : l.partial.problem ≡ l.fn.partial.problem;
  marks : AreSplitMarks l.partial.decisions (reverse l.marks.items);
  few : length l.listed.items ≤ most_listed;
  some : 2 ≤ l.number;
  short : l.number + length l.rest ≤ 2 + length l.log;
  goes : LeadsTo l.fn.partial.problem log_reading
      (record { coming = nothing_known ∷ []; listed = []; number = 2; lines = text_lines l.log })
      (record { coming = all_to_come l.open l.partial.decisions (reverse l.marks.items); listed = l.listed.items; number = l.number; lines = text_lines l.rest });
}

abbrev pub decreases-loop-open : goal.decreases-loop-open
decreases-loop-open l = length l.rest
