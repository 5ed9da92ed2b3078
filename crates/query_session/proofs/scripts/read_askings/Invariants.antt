-- What is read so far stands before what is read of the lines that are left.
use Rattle.std.proofs.Common.{◌≡◌, ◌≤◌, length}
use Rattle.dxf_groups.specs.TextLines.{text_lines}
use Rattle.query_session.specs.Sessions.{before, read_askings}
use Rattle.query_session.proofs.scripts.read_askings.Given as goal

abbrev pub invariant-loop-rest : goal.invariant-loop-rest
invariant-loop-rest l = record {
  read : read_askings l.fn.readers 0 (text_lines l.fn.bytes) ≡ before l.askings.items (read_askings l.fn.readers (length l.askings.items) (text_lines l.rest));
  few : length l.askings.items ≤ 100;
}

abbrev pub decreases-loop-rest : goal.decreases-loop-rest
decreases-loop-rest l = length l.rest
