use Rattle.std.proofs.Common.{◌≤◌, ◌-◌, ◌<◌, length}
use Rattle.std.specs.Io.KnownBytes.{Consumes}
use Rattle.tv_base.proofs.read.read_all.Given as goal

-- what was read so far
abbrev pub invariant-loop-bytes : goal.invariant-loop-bytes
invariant-loop-bytes g l = record {
  fits : length l.bytes.items ≤ l.most;
  buffer : 0 < length l.buffer.items;
  read : Consumes (g.S.Source.left l.initial.source) (g.S.Source.left l.source) l.bytes.items;
  later : g.S.Source.faults l.initial.source ≤ g.S.Source.faults l.source;
}

abbrev pub decreases-loop-bytes : goal.decreases-loop-bytes
decreases-loop-bytes g l = l.most - length l.bytes.items
