-- With those that are left all are there.
use Rattle.std.proofs.Common.{◌≡◌, ◌++◌, drop}
use Rattle.dxf_entities.specs.Reading.{other_lines}
use Rattle.dxf_entities.proofs.reading.other_lines.Given as goal

abbrev pub invariant-loop-line : goal.invariant-loop-line
invariant-loop-line l = l.other.items ++ other_lines (drop l.line-index l.lines) ≡ other_lines l.lines
