-- With those that are left all are there.
use Rattle.std.proofs.Common.{◌≡◌, ◌++◌, drop}
use Rattle.dxf_entities.specs.Reading.{main_lines}
use Rattle.dxf_entities.proofs.reading.main_lines.Given as goal

abbrev pub invariant-loop-line : goal.invariant-loop-line
invariant-loop-line l = l.own.items ++ main_lines (drop l.line-index l.lines) ≡ main_lines l.lines
