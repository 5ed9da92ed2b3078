use Rattle.dxf_groups.proofs.FirstLines.{lines_behind}
use Rattle.dxf_groups.proofs.laws.lines_behind_lines.Goals as goal

pub returns : goal.returns
returns c = lines_behind
