-- Each step of the reading keeps that the lines so far are kept.
use Rattle.dxf_entities.proofs.KeptLines.{read_lines_are_kept}
use Rattle.dxf_entities.proofs.laws.read_lines_are_kept.Goals as goal

pub returns : goal.returns
returns c = read_lines_are_kept
