-- No side yet.
use Rattle.std.proofs.Common.{arith}
use Rattle.solid_model.specs.Panels.{coordinates_of}
use Rattle.report.proofs.PlaneLines.{no_lines_yet}
use Rattle.report.proofs.plane_texts.put_all.Goals as goal

pub loop-out-init : goal.loop-out-init
loop-out-init c = record {
  each = c.requires.each;
  first = record { before = no_lines_yet c.args.decimals (coordinates_of c.args.grid.now) c.args.cells.now; within = omega arith };
}
