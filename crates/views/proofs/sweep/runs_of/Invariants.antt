use Rattle.std.proofs.Common.{◌<◌, length, take, get_or}
use Rattle.views.specs.declared.strokes.Stroke.{Stroke}
use Rattle.views.specs.Strokes.{BeginsFrom}
use Rattle.views.specs.Sweeps.{HasSeen, KeepsRuns}
use Rattle.views.proofs.sweep.runs_of.Given as goal

abbrev pub invariant-loop-stroke : goal.invariant-loop-stroke
invariant-loop-stroke l = record {
  sweep : KeepsRuns l.sweep;
  drawn : HasSeen (take l.stroke-index l.strokes) l.sweep;
  next : (d : Stroke) → l.stroke-index < length l.strokes → BeginsFrom l.sweep.at l.sweep.from (get_or l.strokes l.stroke-index d);
}
