-- The texts of the first readers are written.
use Rattle.std.proofs.Common.{◌≤◌, take}
use Rattle.std.specs.Io.KnownBytes.{Appends}
use Rattle.recon_run.specs.Readers.{tales_text}
use Rattle.recon_run.proofs.asked.write_tales.Given as goal

abbrev pub invariant-loop-reader : goal.invariant-loop-reader
invariant-loop-reader g l = (g.K.Sink.faults l.initial.sink ≤ g.K.Sink.faults l.sink)
    × Appends (g.K.Sink.held l.initial.sink) (g.K.Sink.held l.sink) (tales_text 0 (take l.reader l.tales))
