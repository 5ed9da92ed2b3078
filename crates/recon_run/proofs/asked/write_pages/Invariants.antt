-- The texts of the first pages are written.
use Rattle.std.proofs.Common.{◌≤◌, take}
use Rattle.std.specs.Io.KnownBytes.{Appends}
use Rattle.std.specs.List.{flat_map}
use Rattle.recon_run.specs.Readers.{page_text_of}
use Rattle.recon_run.proofs.asked.write_pages.Given as goal

abbrev pub invariant-loop-page : goal.invariant-loop-page
invariant-loop-page g l = (g.K.Sink.faults l.initial.sink ≤ g.K.Sink.faults l.sink)
    × Appends (g.K.Sink.held l.initial.sink) (g.K.Sink.held l.sink) (flat_map (page_text_of l.reader) (take l.page-index l.pages))
