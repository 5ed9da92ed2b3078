-- What a clause sees of the adapters of std's readers and writers.
use Rattle.std.specs.Prelude.{ℕ}
use Rattle.tv_base.specs.declared.std_source.StdSource.{StdSource}
use Rattle.tv_base.specs.declared.std_sink.StdSink.{StdSink}

-- the reader of a source
abbrev pub reader_of : {R : Type 0} → StdSource R → R
reader_of source = source.reader

-- how often the reader has failed
abbrev pub source_faults : {R : Type 0} → StdSource R → ℕ
source_faults source = source.faults

-- the writer of a sink
abbrev pub writer_of : {W : Type 0} → StdSink W → W
writer_of sink = sink.writer

-- how often the writer has failed
abbrev pub sink_faults : {W : Type 0} → StdSink W → ℕ
sink_faults sink = sink.faults
