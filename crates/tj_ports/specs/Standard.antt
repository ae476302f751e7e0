-- What clauses see of the standard ports.
use Rattle.std.specs.Prelude.{ℕ}
use Rattle.tj_ports.specs.declared.standard.StdSource.{StdSource}
use Rattle.tj_ports.specs.declared.standard.StdSink.{StdSink}

-- the reader that a source takes from
abbrev pub reader_of : {I : Type 0} → StdSource I → I
reader_of source = source.input

-- how often it has failed
abbrev pub read_faults : {I : Type 0} → StdSource I → ℕ
read_faults source = source.faults

-- the writer that a sink puts to
abbrev pub writer_of : {P : Type 0} → StdSink P → P
writer_of sink = sink.output

-- how often it has failed
abbrev pub write_faults : {P : Type 0} → StdSink P → ℕ
write_faults sink = sink.faults
