-- What clauses see of the ports in memory.
use Rattle.std.specs.Prelude.{ℕ, ◌+◌, ◌≤◌, List, length, drop}
use Rattle.tj_ports.specs.Calls.{ListsNone}
use Rattle.tj_ports.specs.declared.calls.Calls.{Calls}
use Rattle.tj_ports.specs.declared.memory_source.MemSource.{MemSource}
use Rattle.tj_ports.specs.declared.memory_sink.MemSink.{MemSink}

-- the bytes that a source has left
abbrev pub source_bytes : MemSource → List ℕ
source_bytes source = drop source.given source.bytes.items

-- how many bytes it gives a call at most
abbrev pub source_most : MemSource → ℕ
source_most source = source.most

-- its calls so far, and those that will fail
abbrev pub source_calls : MemSource → Calls
source_calls source = source.calls

-- its faults so far
abbrev pub source_faults : MemSource → ℕ
source_faults source = source.calls.faults

-- the bytes that a sink holds
abbrev pub sink_bytes : MemSink → List ℕ
sink_bytes sink = sink.held.items

-- how many bytes it has room for in all
abbrev pub sink_room : MemSink → ℕ
sink_room sink = sink.room

-- how many bytes it takes a call at most
abbrev pub sink_most : MemSink → ℕ
sink_most sink = sink.most

-- its calls so far, and those that will fail
abbrev pub sink_calls : MemSink → Calls
sink_calls sink = sink.calls

-- its faults so far
abbrev pub sink_faults : MemSink → ℕ
sink_faults sink = sink.calls.faults

-- no call of a sink is listed, and its room holds so many more bytes
pub record SurelyTakes (sink : MemSink) (more : ℕ) : Type 0 where
  pub lists_none : ListsNone (sink_calls sink)
  pub has_room : length (sink_bytes sink) + more ≤ sink_room sink
