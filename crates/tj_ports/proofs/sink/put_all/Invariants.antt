use Rattle.std.proofs.Common.{◌≡◌, length, ◌-◌, ℕ, ◌≤◌, take}
use Rattle.std.specs.Io.KnownBytes.{Appends}
use Rattle.tj_ports.specs.Faults.{IsSound}
use Rattle.tj_ports.proofs.sink.put_all.Given as goal

-- the first bytes were put, and no fault was told so far
abbrev pub invariant-loop-count : goal.invariant-loop-count
invariant-loop-count g l =
    let held = g.K.Sink.held in
    let faults = g.K.Sink.faults in
    let has_room = g.K.Sink.has_room in
    record {
      in_range : l.count ≤ length l.bytes;
      added : Appends (held l.initial.sink) (held l.sink) (take l.count l.bytes);
      counted : faults l.initial.sink ≤ faults l.sink;
      quiet : faults l.sink ≡ faults l.initial.sink;
      sound : (room : ℕ) → has_room l.initial.sink room → length l.bytes ≤ room
          → IsSound (faults l.initial.sink) (faults l.sink) (has_room l.sink (room - l.count));
    }

abbrev pub decreases-loop-count : goal.decreases-loop-count
decreases-loop-count g l = length l.bytes - l.count
