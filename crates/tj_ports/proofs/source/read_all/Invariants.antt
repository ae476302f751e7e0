use Rattle.std.proofs.Common.{◌≡◌, ◌≤◌, ◌+◌, ◌-◌, vec_len}
use Rattle.std.specs.Io.KnownBytes.{Consumes}
use Rattle.tj_ports.specs.Faults.{IsSound}
use Rattle.tj_ports.proofs.source.read_all.Given as goal

-- the bytes so far are those taken, and no fault was told
abbrev pub invariant-loop-buffer : goal.invariant-loop-buffer
invariant-loop-buffer g l =
    let left = g.S.Source.left in
    let faults = g.S.Source.faults in
    let never_fails = g.S.Source.never_fails in
    record {
      most : l.most ≡ l.limit + 1;
      in_range : vec_len l.bytes ≤ l.most;
      taken : Consumes (left l.initial.source) (left l.source) l.bytes.items;
      counted : faults l.initial.source ≤ faults l.source;
      quiet : faults l.source ≡ faults l.initial.source;
      sound : never_fails l.initial.source → IsSound (faults l.initial.source) (faults l.source) (never_fails l.source);
    }

abbrev pub decreases-loop-buffer : goal.decreases-loop-buffer
decreases-loop-buffer g l = l.most - vec_len l.bytes
