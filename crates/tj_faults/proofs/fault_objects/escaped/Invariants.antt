use Rattle.std.proofs.Common.{◌≡◌, take}
use Rattle.std.specs.List.{flat_map}
use Rattle.tj_faults.specs.Objects.{escaped}
use Rattle.tj_faults.proofs.fault_objects.escaped.Given as goal

-- the bytes so far
abbrev pub invariant-loop-byte : goal.invariant-loop-byte
invariant-loop-byte l = l.json.items ≡ flat_map escaped (take l.byte-index l.text)
