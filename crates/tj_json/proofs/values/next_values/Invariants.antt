use Rattle.std.proofs.Common.{◌≡◌, take}
use Rattle.std.specs.List.{flat_map}
use Rattle.tj_json.specs.JsonTexts.{next_value}
use Rattle.tj_json.proofs.values.next_values.Given as goal

-- the values so far
abbrev pub invariant-loop-value : goal.invariant-loop-value
invariant-loop-value l = l.json.items ≡ flat_map next_value (take l.value-index l.values)
