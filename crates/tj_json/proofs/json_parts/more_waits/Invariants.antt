use Rattle.std.proofs.Common.{◌≡◌, take}
use Rattle.std.specs.List.{flat_map}
use Rattle.tj_json.specs.JsonTexts.{more_waits}
use Rattle.tj_findings.specs.Scenes.{view}
use Rattle.tj_json.proofs.json_parts.more_waits.Given as goal

-- the waits so far
abbrev pub invariant-loop-wait : goal.invariant-loop-wait
invariant-loop-wait l = l.json.items ≡ flat_map (more_waits (view l.scene)) (take l.wait-index l.waits)
