use Rattle.std.proofs.Common.{◌≡◌, take}
use Rattle.std.specs.List.{flat_map}
use Rattle.tj_json.specs.JsonTexts.{finding_json}
use Rattle.tj_findings.specs.Scenes.{view}
use Rattle.tj_json.proofs.json.findings_json.Given as goal

-- the findings so far
abbrev pub invariant-loop-finding : goal.invariant-loop-finding
invariant-loop-finding l =
    l.json.items ≡ flat_map (finding_json (view l.scene) l.level) (take l.finding-index l.findings)
