use Rattle.std.proofs.Common.{◌≡◌, take}
use Rattle.std.specs.List.{flat_map}
use Rattle.tj_findings.specs.Findings.{link_wait}
use Rattle.tj_forest.proofs.findings.told_cycle.Given as goal

-- the waits so far
abbrev pub invariant-loop-link : goal.invariant-loop-link
invariant-loop-link l =
    l.waits.items ≡ flat_map (link_wait l.lookups.lines.now) (take l.link-index l.links)
