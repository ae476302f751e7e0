use Rattle.std.proofs.Common.{◌≡◌, map, take}
use Rattle.tj_findings.specs.Groups.{waits_at}
use Rattle.tj_texts.proofs.wait_lines.waits_at.Given as goal

-- the waits so far
abbrev pub invariant-loop-finding : goal.invariant-loop-finding
invariant-loop-finding l =
    map (λ x. x.now) l.waits.items ≡ waits_at l.number (map (λ f. f.now) (take l.finding-index l.findings))
