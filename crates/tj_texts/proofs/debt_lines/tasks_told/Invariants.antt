use Rattle.std.proofs.Common.{◌≡◌, map, take}
use Rattle.tj_findings.specs.Groups.{tasks_told}
use Rattle.tj_texts.proofs.debt_lines.tasks_told.Given as goal

-- the tasks so far
abbrev pub invariant-loop-finding : goal.invariant-loop-finding
invariant-loop-finding l =
    map (λ x. x.now) l.tasks.items ≡ tasks_told (map (λ f. f.now) (take l.finding-index l.findings))
