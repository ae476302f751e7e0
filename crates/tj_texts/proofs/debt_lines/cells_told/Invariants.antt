use Rattle.std.proofs.Common.{◌≡◌, map, take}
use Rattle.tj_findings.specs.Groups.{cells_told}
use Rattle.tj_texts.proofs.debt_lines.cells_told.Given as goal

-- the cells so far
abbrev pub invariant-loop-finding : goal.invariant-loop-finding
invariant-loop-finding l =
    map (λ x. x.now) l.cells.items ≡ cells_told (map (λ f. f.now) (take l.finding-index l.findings))
