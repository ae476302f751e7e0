use Rattle.std.proofs.Common.{◌≡◌, drop}
use Rattle.tj_modes.specs.RootLines as spec
use Rattle.tj_modes.proofs.root_lines.root_line.Given as goal

-- the root stands only among the lines that are left
abbrev pub invariant-loop-line : goal.invariant-loop-line
invariant-loop-line l = spec.root_line l.lines ≡ spec.root_line (drop l.line-index l.lines)
