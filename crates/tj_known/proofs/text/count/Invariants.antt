use Rattle.std.proofs.Common.{◌≡◌, ◌≤◌, ◌+◌, take}
use Rattle.tj_known.specs.KnownTexts as spec
use Rattle.tj_known.proofs.text.count.Given as goal

-- the numbers so far, and none is greater than that of the lines so far
abbrev pub invariant-loop-line : goal.invariant-loop-line
invariant-loop-line l =
    (l.known ≡ spec.count_with spec.is_known (take l.line-index l.lines))
    × (l.along ≡ spec.count_with spec.is_along (take l.line-index l.lines))
    × (l.against ≡ spec.count_with spec.is_against (take l.line-index l.lines))
    × (l.known + l.along + l.against ≤ l.line-index)
