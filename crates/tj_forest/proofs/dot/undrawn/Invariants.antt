use Rattle.std.proofs.Common.{◌≡◌, take}
use Rattle.std.specs.Prelude.{not}
use Rattle.std.specs.List.{count_by}
use Rattle.tj_forest.specs.DotTexts.{is_drawn}
use Rattle.tj_forest.proofs.dot.undrawn.Given as goal

-- those that are left out so far
abbrev pub invariant-loop-line : goal.invariant-loop-line
invariant-loop-line l = l.count ≡ count_by (λ x. not (is_drawn l.lines x)) (take l.line-index l.lines)
