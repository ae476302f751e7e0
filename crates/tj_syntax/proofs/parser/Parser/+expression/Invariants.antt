-- Each call reads a smaller part, or opens a level.
use Rattle.std.proofs.Common.{◌≡◌, ℕ, ◌+◌, ◌*◌, ◌-◌, map}
use Rattle.tj_syntax.specs.declared.read_expr.Level.{Level}
use Rattle.tj_syntax.specs.declared.read_expr.Level.TheVariants.{Sums, Products}
use Rattle.tj_syntax.specs.Inner.State.{input_of}
use Rattle.tj_syntax.specs.View.{pair}
use Rattle.tj_syntax.specs.Inner.Reading as reading
use Rattle.tj_syntax.proofs.parser.Parser.+expression.Given as goal

abbrev rank : Level → ℕ
rank Products = 0
rank Sums = 3

abbrev pub decreases-unary : goal.decreases-unary
decreases-unary l = 8 * l.room

abbrev pub decreases-operand : goal.decreases-operand
decreases-operand l = 8 * l.room + 1 + rank l.level

abbrev pub decreases-pairs : goal.decreases-pairs
decreases-pairs l = 8 * l.room + 2 + rank l.level

abbrev pub decreases-chain : goal.decreases-chain
decreases-chain l = 8 * l.room + 3 + rank l.level

abbrev pub decreases-expression : goal.decreases-expression
decreases-expression l = 8 * l.room + 7

abbrev pub invariant-pairs-loop-repeat : goal.invariant-pairs-loop-repeat
invariant-pairs-loop-repeat l =
    reading.pairs (reading.operand l.room l.level) l.level (input_of l.fn.self)
    ≡ reading.pairs_from (reading.operand l.room l.level) l.level (l._repeat-end - l._repeat) (map pair l.found.items)
    (input_of l.self)
