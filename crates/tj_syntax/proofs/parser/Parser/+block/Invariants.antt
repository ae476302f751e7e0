-- Each call reads a smaller part, or opens a level.
use Rattle.std.proofs.Common.{◌≡◌, ◌+◌, ◌*◌, ◌-◌, map}
use Rattle.tj_syntax.specs.Inner.State.{input_of}
use Rattle.tj_syntax.specs.View as view
use Rattle.tj_syntax.specs.Inner.Reading as reading
use Rattle.tj_syntax.proofs.parser.Parser.+block.Given as goal

abbrev pub decreases-block : goal.decreases-block
decreases-block l = 8 * l.room

abbrev pub decreases-otherwise : goal.decreases-otherwise
decreases-otherwise l = 8 * l.room + 1

abbrev pub decreases-repeat : goal.decreases-repeat
decreases-repeat l = 8 * l.room + 1

abbrev pub decreases-choose : goal.decreases-choose
decreases-choose l = 8 * l.room + 2

abbrev pub decreases-statement : goal.decreases-statement
decreases-statement l = 8 * l.room + 3

abbrev pub decreases-statements : goal.decreases-statements
decreases-statements l = 8 * l.room + 4

abbrev pub invariant-statements-loop-repeat : goal.invariant-statements-loop-repeat
invariant-statements-loop-repeat l =
    reading.statements (reading.statement l.room) (input_of l.fn.self)
    ≡ reading.statements_from (reading.statement l.room) (l._repeat-end - l._repeat) (map view.statement l.stmts.items)
    (input_of l.self)
