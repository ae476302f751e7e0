use Rattle.std.proofs.Common.{◌≡◌, ◌-◌, map}
use Rattle.tj_syntax.specs.Inner.State.{input_of}
use Rattle.tj_syntax.specs.View as view
use Rattle.tj_syntax.specs.Inner.Reading as reading
use Rattle.tj_syntax.proofs.parser.Parser.arguments.Given as goal

abbrev pub invariant-loop-repeat : goal.invariant-loop-repeat
invariant-loop-repeat l =
    reading.separated (reading.argument l.room) (input_of l.fn.self)
    ≡ reading.separated_from (reading.argument l.room) (l._repeat-end - l._repeat) (map view.argument l.found.items)
    (input_of l.self)
