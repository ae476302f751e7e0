use Rattle.std.proofs.Common.{◌≡◌, ◌-◌}
use Rattle.tj_syntax.specs.Inner.State.{input_of}
use Rattle.tj_syntax.specs.Inner.Reading as reading
use Rattle.tj_syntax.proofs.parser.Parser.params.Given as goal

abbrev pub invariant-loop-repeat : goal.invariant-loop-repeat
invariant-loop-repeat l = reading.params (input_of l.fn.self)
    ≡ reading.params_from (l._repeat-end - l._repeat) (input_of l.self)
