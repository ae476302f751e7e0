use Rattle.std.proofs.Common.{◌≡◌, ◌-◌, map}
use Rattle.tj_syntax.specs.Inner.State.{input_of}
use Rattle.tj_syntax.specs.View as view
use Rattle.tj_syntax.specs.Trees.{Task}
use Rattle.tj_syntax.specs.Inner.Reading as reading
use Rattle.tj_syntax.proofs.parser.Parser.tasks.Given as goal

abbrev pub invariant-loop-repeat : goal.invariant-loop-repeat
invariant-loop-repeat l = record {
  reads : reading.tasks (input_of l.fn.self) ≡ reading.tasks_from (l._repeat-end - l._repeat) (map view.task
      l.found.items) (input_of l.self);
  names : l.earlier ≡ map (λ (t : Task). t.name) (map view.task l.found.items);
}
