-- The loop over the tasks reads what is left.
use Rattle.std.proofs.Common.{rules, arith, map}
use Rattle.std.proofs.lemmas.Grind.{common_steps}
use Rattle.std.proofs.lemmas.List.{map-append}
use Rattle.tj_syntax.specs.Inner.State.{input_of}
use Rattle.tj_syntax.specs.Marks.{most_tasks}
use Rattle.tj_syntax.specs.View as view
use Rattle.tj_syntax.specs.Inner.Reading.{tasks, tasks_from, task}
use Rattle.tj_syntax.proofs.Naming.Fresh.{fresh_free}
use Rattle.tj_syntax.proofs.Naming.TaskNames.{task_name}
use Rattle.tj_syntax.proofs.Repeats.{one_more, no_more}
use Rattle.tj_syntax.proofs.parser.Parser.tasks.Goals as goal

pub loop-repeat-init : goal.loop-repeat-init
unfolding tasks
loop-repeat-init c = record { reads = first_of (search rules, grind (arith, common_steps)); names = search rules }

pub add-requires-clause-new : goal.add-requires-clause-new
add-requires-clause-new c = (fresh_free most_tasks _ _ _ _ c.in_ok-name.ensures.reads).new

pub add-requires-clause-few : goal.add-requires-clause-few
add-requires-clause-few c = (fresh_free most_tasks _ _ _ _ c.in_ok-name.ensures.reads).few

pub returns-then-left-eq0 : goal.returns-then-left-eq0
unfolding tasks_from task
returns-then-left-eq0 c =
    let e = one_more (λ n. tasks_from n (map view.task c.loop-repeat.found.items) (input_of c.loop-repeat.self)) _
    c.loop-repeat._repeat c.loop-repeat-test.true c.loop-repeat.invariant.reads in
    let names = c.loop-repeat.invariant.names in
    first_of (search rules, grind (arith, common_steps))

pub returns-in_err-task_keyword : goal.returns-in_err-task_keyword
unfolding tasks_from task
returns-in_err-task_keyword c =
    let e = one_more (λ n. tasks_from n (map view.task c.loop-repeat.found.items) (input_of c.loop-repeat.self)) _
    c.loop-repeat._repeat c.loop-repeat-test.true c.loop-repeat.invariant.reads in
    let names = c.loop-repeat.invariant.names in
    first_of (search rules, grind (arith, common_steps))

pub returns-in_err-name : goal.returns-in_err-name
unfolding tasks_from task
returns-in_err-name c =
    let e = one_more (λ n. tasks_from n (map view.task c.loop-repeat.found.items) (input_of c.loop-repeat.self)) _
    c.loop-repeat._repeat c.loop-repeat-test.true c.loop-repeat.invariant.reads in
    let names = c.loop-repeat.invariant.names in
    first_of (search rules, grind (arith, common_steps))

pub returns-in_err-task : goal.returns-in_err-task
unfolding tasks_from task
returns-in_err-task c =
    let e = one_more (λ n. tasks_from n (map view.task c.loop-repeat.found.items) (input_of c.loop-repeat.self)) _
    c.loop-repeat._repeat c.loop-repeat-test.true c.loop-repeat.invariant.reads in
    let names = c.loop-repeat.invariant.names in
    first_of (search rules, grind (arith, common_steps))

pub loop-repeat-preserved : goal.loop-repeat-preserved
unfolding tasks_from task
loop-repeat-preserved c =
    let e = one_more (λ n. tasks_from n (map view.task c.loop-repeat.found.items) (input_of c.loop-repeat.self)) _
    c.loop-repeat._repeat c.loop-repeat-test.true c.loop-repeat.invariant.reads in
    let names = c.loop-repeat.invariant.names in
    let named = task_name _ _ _ _ c.in_ok-task.ensures in
    record {
      reads = first_of (search rules, grind (arith, common_steps), grind (arith, common_steps, map-append));
      names = first_of (search rules, grind (arith, common_steps), grind (arith, common_steps, map-append));
    }

pub returns-then-left-eq0-2 : goal.returns-then-left-eq0-2
unfolding tasks_from
returns-then-left-eq0-2 c =
    let e = no_more (λ n. tasks_from n (map view.task c.loop-repeat.found.items) (input_of c.loop-repeat.self)) _
    c.loop-repeat._repeat c.loop-repeat-test.false c.loop-repeat.invariant.reads in
    first_of (search rules, grind (arith, common_steps))

pub returns-else-left-eq0-2 : goal.returns-else-left-eq0-2
unfolding tasks_from
returns-else-left-eq0-2 c =
    let e = no_more (λ n. tasks_from n (map view.task c.loop-repeat.found.items) (input_of c.loop-repeat.self)) _
    c.loop-repeat._repeat c.loop-repeat-test.false c.loop-repeat.invariant.reads in
    first_of (search rules, grind (arith, common_steps))
