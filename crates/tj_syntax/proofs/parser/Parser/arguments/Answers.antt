-- The loop over the arguments reads what is left.
use Rattle.std.proofs.Common.{rules, arith, map}
use Rattle.std.proofs.lemmas.Grind.{common_steps}
use Rattle.std.proofs.lemmas.List.{map-append}
use Rattle.tj_syntax.specs.Inner.State.{input_of}
use Rattle.tj_syntax.specs.View as view
use Rattle.tj_syntax.specs.Inner.Reading.{separated, separated_from, argument}
use Rattle.tj_syntax.proofs.Repeats.{one_more, no_more}
use Rattle.tj_syntax.proofs.parser.Parser.arguments.Goals as goal

pub returns-then-sees : goal.returns-then-sees
unfolding separated
returns-then-sees c = first_of (search rules, grind (arith, common_steps))

pub loop-repeat-init : goal.loop-repeat-init
unfolding separated
loop-repeat-init c = first_of (search rules, grind (arith, common_steps))

pub returns-in_err-argument : goal.returns-in_err-argument
unfolding separated_from
returns-in_err-argument c =
    let e = one_more (λ n. separated_from (argument c.args.room) n (map view.argument c.loop-repeat.found.items)
    (input_of c.loop-repeat.self)) _ c.loop-repeat._repeat c.loop-repeat-test.true c.loop-repeat.invariant in
    first_of (search rules, grind (arith, common_steps), grind (arith, common_steps, map-append))

pub returns-then-not-eat : goal.returns-then-not-eat
unfolding separated_from
returns-then-not-eat c =
    let e = one_more (λ n. separated_from (argument c.args.room) n (map view.argument c.loop-repeat.found.items)
    (input_of c.loop-repeat.self)) _ c.loop-repeat._repeat c.loop-repeat-test.true c.loop-repeat.invariant in
    first_of (search rules, grind (arith, common_steps), grind (arith, common_steps, map-append))

pub loop-repeat-preserved : goal.loop-repeat-preserved
unfolding separated_from
loop-repeat-preserved c =
    let e = one_more (λ n. separated_from (argument c.args.room) n (map view.argument c.loop-repeat.found.items)
    (input_of c.loop-repeat.self)) _ c.loop-repeat._repeat c.loop-repeat-test.true c.loop-repeat.invariant in
    first_of (search rules, grind (arith, common_steps), grind (arith, common_steps, map-append))

pub returns : goal.returns
unfolding separated_from
returns c =
    let e = no_more (λ n. separated_from (argument c.args.room) n (map view.argument c.loop-repeat.found.items)
    (input_of c.loop-repeat.self)) _ c.loop-repeat._repeat c.loop-repeat-test.false c.loop-repeat.invariant in
    first_of (search rules, grind (arith, common_steps))
