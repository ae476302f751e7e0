-- The loop over the parameters reads what is left.
use Rattle.std.proofs.Common.{rules, arith}
use Rattle.std.proofs.lemmas.Grind.{common_steps}
use Rattle.tj_syntax.specs.Inner.State.{input_of}
use Rattle.tj_syntax.specs.Inner.Reading.{params, params_from}
use Rattle.tj_syntax.proofs.Naming.Fresh.{variable_free}
use Rattle.tj_syntax.proofs.Repeats.{one_more, no_more}
use Rattle.tj_syntax.proofs.parser.Parser.params.Goals as goal

pub returns-then-sees : goal.returns-then-sees
unfolding params
returns-then-sees c = first_of (search rules, grind (arith, common_steps))

pub loop-repeat-init : goal.loop-repeat-init
unfolding params
loop-repeat-init c = first_of (search rules, grind (arith, common_steps))

pub add_variable-requires-clause-new : goal.add_variable-requires-clause-new
add_variable-requires-clause-new c = (variable_free _ _ _ c.in_ok-name.ensures.reads).new

pub add_variable-requires-clause-few : goal.add_variable-requires-clause-few
add_variable-requires-clause-few c = (variable_free _ _ _ c.in_ok-name.ensures.reads).few

pub returns-in_err-name : goal.returns-in_err-name
unfolding params_from
returns-in_err-name c =
    let e = one_more (λ n. params_from n (input_of c.loop-repeat.self)) _ c.loop-repeat._repeat c.loop-repeat-test.true
    c.loop-repeat.invariant in
    first_of (search rules, grind (arith, common_steps))

pub returns-then-not-eat : goal.returns-then-not-eat
unfolding params_from
returns-then-not-eat c =
    let e = one_more (λ n. params_from n (input_of c.loop-repeat.self)) _ c.loop-repeat._repeat c.loop-repeat-test.true
    c.loop-repeat.invariant in
    first_of (search rules, grind (arith, common_steps))

pub loop-repeat-preserved : goal.loop-repeat-preserved
unfolding params_from
loop-repeat-preserved c =
    let e = one_more (λ n. params_from n (input_of c.loop-repeat.self)) _ c.loop-repeat._repeat c.loop-repeat-test.true
    c.loop-repeat.invariant in
    first_of (search rules, grind (arith, common_steps))

pub returns : goal.returns
unfolding params_from
returns c =
    let e = no_more (λ n. params_from n (input_of c.loop-repeat.self)) _ c.loop-repeat._repeat c.loop-repeat-test.false
    c.loop-repeat.invariant in
    first_of (search rules, grind (arith, common_steps))
