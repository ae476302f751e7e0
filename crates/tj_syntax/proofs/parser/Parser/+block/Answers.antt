-- The loop over statements reads what is left, and a block is read by its first token.
use Rattle.std.proofs.Common.{rules, arith, map}
use Rattle.std.proofs.lemmas.Grind.{common_steps}
use Rattle.std.proofs.lemmas.List.{map-append}
use Rattle.tj_syntax.specs.Inner.State.{input_of}
use Rattle.tj_syntax.specs.declared.stmt.Stmt.{the_lemmas}
use Rattle.tj_syntax.specs.View as view
use Rattle.tj_syntax.specs.Inner.Input.{eat}
use Rattle.tj_syntax.specs.Inner.Reading.{statements, statements_from, statement}
use Rattle.tj_syntax.proofs.Repeats.{one_more, no_more}
use Rattle.tj_syntax.proofs.Unrolls.{block-is}
use Rattle.tj_syntax.proofs.parser.Parser.+block.Goals as goal

pub block-returns-in_default : goal.block-returns-in_default
block-returns-in_default t c = rw (c.refuse.ensures, block-is c.args.room (input_of c.args.self.now)) (first_of
    (search rules, grind (arith, common_steps)))

pub block-returns-in_err-open-in-Some-Mark-BraceOpen : goal.block-returns-in_err-open-in-Some-Mark-BraceOpen
block-returns-in_err-open-in-Some-Mark-BraceOpen t c = rw (block-is c.args.room (input_of c.args.self.now)) (first_of
    (search rules, grind (arith, common_steps)))

pub block-returns-in_ok-open-in-Some-Mark-BraceOpen : goal.block-returns-in_ok-open-in-Some-Mark-BraceOpen
block-returns-in_ok-open-in-Some-Mark-BraceOpen t c = rw (block-is c.args.room (input_of c.args.self.now)) (first_of
    (search rules, grind (arith, common_steps)))

pub statements-loop-repeat-init : goal.statements-loop-repeat-init
unfolding statements
statements-loop-repeat-init t c = first_of (search rules, grind (arith, common_steps))

pub statements-returns-then-eat : goal.statements-returns-then-eat
unfolding statements_from eat
statements-returns-then-eat t c =
    let e = one_more (λ n. statements_from (statement c.args.room) n (map view.statement c.loop-repeat.stmts.items)
    (input_of c.loop-repeat.self)) _ c.loop-repeat._repeat c.loop-repeat-test.true c.loop-repeat.invariant in
    first_of (
      search rules,
      grind (arith, common_steps),
      search (rules, the_lemmas),
      grind (arith, the_lemmas),
      grind
          (arith, common_steps, map-append),
    )

pub statements-returns-in_err-statement : goal.statements-returns-in_err-statement
unfolding statements_from eat
statements-returns-in_err-statement t c =
    let e = one_more (λ n. statements_from (statement c.args.room) n (map view.statement c.loop-repeat.stmts.items)
    (input_of c.loop-repeat.self)) _ c.loop-repeat._repeat c.loop-repeat-test.true c.loop-repeat.invariant in
    first_of (
      search rules,
      grind (arith, common_steps),
      search (rules, the_lemmas),
      grind (arith, the_lemmas),
      grind
          (arith, common_steps, map-append),
    )

pub statements-loop-repeat-preserved : goal.statements-loop-repeat-preserved
unfolding statements_from eat
statements-loop-repeat-preserved t c =
    let e = one_more (λ n. statements_from (statement c.args.room) n (map view.statement c.loop-repeat.stmts.items)
    (input_of c.loop-repeat.self)) _ c.loop-repeat._repeat c.loop-repeat-test.true c.loop-repeat.invariant in
    first_of (
      search rules,
      grind (arith, common_steps),
      search (rules, the_lemmas),
      grind (arith, the_lemmas),
      grind
          (arith, common_steps, map-append),
    )

pub statements-returns : goal.statements-returns
unfolding statements_from
statements-returns t c =
    let e = no_more (λ n. statements_from (statement c.args.room) n (map view.statement c.loop-repeat.stmts.items)
    (input_of c.loop-repeat.self)) _ c.loop-repeat._repeat c.loop-repeat-test.false c.loop-repeat.invariant in
    first_of (search rules, grind (arith, common_steps))
