-- The loop over the pairs reads what is left, and a unary is read by its first token.
use Rattle.std.proofs.Common.{◌≡◌, Err, ◌∙◌, sym, refl, rules, arith, map}
use Rattle.std.proofs.lemmas.Grind.{common_steps}
use Rattle.std.proofs.lemmas.List.{map-append}
use Rattle.tj_syntax.specs.declared.expr.Expr.{the_lemmas}
use Rattle.tj_syntax.specs.Inner.State.{input_of}
use Rattle.tj_syntax.specs.View.{expression, pair}
use Rattle.tj_syntax.specs.Inner.Reading.{pairs, pairs_from, operand}
use Rattle.tj_syntax.proofs.Alone.{alone}
use Rattle.tj_syntax.proofs.PairStops.{pair_stops, stops_alike}
use Rattle.tj_syntax.proofs.Repeats.{one_more, no_more}
use Rattle.tj_syntax.proofs.Unrolls.{unary-is}
use Rattle.tj_syntax.proofs.parser.Parser.+expression.Goals as goal

pub expression-returns-then-stands_alone : goal.expression-returns-then-stands_alone
expression-returns-then-stands_alone t c =
    let yes = sym c.stands_alone.ensures ∙ c.if-stands_alone.true in
    rw (alone c.args.room (input_of c.args.self.now) (input_of c.args.self.now).ahead refl yes) c.unary.ensures

pub pairs-loop-repeat-init : goal.pairs-loop-repeat-init
unfolding pairs
pairs-loop-repeat-init t c = first_of (search rules, grind (arith, common_steps))

pub pairs-returns-in_default : goal.pairs-returns-in_default
unfolding pairs_from
pairs-returns-in_default t c =
    let e = one_more (λ n. pairs_from (operand c.args.room c.args.level) c.args.level n (map pair
    c.loop-repeat.found.items) (input_of c.loop-repeat.self)) c.left-repeat-end.result c.loop-repeat._repeat
    c.loop-repeat-test.true c.loop-repeat.invariant in
    first_of (search rules, grind (arith, common_steps))

pub pairs-returns-in_err-y : goal.pairs-returns-in_err-y
pairs-returns-in_err-y t c =
    let level = c.args.level in
    let item = operand c.args.room level in
    let found = map pair c.loop-repeat.found.items in
    let i = input_of c.loop-repeat.self in
    let e = one_more (λ n. pairs_from item level n found i) c.left-repeat-end.result c.loop-repeat._repeat
    c.loop-repeat-test.true c.loop-repeat.invariant in
    let same : c.from_residual.result ≡ Err c.in_err-y.field-0.0 = first_of
    (search rules, grind (arith, common_steps)) in
    stops_alike expression _ _ _ _ c.in_err-y.field-0.0 _ same c.in_err-y.ensures
    (λ stops. e ∙ pair_stops item level _ found i _ _ _ c.in-Some.op _ c.peek.ensures c.operator.ensures c.in-Some.is
    c.skip.ensures stops)

pub pairs-loop-repeat-preserved : goal.pairs-loop-repeat-preserved
unfolding pairs_from
pairs-loop-repeat-preserved t c =
    let e = one_more (λ n. pairs_from (operand c.args.room c.args.level) c.args.level n (map pair
    c.loop-repeat.found.items) (input_of c.loop-repeat.self)) c.left-repeat-end.result c.loop-repeat._repeat
    c.loop-repeat-test.true c.loop-repeat.invariant in
    first_of (search rules, grind (arith, common_steps), grind (arith, common_steps, map-append))

pub pairs-returns : goal.pairs-returns
unfolding pairs_from
pairs-returns t c =
    let e = no_more (λ n. pairs_from (operand c.args.room c.args.level) c.args.level n (map pair
    c.loop-repeat.found.items) (input_of c.loop-repeat.self)) c.left-repeat-end.result c.loop-repeat._repeat
    c.loop-repeat-test.false c.loop-repeat.invariant in
    first_of (search rules, grind (arith, common_steps))

pub unary-returns-in-Some-Num : goal.unary-returns-in-Some-Num
unary-returns-in-Some-Num t c = rw (unary-is c.args.room (input_of c.args.self.now)) (first_of (
  search rules,
  grind
      (arith, common_steps),
  search (rules, the_lemmas),
  grind (arith, the_lemmas),
))

pub unary-returns-in_ok-known-in-Some-Name : goal.unary-returns-in_ok-known-in-Some-Name
unary-returns-in_ok-known-in-Some-Name t c = rw (unary-is c.args.room (input_of c.args.self.now)) (first_of (
  search
      rules,
  grind (arith, common_steps),
  search (rules, the_lemmas),
  grind (arith, the_lemmas),
))

pub unary-returns-in-Some-Key-Me : goal.unary-returns-in-Some-Key-Me
unary-returns-in-Some-Key-Me t c = rw (unary-is c.args.room (input_of c.args.self.now)) (first_of (
  search rules,
  grind
      (arith, common_steps),
  search (rules, the_lemmas),
  grind (arith, the_lemmas),
))

pub unary-returns-in_ok-negation-in-Some-Mark-Minus : goal.unary-returns-in_ok-negation-in-Some-Mark-Minus
unary-returns-in_ok-negation-in-Some-Mark-Minus t c = rw (unary-is c.args.room (input_of c.args.self.now)) (first_of
    (search rules, grind (arith, common_steps), search (rules, the_lemmas), grind (arith, the_lemmas)))

pub unary-returns-in_ok-expect-in-Some-Mark-ParenOpen : goal.unary-returns-in_ok-expect-in-Some-Mark-ParenOpen
unary-returns-in_ok-expect-in-Some-Mark-ParenOpen t c = rw (unary-is c.args.room (input_of c.args.self.now)) (first_of
    (search rules, grind (arith, common_steps), search (rules, the_lemmas), grind (arith, the_lemmas)))

pub unary-returns-in_err-known-in-Some-Name : goal.unary-returns-in_err-known-in-Some-Name
unary-returns-in_err-known-in-Some-Name t c = rw (unary-is c.args.room (input_of c.args.self.now)) (first_of (
  search
      rules,
  grind (arith, common_steps),
  search (rules, the_lemmas),
  grind (arith, the_lemmas),
))

pub unary-returns-in_err-open-in-Some-Mark-Minus : goal.unary-returns-in_err-open-in-Some-Mark-Minus
unary-returns-in_err-open-in-Some-Mark-Minus t c = rw (unary-is c.args.room (input_of c.args.self.now)) (first_of
    (search rules, grind (arith, common_steps), search (rules, the_lemmas), grind (arith, the_lemmas)))

pub unary-returns-in_err-x-in-Some-Mark-Minus : goal.unary-returns-in_err-x-in-Some-Mark-Minus
unary-returns-in_err-x-in-Some-Mark-Minus t c = rw (unary-is c.args.room (input_of c.args.self.now)) (first_of (
  search
      rules,
  grind (arith, common_steps),
  search (rules, the_lemmas),
  grind (arith, the_lemmas),
))

pub unary-returns-in_err-open-in-Some-Mark-ParenOpen : goal.unary-returns-in_err-open-in-Some-Mark-ParenOpen
unary-returns-in_err-open-in-Some-Mark-ParenOpen t c = rw (unary-is c.args.room (input_of c.args.self.now)) (first_of
    (search rules, grind (arith, common_steps), search (rules, the_lemmas), grind (arith, the_lemmas)))

pub unary-returns-in_err-x-in-Some-Mark-ParenOpen : goal.unary-returns-in_err-x-in-Some-Mark-ParenOpen
unary-returns-in_err-x-in-Some-Mark-ParenOpen t c = rw (unary-is c.args.room (input_of c.args.self.now)) (first_of
    (search rules, grind (arith, common_steps), search (rules, the_lemmas), grind (arith, the_lemmas)))

pub unary-returns-in_err-expect-in-Some-Mark-ParenOpen : goal.unary-returns-in_err-expect-in-Some-Mark-ParenOpen
unary-returns-in_err-expect-in-Some-Mark-ParenOpen t c = rw (unary-is c.args.room (input_of c.args.self.now))
    (first_of (search rules, grind (arith, common_steps), search (rules, the_lemmas), grind (arith, the_lemmas)))

pub unary-returns-in_default : goal.unary-returns-in_default
unary-returns-in_default t c = rw (c.refuse.ensures, unary-is c.args.room (input_of c.args.self.now)) (first_of
    (search rules, grind (arith, common_steps), search (rules, the_lemmas), grind (arith, the_lemmas)))
