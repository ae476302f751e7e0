-- The variable isn't known before its declaration ends.
use Rattle.std.proofs.Common.{rules, arith}
use Rattle.tj_syntax.proofs.Naming.Fresh.{let_free}
use Rattle.tj_syntax.proofs.parser.Parser.let_new.Goals as goal

pub overflow_cast-number : goal.overflow_cast-number
overflow_cast-number c =
    let room = (let_free c.args.room _ _ _ _ _ _ _ _ _ c.in_ok-name.ensures.reads c.in_ok-expect.ensures.reads
    c.in_ok-side.ensures c.in_ok-expect-2.ensures.reads).few in
    first_of (omega (arith, room, c.len-number.ensures), search rules)

pub add_variable-requires-clause-new : goal.add_variable-requires-clause-new
add_variable-requires-clause-new c = (let_free c.args.room _ _ _ _ _ _ _ _ _ c.in_ok-name.ensures.reads
    c.in_ok-expect.ensures.reads c.in_ok-side.ensures c.in_ok-expect-2.ensures.reads).new

pub add_variable-requires-clause-few : goal.add_variable-requires-clause-few
add_variable-requires-clause-few c = (let_free c.args.room _ _ _ _ _ _ _ _ _ c.in_ok-name.ensures.reads
    c.in_ok-expect.ensures.reads c.in_ok-side.ensures c.in_ok-expect-2.ensures.reads).few
