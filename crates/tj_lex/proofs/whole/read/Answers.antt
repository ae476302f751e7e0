use Rattle.tj_lex.proofs.Shortened.{in_order}
use Rattle.tj_lex.proofs.whole.read.Goals as goal

pub placed-requires-clause-order : goal.placed-requires-clause-order
placed-requires-clause-order c =
    rw c.as_slice.ensures.value
    (in_order c.args.text.now c.in_ok-shorts.shorts.items c.in_ok-shorts.ensures.ok)
