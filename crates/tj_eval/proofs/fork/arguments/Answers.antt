use Rattle.std.proofs.Common.{◌+◌, arith, sym}
use Rattle.tj_eval.proofs.Passed.{few-passed, one-passed}
use Rattle.tj_eval.proofs.fork.arguments.Goals as goal

pub add-requires : goal.add-requires
add-requires c = let l = c.loop-arg in
    let few = few-passed c.args.vars.now c.args.args.now l.arg-index l.values.items l.places.items l.invariant in
    record { few = omega (arith, few, c.requires.few) }

pub loop-arg-preserved : goal.loop-arg-preserved
loop-arg-preserved c = let l = c.loop-arg in
    one-passed c.args.vars.now c.args.args.now l.arg-index (l.arg-index + 1) c.arg-item.result (omega arith)
    c.arg-item.is
    (omega arith) l.values.items c.add.new.vars.items l.places.items c.add.new.places.items l.invariant
    c.in_ok-v.v (sym c.in_ok-v.ensures) c.in_ok-add.ensures
