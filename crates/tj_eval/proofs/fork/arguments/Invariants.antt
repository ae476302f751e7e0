use Rattle.tj_eval.proofs.Passed.{ArePassed}
use Rattle.tj_eval.proofs.fork.arguments.Given as goal

abbrev pub invariant-loop-arg : goal.invariant-loop-arg
invariant-loop-arg l = ArePassed l.vars l.args l.arg-index l.values.items l.places.items
