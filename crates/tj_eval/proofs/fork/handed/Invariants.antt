use Rattle.std.proofs.Common.{◌≡◌, ◌++◌, drop, map}
use Rattle.tj_syntax.specs.View.{argument}
use Rattle.tj_eval.specs.Statements as state
use Rattle.tj_eval.proofs.fork.handed.Given as goal

abbrev pub invariant-loop-arg : goal.invariant-loop-arg
invariant-loop-arg l = state.references (state.handed l.vars (map argument l.args))
    ≡ l.places.items ++ state.references (state.handed l.vars (map argument (drop l.arg-index l.args)))
