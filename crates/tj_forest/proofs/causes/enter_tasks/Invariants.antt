use Rattle.std.proofs.Common.{◌≡◌, Some, cond, map, take}
use Rattle.tj_base.specs.ForkOrder.{Name}
use Rattle.tj_body.specs.Names.{has}
use Rattle.tj_forest.specs.Inner.Numbers.{number_in}
use Rattle.tj_forest.proofs.causes.enter_tasks.Given as goal

-- the waits so far
abbrev pub invariant-loop-wait : goal.invariant-loop-wait
invariant-loop-wait l = (x : Name) → number_in l.numbers x
    ≡ cond (has x (map (λ w. w.task.name) (take l.wait-index l.waits))) (Some l.number) (number_in l.initial.numbers x)
