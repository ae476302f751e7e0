use Rattle.std.proofs.Common.{◌≡◌, Some, cond, map, take}
use Rattle.tj_base.specs.ForkOrder.{Name}
use Rattle.tj_body.specs.Names.{has}
use Rattle.tj_forest.specs.Inner.Numbers.{number_in}
use Rattle.tj_forest.proofs.owners.enter_sets.Given as goal

-- the promises so far are entered
abbrev pub invariant-loop-set : goal.invariant-loop-set
invariant-loop-set l = (q : Name) → number_in l.numbers q
    ≡ cond (has q (map (λ n. n.promise) (take l.set-index l.sets))) (Some l.number) (number_in l.initial.numbers q)
