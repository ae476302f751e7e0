use Rattle.std.proofs.Common.{◌≡◌, Some, cond, take}
use Rattle.tj_base.specs.ForkOrder.{Name}
use Rattle.tj_body.specs.Names.{has}
use Rattle.tj_forest.specs.Inner.Numbers.{number_in}
use Rattle.tj_forest.proofs.owners.enter_all.Given as goal

-- the cells so far are entered
abbrev pub invariant-loop-cell : goal.invariant-loop-cell
invariant-loop-cell l = (q : Name) → number_in l.numbers q
    ≡ cond (has q (take l.cell-index l.cells)) (Some l.number) (number_in l.initial.numbers q)
