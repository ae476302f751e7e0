use Rattle.std.proofs.Common.{◌≡◌, cond, take, Some}
use Rattle.tj_base.specs.ForkOrder.{Name}
use Rattle.tj_body.specs.Names.{has}
use Rattle.tj_mean.specs.Inner.Owners.{owner_in}
use Rattle.tj_mean.proofs.owners.enter_all.Given as goal

-- the cells so far are entered
abbrev pub invariant-loop-cell : goal.invariant-loop-cell
invariant-loop-cell l = (q : Name) → owner_in l.owners q
    ≡ cond (has q (take l.cell-index l.cells)) (Some l.index) (owner_in l.initial.owners q)
