use Rattle.std.proofs.Common.{◌≡◌, Some, cond, map, take}
use Rattle.tj_base.specs.ForkOrder.{Name}
use Rattle.tj_body.specs.Names.{has}
use Rattle.tj_forest.specs.Inner.Numbers.{number_in}
use Rattle.tj_forest.proofs.causes.enter_cells.Given as goal

-- the links so far
abbrev pub invariant-loop-link : goal.invariant-loop-link
invariant-loop-link l = (q : Name) → number_in l.numbers q
    ≡ cond (has q (map (λ k. k.cell) (take l.link-index l.links))) (Some l.number) (number_in l.initial.numbers q)
