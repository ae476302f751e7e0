use Rattle.std.proofs.Common.{◌≡◌, map, take}
use Rattle.std.specs.Prelude.{◌||◌}
use Rattle.std.specs.Option.{is_some}
use Rattle.tj_base.specs.ForkOrder.{Name}
use Rattle.tj_body.specs.Names.{has}
use Rattle.tj_forest.specs.Inner.Numbers.{number_in}
use Rattle.tj_forest.proofs.members.enter_cycle.Given as goal

-- the links so far
abbrev pub invariant-loop-link : goal.invariant-loop-link
invariant-loop-link l = (x : Name) → is_some (number_in l.numbers x)
    ≡ has x (map (λ k. k.task) (take l.link-index l.links)) || is_some (number_in l.initial.numbers x)
