use Rattle.std.proofs.Common.{◌≡◌, IfOk, Some, cond, subst}
use Rattle.tj_base.specs.ForkOrder.{Name}
use Rattle.tj_body.specs.Names.{same}
use Rattle.tj_forest.specs.Inner.Numbers.{number_in}
use Rattle.tj_forest.proofs.owners.enter.Goals as goal

pub returns : goal.returns
returns c =
    subst (λ y. IfOk c.put.result (λ _. (q : Name) → number_in c.put.new.self q
    ≡ cond (same q y) (Some c.args.number) (number_in c.args.numbers.now q))) c.in_ok-copy.ensures c.put.ensures
