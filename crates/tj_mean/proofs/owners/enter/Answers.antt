use Rattle.std.proofs.Common.{Some, cond, ap, ◌∙◌}
use Rattle.tj_body.specs.Names.{same}
use Rattle.tj_mean.specs.Inner.Owners.{owner_in}
use Rattle.tj_mean.proofs.owners.enter.Goals as goal

pub returns : goal.returns
returns c q =
    c.in_ok-put.ensures q
    ∙ ap (λ y. cond (same q y) (Some c.args.index) (owner_in c.args.owners.now q)) c.in_ok-copy.ensures
