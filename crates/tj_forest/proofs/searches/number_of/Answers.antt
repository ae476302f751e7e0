use Rattle.std.proofs.Common.{rules}
use Rattle.tj_forest.proofs.LineNumbers.{found, missing}
use Rattle.tj_forest.proofs.searches.number_of.Goals as goal

pub returns-in-Ok : goal.returns-in-Ok
returns-in-Ok c = found c.args.lines.now c.args.name.now (λ a r q k. search rules) c.in-Ok.number c.requires
    c.in-Ok.ensures.bound c.in-Ok.ensures.position

pub returns-in-Err : goal.returns-in-Err
returns-in-Err c = missing c.args.lines.now c.args.name.now (λ a r q k. search rules) c.in-Err.field-0 c.requires
    c.in-Err.ensures.position
