use Rattle.std.proofs.Common.{rules}
use Rattle.tj_known.proofs.NameIndexes.{found, never_missing}
use Rattle.tj_known.proofs.step.index_of.Goals as goal

pub unreachable-requires : goal.unreachable-requires
unreachable-requires c = never_missing c.args.lines.now c.args.name.now (λ a r q k. search rules) c.in-Err.field-0
    c.requires.in_order c.requires.there c.in-Err.ensures.position

pub returns : goal.returns
returns c = found c.args.lines.now c.args.name.now (λ a r q k. search rules) c.in-Ok.index c.in-Ok.ensures.bound
    c.in-Ok.ensures.position
