use Rattle.std.proofs.Common.{rules, not}
use Rattle.std.proofs.lemmas.Iterator.{YieldsList-from_slice}
use Rattle.std.proofs.lemmas.Iterator.Consumers.{map_from_collect, YieldsList-from_filter}
use Rattle.tj_mean.specs.Outcomes.{is_nil}
use Rattle.tj_embed.proofs.outcome_lines.those_that_owe.Goals as goal

pub returns : goal.returns
returns c = map_from_collect _ c.collect.ensures.ran
    (YieldsList-from_filter _ (λ line. not (is_nil line.owes)) (YieldsList-from_slice c.args.lines.now cc)
    c.filter.ensures.closure (λ x b q k. search rules))
