use Rattle.std.proofs.Common.{ap, map, refl}
use Rattle.tj_syntax.specs.View as view
use Rattle.tj_eval.proofs.Ready.{over_ready}
use Rattle.tj_eval.proofs.Views.{none_remains}
use Rattle.tj_eval.proofs.placed.given_up.Goals as goal

pub returns : goal.returns
returns c = over_ready _ c.requires.0 c.requires.1 refl
    (none_remains (λ block. map view.statement block.now) c.new.result.items c.new.ensures.items)
    (ap (λ z. z.ahead) (c.of_block.ensures c.args.home.own.now 0))
