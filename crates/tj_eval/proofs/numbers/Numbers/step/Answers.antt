use Rattle.tj_eval.specs.Inner.Standing.{around_numbers}
use Rattle.tj_eval.proofs.Tables.{step_fits}
use Rattle.tj_eval.proofs.numbers.Numbers.step.Goals as goal

pub behind-self-requires : goal.behind-self-requires
behind-self-requires c = let own = c.args.own.now in step_fits own c.args.self.now c.requires c.in-Some.run'
    (around_numbers own c.first.new.self.around.items) (c.in-Some.ensures.run own)
