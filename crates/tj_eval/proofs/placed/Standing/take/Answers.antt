use Rattle.tj_syntax.specs.View as view
use Rattle.tj_eval.proofs.Ready.{next_there, none_there}
use Rattle.tj_eval.proofs.placed.Standing.take.Goals as goal

pub step-requires : goal.step-requires
step-requires c = next_there c.args.self.now c.requires.ready (view.statement c.in-Some.stmt.now) c.take.new.self.rest
    c.in-Some.ensures.0

pub close-requires : goal.close-requires
close-requires c = none_there c.args.self.now c.requires.ready c.in_default.ensures.0
