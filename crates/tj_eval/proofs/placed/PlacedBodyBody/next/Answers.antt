-- What the task forks is a task of its script, and the task stands right as it asks.
use Rattle.std.proofs.Common.{ap}
use Rattle.tj_eval.proofs.Ready.{asked_forks, asked_ready}
use Rattle.tj_eval.proofs.placed.PlacedBodyBody.next.Goals as goal

pub ask_of-requires-clause-child : goal.ask_of-requires-clause-child
ask_of-requires-clause-child c = asked_forks c.self.inside.inner c.self.invariant c.args.a
    c.answer.new.self.numbers.called c.in-Ok.ask c.in-Ok.ensures.task.0 (ap (λ z. z.called) c.in-Ok.ensures.stand)

pub invariant_of-self : goal.invariant_of-self
invariant_of-self c = asked_ready c.self.inside.inner c.self.invariant c.args.a c.answer.new.self
    c.in-Ok.ensures.home c.in-Ok.ensures.task.1 c.in-Ok.ensures.stand
