use Rattle.tj_run.proofs.Seats.LogGrowth.{still}
use Rattle.tj_run.proofs.post.Post.one_ask.Goals as goal

pub returns-in_err-ask-clause-log : goal.returns-in_err-ask-clause-log
returns-in_err-ask-clause-log g c = still c.args.self.now.seat
