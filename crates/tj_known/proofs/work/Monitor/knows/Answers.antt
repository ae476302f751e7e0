use Rattle.tj_known.proofs.WorkSteps.{knows_at_read}
use Rattle.tj_known.proofs.work.Monitor.knows.Goals as goal

pub returns : goal.returns
returns c = knows_at_read c.args.self.now.lines.now c.args.self.now.learners.items c.requires.work.lines c.requires.work.under_way
    c.args.index c.args.joined c.args.answered c.requires.next c.index.result.now c.has.result c.index.ensures
    c.has.ensures
