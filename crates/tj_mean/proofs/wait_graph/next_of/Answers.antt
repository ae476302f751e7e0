use Rattle.tj_mean.proofs.Outcomes.OwnerMaps.{owner_leads}
use Rattle.tj_mean.proofs.wait_graph.next_of.Goals as goal

pub returns-in-Waits : goal.returns-in-Waits
returns-in-Waits c =
    owner_leads c.args.tasks.now c.requires.apart c.requires.in_order c.args.owners.now c.requires.owners
    c.args.task.now c.in-Waits.cell c.owner.result c.in-Waits.is c.owner.ensures
