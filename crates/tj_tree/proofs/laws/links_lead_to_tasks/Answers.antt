use Rattle.tj_tree.proofs.LawProofs.{links_lead_to_tasks as law}
use Rattle.tj_tree.proofs.laws.links_lead_to_tasks.Goals as goal

pub returns : goal.returns
returns c = law
