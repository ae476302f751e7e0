use Rattle.tj_explain.proofs.GroupsTold.{groups_tell_each}
use Rattle.tj_explain.proofs.laws.groups_tell_each_finding.Goals as goal

pub returns : goal.returns
returns c = groups_tell_each
