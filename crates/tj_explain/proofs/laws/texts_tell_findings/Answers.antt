use Rattle.tj_explain.proofs.ToldFindings.{texts_tell}
use Rattle.tj_explain.proofs.laws.texts_tell_findings.Goals as goal

pub returns : goal.returns
returns c = texts_tell c.waits_lead_to_told_cycles.ensures c.consequences_follow.ensures
