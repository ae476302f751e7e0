use Rattle.tj_reasons.proofs.FailuresTold.{failures_have_reasons}
use Rattle.tj_reasons.proofs.laws.failures_have_reasons.Goals as goal

pub returns : goal.returns
returns c = λ strict root. failures_have_reasons strict root
