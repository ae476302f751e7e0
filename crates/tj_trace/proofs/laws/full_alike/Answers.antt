use Rattle.tj_trace.proofs.Seen.{is_full_alike}
use Rattle.tj_trace.proofs.laws.full_alike.Goals as goal

pub returns : goal.returns
returns c = is_full_alike
