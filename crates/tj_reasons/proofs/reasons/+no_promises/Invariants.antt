use Rattle.std.proofs.Common.{length}
use Rattle.tj_reasons.proofs.reasons.+no_promises.Given as goal

-- fewer arguments are left
abbrev pub decreases-no_promises : goal.decreases-no_promises
decreases-no_promises l = length l.arguments.now
