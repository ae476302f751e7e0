use Rattle.std.proofs.Common.{length}
use Rattle.tj_reasons.proofs.reasons.+no_arguments.Given as goal

-- fewer arguments are left
abbrev pub decreases-no_arguments : goal.decreases-no_arguments
decreases-no_arguments l = length l.arguments.now
