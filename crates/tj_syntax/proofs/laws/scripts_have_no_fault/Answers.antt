-- The reading of a script doesn't stop.
use Rattle.tj_syntax.proofs.Same.Fault as same
use Rattle.tj_syntax.proofs.laws.scripts_have_no_fault.Goals as goal

pub returns : goal.returns
returns c = same.scripts_have_no_fault
