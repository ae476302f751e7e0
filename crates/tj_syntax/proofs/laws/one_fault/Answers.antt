-- Both faults are where the reading stops.
use Rattle.tj_syntax.proofs.Same.Fault as same
use Rattle.tj_syntax.proofs.laws.one_fault.Goals as goal

pub returns : goal.returns
returns c = same.one_fault
