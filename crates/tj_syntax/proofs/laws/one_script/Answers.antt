-- Both scripts are what is read.
use Rattle.tj_syntax.proofs.Complete.Script as complete
use Rattle.tj_syntax.proofs.laws.one_script.Goals as goal

pub returns : goal.returns
returns c = complete.one_script
