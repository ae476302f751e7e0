use Rattle.tj_explain.proofs.OneOutput.{one_output}
use Rattle.tj_explain.proofs.laws.one_output.Goals as goal

pub returns : goal.returns
returns c = one_output c.one_script_or_fault.ensures
