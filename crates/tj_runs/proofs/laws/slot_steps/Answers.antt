use Rattle.tj_runs.proofs.SlotSteps.{slot_steps_show}
use Rattle.tj_runs.proofs.laws.slot_steps.Goals as goal

pub returns : goal.returns
returns g c = slot_steps_show _
