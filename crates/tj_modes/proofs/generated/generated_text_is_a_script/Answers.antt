use Rattle.tj_modes.proofs.GeneratedScripts.Script.{is_generated}
use Rattle.tj_modes.proofs.generated.generated_text_is_a_script.Goals as goal

pub returns : goal.returns
returns c = is_generated
