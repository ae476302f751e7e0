use Rattle.tj_command.proofs.Scripts.{AreOneScript, no_fault, one_fault, one_script_of, one_tokens}
use Rattle.tj_command.proofs.laws.one_script_or_fault.Goals as goal

pub returns : goal.returns
returns c text =
    let one : AreOneScript = record {
      answer = c.one_answer.ensures;
      script = c.one_script.ensures;
      fault = c.one_fault.ensures;
      no_fault = c.scripts_have_no_fault.ensures;
    } in record {
      tokens = one_tokens one text;
      script = one_script_of one text;
      fault = one_fault one text;
      not_both = no_fault one text;
    }
