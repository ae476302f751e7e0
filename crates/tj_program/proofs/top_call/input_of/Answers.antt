use Rattle.tj_program.proofs.Prelude.{false≢true, sym, ◌∙◌}
use Rattle.tj_modes.proofs.Inputs.{takes_none}
use Rattle.tj_program.proofs.top_call.input_of.Goals as goal

pub returns-in-Gen-clause-taken : goal.returns-in-Gen-clause-taken
returns-in-Gen-clause-taken g c =
    λ does. absurd (false≢true (sym (takes_none c.args.command c.in-Gen.is) ∙ does))
