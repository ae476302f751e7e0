use Rattle.tj_eval.proofs.Tables.{first_around}
use Rattle.tj_eval.proofs.numbers.Numbers.first.Goals as goal

pub returns-in_ok-run-in-None-clause-run : goal.returns-in_ok-run-in-None-clause-run
returns-in_ok-run-in-None-clause-run c = λ own. first_around own c.args.self.now c.in-None.is c.pop.new.self.items
    c.in_ok-run-in-None.run' c.in_ok-run-in-None.ensures.items
