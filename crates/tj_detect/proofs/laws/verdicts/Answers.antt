use Rattle.tj_detect.proofs.VerdictRuns.{verdicts_off_cycles}
use Rattle.tj_detect.proofs.laws.verdicts.Goals as goal

pub returns : goal.returns
returns g c = λ program key u w later t q p id old new way verdict v v' e a at may b n.
    verdicts_off_cycles _ program key u w later t q p id old new way verdict v v' e a at may b n
