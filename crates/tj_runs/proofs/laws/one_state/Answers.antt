use Rattle.tj_runs.proofs.OneHolders.{one_line_stands, one_seat_holds, one_seat_pushes}
use Rattle.tj_runs.proofs.OneStates.{one_shown}
use Rattle.tj_runs.proofs.laws.one_state.Goals as goal

pub returns-clause-one : goal.returns-clause-one
returns-clause-one g c = λ m r. one_shown m.law r

pub returns-clause-holders : goal.returns-clause-holders
returns-clause-holders g c = one_seat_holds _

pub returns-clause-lines : goal.returns-clause-lines
returns-clause-lines g c = one_line_stands _

pub returns-clause-pushers : goal.returns-clause-pushers
returns-clause-pushers g c = one_seat_pushes _
