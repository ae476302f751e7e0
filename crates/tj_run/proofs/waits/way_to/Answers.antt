use Rattle.tj_run.proofs.Prelude.{◌∙◌}
use Rattle.tj_words.proofs.SeatLoads.LaterSeats.{read_itself}
use Rattle.tj_run.proofs.Waiting.JoinTests.{promise_way}
use Rattle.tj_run.proofs.waits.way_to.Goals as goal
use Rattle.tj_run.proofs.Seats.LogGrowth.{climb_grows, still}

pub returns-in-Promise-clause-view : goal.returns-in-Promise-clause-view
returns-in-Promise-clause-view g c = read_itself c.args.seat.now.me.0

pub returns-in-Promise-clause-way : goal.returns-in-Promise-clause-way
returns-in-Promise-clause-way g c = let h = c.requires.held in
    promise_way c.args.seat.now.me.0.born c.args.t.0 c.args.h.cell.0 h.reference h.is (h.sort ∙ c.in-Promise.is)

pub returns-in-Promise-clause-log : goal.returns-in-Promise-clause-log
returns-in-Promise-clause-log g c = still c.args.seat.now

pub returns-in-Task-clause-log : goal.returns-in-Task-clause-log
returns-in-Task-clause-log g c = climb_grows c.args.seat.now c.way_of.new.seat _ _ c.way_of.ensures.log
