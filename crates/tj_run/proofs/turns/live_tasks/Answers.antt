use Rattle.tj_run.proofs.Runs.TurnSteps.{left_looked, rested_looked}
use Rattle.tj_run.proofs.turns.live_tasks.Goals as goal

pub returns-then-live-eq0-clause-left : goal.returns-then-live-eq0-clause-left
returns-then-live-eq0-clause-left g c =
    rested_looked c.args.laid.now c.live-live.result c.args.seat.now.me c.stop_word.new.seat.me c.live-live.new.seat.me
    c.requires.free (c.stop_word.ensures.none c.in_default.is) c.stop_word.ensures.seat.2 c.live-live.ensures.seat.2
    (c.live-live.ensures.rested c.if-live-eq0.true)

pub returns-clause-left : goal.returns-clause-left
returns-clause-left g c =
    left_looked c.args.laid.now c.live-live.result c.args.seat.now.me c.stop_word.new.seat.me c.live-live.new.seat.me
    c.requires.free (c.stop_word.ensures.none c.in_default.is) c.stop_word.ensures.seat.2 c.live-live.ensures.seat.2
    (c.live-live.ensures.live c.if-live-eq0.false)
