use Rattle.tj_body.specs.Programs.{program_of}
use Rattle.std.proofs.Common.{Some, arith, subst, sym}
use Rattle.tj_future.proofs.Looking.{goes_on_at, idle_at_rest, idle_seen, rests_at, tells_last, tells_stopped}
use Rattle.tj_future.proofs.LookSteps.{found_at_rest, loaded_to, stopped_so}
use Rattle.tj_future.specs.LookLogs.{MakesLook}
use Rattle.tj_words.specs.CallLaws.StepCalls as call
use Rattle.tj_words.specs.CallLaws.StepLogs.{IsLogged}
use Rattle.tj_future.proofs.looks.look_at.Goals as goal

pub returns-then-stop-ne0-clause-some : goal.returns-then-stop-ne0-clause-some
returns-then-stop-ne0-clause-some g c =
    let b = g.B.Body in let p = program_of b.places b.awaits b.left b.asks b.then in
    tells_stopped p c.args.laid.now.cells c.args.p.0 c.why_of.result c.stopped-stop.result c.args.seat.now.me.0
    c.value-seen.new.seat.me.0 c.stopped-stop.new.seat.me.0 (c.value-seen.ensures.not_yet c.in-NotYet.is)
    c.stopped-stop.ensures.view c.why_of.ensures c.stopped-stop.ensures.full

pub returns-then-live-ne0-clause-none : goal.returns-then-live-ne0-clause-none
returns-then-live-ne0-clause-none g c e =
    let b = g.B.Body in let p = program_of b.places b.awaits b.left b.asks b.then in
    goes_on_at p c.args.p.0 c.stopped-stop.result c.live.result c.args.seat.now.me.0 c.value-seen.new.seat.me.0
    c.stopped-stop.new.seat.me.0 c.live.new.seat.me.0 (c.value-seen.ensures.not_yet c.in-NotYet.is)
    c.stopped-stop.ensures.view c.if-stop-ne0.false c.if-live-ne0.true (c.live.ensures.live c.if-live-ne0.true)

pub returns-clause-idle : goal.returns-clause-idle
returns-clause-idle g c =
    let b = g.B.Body in let p = program_of b.places b.awaits b.left b.asks b.then in
    idle_seen p c.args.laid.now.cells c.args.p.0 c.value.result c.live.new.seat.me.0 c.value.new.seat.me.0
    (idle_at_rest p c.args.p.0 c.args.seat.now.me.0 c.live.new.seat.me.0 c.requires.idle
    (rests_at p c.args.p.0 c.stopped-stop.result c.args.seat.now.me.0 c.value-seen.new.seat.me.0
    c.stopped-stop.new.seat.me.0 c.live.new.seat.me.0 (c.value-seen.ensures.not_yet c.in-NotYet.is)
    c.stopped-stop.ensures.view c.if-stop-ne0.false (c.live.ensures.rested c.if-live-ne0.false)))
    c.value.ensures.not_yet c.value.ensures.value

pub returns-clause-some : goal.returns-clause-some
returns-clause-some g c =
    let b = g.B.Body in let p = program_of b.places b.awaits b.left b.asks b.then in
    tells_last c.rested_runs.ensures.no_value p c.args.laid.now.cells c.args.p.0 c.args.seat.now.me.0
    c.live.new.seat.me.0 c.value.new.seat.me.0
    (rests_at p c.args.p.0 c.stopped-stop.result c.args.seat.now.me.0 c.value-seen.new.seat.me.0
    c.stopped-stop.new.seat.me.0 c.live.new.seat.me.0 (c.value-seen.ensures.not_yet c.in-NotYet.is)
    c.stopped-stop.ensures.view c.if-stop-ne0.false (c.live.ensures.rested c.if-live-ne0.false))
    c.value.result c.told-2.result c.told-2.ensures c.value.ensures.not_yet c.value.ensures.value

pub returns-then-stop-ne0-clause-log : goal.returns-then-stop-ne0-clause-log
returns-then-stop-ne0-clause-log g c = stopped_so c.args.p.0 c.args.seat.now c.value-seen.new.seat
    c.stopped-stop.new.seat (c.value-seen.ensures.log_not_yet c.in-NotYet.is) c.why_of.result c.stopped-stop.result
    c.stopped-stop.ensures.log c.why_of.ensures

pub returns-then-live-ne0-clause-log : goal.returns-then-live-ne0-clause-log
returns-then-live-ne0-clause-log g c = (
  c.live.result,
  omega (arith, c.if-live-ne0.true),
  loaded_to c.args.p.0 c.args.seat.now c.value-seen.new.seat c.stopped-stop.new.seat
      (c.value-seen.ensures.log_not_yet c.in-NotYet.is) c.live.new.seat c.stopped-stop.result c.live.result
      c.stopped-stop.ensures.log c.if-stop-ne0.false c.live.ensures.log,
)

pub returns-clause-log : goal.returns-clause-log
returns-clause-log g c = subst (λ a. MakesLook c.args.p.0 (Some a) c.args.seat.now c.value.new.seat)
    (sym c.told-2.ensures) (found_at_rest c.args.p.0 c.value.result c.args.seat.now c.live.new.seat c.value.new.seat
    (loaded_to c.args.p.0 c.args.seat.now c.value-seen.new.seat c.stopped-stop.new.seat
    (c.value-seen.ensures.log_not_yet c.in-NotYet.is) c.live.new.seat c.stopped-stop.result 0
    c.stopped-stop.ensures.log c.if-stop-ne0.false
    (subst (λ n. IsLogged call.sees_live 0 0 n c.stopped-stop.new.seat c.live.new.seat) c.if-live-ne0.false
    c.live.ensures.log)) c.value.ensures.log_not_yet c.value.ensures.log_value)
