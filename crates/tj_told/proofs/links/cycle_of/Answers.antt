use Rattle.std.proofs.Common.{◌<◌}
use Rattle.tj_base.specs.declared.cell.CellId.{CellId}
use Rattle.tj_mean.specs.declared.outcome.Link.{Link}
use Rattle.tj_told.proofs.Observing.{of_some}
use Rattle.tj_told.proofs.LoggedRounds.{IsOnRound, round_on, round_seen, round_starts}
use Rattle.std.proofs.Common.{subst, sym}
use Rattle.tj_told.specs.ToldLinks.{FindsTurn}
use Rattle.tj_told.proofs.Climbing.{looks_itself, looks_on, observes_on}
use Rattle.tj_told.proofs.links.cycle_of.Goals as goal

pub link_of-requires-clause-seat : goal.link_of-requires-clause-seat
link_of-requires-clause-seat g c κs within =
    observes_on c.args.laid.now c.args.seat.now c.loop-i.seat c.requires.seat c.loop-i.invariant.0

pub returns-in_err-found-clause-seat : goal.returns-in_err-found-clause-seat
returns-in_err-found-clause-seat g c =
    looks_on c.args.seat.now c.loop-i.seat c.link_of.new.seat c.loop-i.invariant.0 c.link_of.ensures.seat

pub returns-in_default : goal.returns-in_default
returns-in_default g c = record {
  seat = looks_on c.args.seat.now c.loop-i.seat c.link_of.new.seat c.loop-i.invariant.0 c.link_of.ensures.seat;
  round = tt;
}

pub returns-in_err-push-clause-seat : goal.returns-in_err-push-clause-seat
returns-in_err-push-clause-seat g c =
    looks_on c.args.seat.now c.loop-i.seat c.link_of.new.seat c.loop-i.invariant.0 c.link_of.ensures.seat

pub returns-then-owner-t : goal.returns-then-owner-t
returns-then-owner-t g c = record {
  seat = looks_on c.args.seat.now c.loop-i.seat c.link_of.new.seat c.loop-i.invariant.0 c.link_of.ensures.seat;
  round = round_seen c.args.t.0 c.loop-i.task.0 c.in-Some.found.1.0 c.loop-i.links.items c.push.new.self.items
      c.in-Some.found.0 c.loop-i.seat.log c.link_of.new.seat.log c.loop-i.seat.me.0.seen c.link_of.new.seat.me.0.seen
      c.loop-i.invariant.2 (of_some (λ (out : Link × CellId). FindsTurn c.loop-i.task.0 out.0 out.1.0 c.loop-i.seat.log
      c.link_of.new.seat.log c.link_of.new.seat.me.0.seen) c.in_ok-found.field-0 c.in-Some.found c.in-Some.is
      c.in_ok-found.ensures.turn) c.link_of.ensures.seat.more.seen c.in_ok-push.ensures.items c.if-owner-t.true
      c.from_least.result c.from_least.ensures;
}

pub loop-i-preserved : goal.loop-i-preserved
loop-i-preserved g c = (
  looks_on c.args.seat.now c.loop-i.seat c.link_of.new.seat c.loop-i.invariant.0 c.link_of.ensures.seat,
  of_some (λ (out : Link × CellId). out.1.0 < c.args.laid.now.cells) c.in_ok-found.field-0 c.in-Some.found c.in-Some.is
      c.in_ok-found.ensures.owner,
  round_on c.args.t.0 c.loop-i.task.0 c.in-Some.found.1.0 c.loop-i.links.items c.push.new.self.items
      c.in-Some.found.0 c.loop-i.seat.log c.link_of.new.seat.log c.loop-i.seat.me.0.seen c.link_of.new.seat.me.0.seen
      c.loop-i.invariant.2 (of_some (λ (out : Link × CellId). FindsTurn c.loop-i.task.0 out.0 out.1.0 c.loop-i.seat.log
      c.link_of.new.seat.log c.link_of.new.seat.me.0.seen) c.in_ok-found.field-0 c.in-Some.found c.in-Some.is
      c.in_ok-found.ensures.turn) c.link_of.ensures.seat.more.seen c.in_ok-push.ensures.items c.if-owner-t.false,
)

pub loop-i-init : goal.loop-i-init
loop-i-init g c = (
  looks_itself c.args.seat.now,
  c.requires.cell,
  subst (λ z. IsOnRound c.args.t.0 c.args.t.0 z c.args.seat.now.log c.args.seat.now.me.0.seen)
      (sym c.new-links.ensures.items)
      (round_starts c.args.t.0 c.args.seat.now.log c.args.seat.now.me.0.seen c.requires.alarmed),
)
