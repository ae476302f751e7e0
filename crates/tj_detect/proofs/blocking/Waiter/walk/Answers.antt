use Rattle.tj_detect.proofs.Prelude.{ap, arith, ◌+◌, ◌-◌, ◌∙◌, ◌≤◌}
use Rattle.tj_detect.proofs.WalkLoops.{alarms_next, at_alarm, at_bound, at_ended, on_next, on_way, reads_owner}
use Rattle.tj_detect.proofs.WalkLoops.{walked_first}
use Rattle.tj_detect.proofs.BlockSteps.{counted_first, passed_more, walk_alarmed, walk_ended, walk_through}
use Rattle.tj_detect.proofs.blocking.Waiter.walk.Goals as goal
use Rattle.tj_detect.proofs.WalkReads.{walks_at}

pub loop-passed-init : goal.loop-passed-init
loop-passed-init g c =
    let a = c.args in
    let b = c.count-bound in (
      b.ensures.seat,
      record {
        start = c.requires.walks;
        walked = walked_first a.self.now.laid.now.cells a.self.now.t.0 a.self.now.q.0 a.self.now.way a.steps.now
            a.seat.now.me.0 c.requires.walks b.result c.tick.new.self b.new.seat.me.0 c.requires.cell b.ensures.view
            c.tick.ensures;
      },
      counted_first b.ensures.log.0 b.ensures.log.1 b.ensures.log.2 (omega arith),
    )

pub count-bound-requires-clause-walks : goal.count-bound-requires-clause-walks
count-bound-requires-clause-walks g c κs within =
    let h = c.requires.walks in walks_at (h.custody, h.held, h.walks) h.may

pub look_at_owner-requires-clause-walks : goal.look_at_owner-requires-clause-walks
look_at_owner-requires-clause-walks g c κs within = reads_owner c.loop-passed.invariant.1 c.loop-passed-test.true

pub look_at_owner-requires-clause-cell : goal.look_at_owner-requires-clause-cell
look_at_owner-requires-clause-cell g c κs within = c.loop-passed.invariant.1.walked.inside

pub returns-in-Ended-clause-comes : goal.returns-in-Ended-clause-comes
returns-in-Ended-clause-comes g c =
    let i = c.loop-passed.invariant.1 in
    at_ended i c.loop-passed-test.true c.look_at_owner.new.steps c.look_at_owner.new.seat.me.0
    (c.in-Ended.ensures.hops c.args.self.now.q.0 c.args.self.now.way i.walked.walker (on_way i))

pub returns-in-Ended-clause-seat : goal.returns-in-Ended-clause-seat
returns-in-Ended-clause-seat g c =
    let s = c.look_at_owner.ensures.seat in
    let i = c.loop-passed.invariant.0 in
    (s.0 ∙ i.0, s.1 ∙ i.1, s.2 ∙ i.2)

pub put_wait-requires-clause-may : goal.put_wait-requires-clause-may
put_wait-requires-clause-may g c κs within =
    let i = c.loop-passed.invariant.1 in
    alarms_next i c.loop-passed-test.true c.look_at_owner.new.steps c.look_at_owner.new.seat.me.0
    (c.in-Own.ensures.hops c.args.self.now.q.0 c.args.self.now.way i.walked.walker (on_way i))

pub returns-in-Own-clause-comes : goal.returns-in-Own-clause-comes
returns-in-Own-clause-comes g c =
    let i = c.loop-passed.invariant.1 in
    at_alarm i c.loop-passed-test.true c.look_at_owner.new.steps c.look_at_owner.new.seat.me.0
    (c.in-Own.ensures.hops c.args.self.now.q.0 c.args.self.now.way i.walked.walker (on_way i))
    c.put_wait.new.steps c.put_wait.new.seat.me.0 (ap (λ z. z.0) c.put_wait.ensures.puts) c.put_wait.ensures.step

pub returns-in-Own-clause-seat : goal.returns-in-Own-clause-seat
returns-in-Own-clause-seat g c =
    let r = c.put_wait.ensures in
    let s = c.look_at_owner.ensures.seat in
    let i = c.loop-passed.invariant.0 in
    (r.table ∙ (s.0 ∙ i.0), r.id ∙ (s.1 ∙ i.1), ap (λ z. z.1) r.puts ∙ (s.2 ∙ i.2))

pub loop-passed-preserved : goal.loop-passed-preserved
loop-passed-preserved g c =
    let i = c.loop-passed.invariant.1 in
    let s = c.look_at_owner.ensures.seat in
    let j = c.loop-passed.invariant.0 in (
      (s.0 ∙ j.0, s.1 ∙ j.1, s.2 ∙ j.2),
      on_next i c.loop-passed-test.true c.look_at_owner.new.steps c.look_at_owner.new.seat.me.0
          c.in-Next.next _ (omega arith)
          (c.in-Next.ensures.hops c.args.self.now.q.0 c.args.self.now.way i.walked.walker (on_way i)),
      passed_more c.loop-passed.invariant.2 (let less = c.loop-passed-test.true in omega arith)
          c.in-Next.ensures.log,
    )

pub returns-clause-comes : goal.returns-clause-comes
returns-clause-comes g c =
    let test = c.loop-passed-test.false in
    let done : c.count-bound.result ≤ c.loop-passed.passed = omega (arith, test) in
    at_bound c.loop-passed.invariant.1 done c.count-bound.ensures.some

pub returns-in-Ended-clause-log : goal.returns-in-Ended-clause-log
returns-in-Ended-clause-log g c = walk_ended c.loop-passed.invariant.2
    (c.count-bound.result - (c.loop-passed.passed + 1)) c.args.self.now.way
    (let less = c.loop-passed-test.true in omega arith) c.in-Ended.ensures.log

pub returns-in-Own-clause-log : goal.returns-in-Own-clause-log
returns-in-Own-clause-log g c = walk_alarmed c.loop-passed.invariant.2
    (c.count-bound.result - (c.loop-passed.passed + 1)) c.args.self.now.way c.look_at_owner.new.seat
    c.put_wait.new.seat (let less = c.loop-passed-test.true in omega arith) c.in-Own.ensures.log c.put_wait.ensures.log

pub returns-clause-log : goal.returns-clause-log
returns-clause-log g c = walk_through c.loop-passed.invariant.2 c.args.self.now.way
    (let test = c.loop-passed-test.false in omega arith)
