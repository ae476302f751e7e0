use Rattle.tj_run.proofs.Prelude.{ComesBack, IfSome, program_of, subst, ◌∙◌}
use Rattle.tj_run.proofs.Runs.TaskReturns.{lack_on, lefts_on}
use Rattle.tj_run.proofs.Seats.WorkersSteps.{back_here, back_on, lacks_on, left_on}
use Rattle.tj_run.proofs.post.Post.run.Goals as goal
use Rattle.tj_cells.proofs.CallLogs.{grows_on}
use Rattle.tj_run.proofs.Seats.LogGrowth.{still}
use Rattle.tj_run.proofs.Prelude.{refl}

pub returns-in_err-run_on-clause-stays : goal.returns-in_err-run_on-clause-stays
returns-in_err-run_on-clause-stays g c = (
  (
    c.in_err-run_on.ensures.stays.0.0 ∙ c.loop-i.invariant.table,
    c.in_err-run_on.ensures.stays.0.1 ∙ c.loop-i.invariant.limit,
  ),
  lacks_on c.in_err-run_on.field-0.0 c.args.self.now.seat.me.0 c.loop-i.self.seat.me.0 c.run_on.new.self.seat.me.0
      c.loop-i.invariant.back.knows c.in_err-run_on.ensures.stays.1 c.from_residual.result c.from_residual.ensures.1,
)

pub returns-in-None-wait-clause-left : goal.returns-in-None-wait-clause-left
returns-in-None-wait-clause-left g c =
    let l = c.args.laid.now in let v = c.loop-i.self.seat.me.0 in let me = c.wait.new.seat.me in
    left_on l c.args.self.now.seat.me.0 v c.loop-i.invariant.back.knows me
    (left_on l v c.run_on.new.self.seat.me.0 c.in_ok-run_on.ensures.goes.knows me (c.wait.ensures.left c.in-None-wait.is))

pub loop-i-preserved : goal.loop-i-preserved
loop-i-preserved g c =
    let b = g.B.Body in let loop = c.loop-i in let done = c.in_ok-run_on in let l = c.args.laid.now in
    let program = program_of b.places b.awaits b.left b.asks b.then in let r = c.in-Some-wait.back in
    let v = loop.self.seat.me.0 in let w = c.run_on.new.self.seat.me.0 in let me = c.wait.new.seat.me in record {
      table = c.wait.ensures.table ∙ (done.ensures.stays.0.0 ∙ loop.invariant.table);
      limit = done.ensures.stays.0.1 ∙ loop.invariant.limit;
      back = back_on program l r c.args.self.now.seat.me.0 v loop.invariant.back.knows me
          (back_on program l r v w done.ensures.goes.knows me
          (subst (λ o. IfSome o (λ r. ComesBack program l r w me)) c.in-Some-wait.is c.wait.ensures.back));
      log = grows_on c.args.self.now.seat c.run_on.new.self.seat c.wait.new.seat
          (grows_on c.args.self.now.seat c.loop-i.self.seat c.run_on.new.self.seat
          c.loop-i.invariant.log c.run_on.ensures.log) c.wait.ensures.log;
    }

pub returns-in-Ends-clause-stays : goal.returns-in-Ends-clause-stays
returns-in-Ends-clause-stays g c =
    let loop = c.loop-i in let done = c.in_ok-run_on in let stays = c.end.ensures.stays in
    let v = loop.self.seat.me.0 in let w = c.end.new.self.seat.me.0 in (
      (
        stays.0.0 ∙ (done.ensures.stays.0.0 ∙ loop.invariant.table),
        stays.0.1 ∙ (done.ensures.stays.0.1 ∙ loop.invariant.limit),
      ),
      lack_on c.args.self.now.seat.me.0 v loop.invariant.back.knows w c.end.result
          (lack_on v c.run_on.new.self.seat.me.0 done.ensures.goes.knows w c.end.result stays.1),
    )

pub returns-in-Ends-clause-left : goal.returns-in-Ends-clause-left
returns-in-Ends-clause-left g c =
    let l = c.args.laid.now in let v = c.loop-i.self.seat.me.0 in let me = c.end.new.self.seat.me in
    lefts_on c.args.self.now.seat.me.0 v c.loop-i.invariant.back.knows l me c.end.result
    (lefts_on v c.run_on.new.self.seat.me.0 c.in_ok-run_on.ensures.goes.knows l me c.end.result c.end.ensures.left)

pub run_on-requires-clause-back : goal.run_on-requires-clause-back
run_on-requires-clause-back g c κs within = let b = g.B.Body in let i = c.loop-i in
    back_here (program_of b.places b.awaits b.left b.asks b.then) c.args.laid.now i.rec c.args.self.now.seat.me.0
    i.self.seat.me i.invariant.back

pub loop-i-init : goal.loop-i-init
loop-i-init g c = record {
  table = refl;
  limit = refl;
  back = c.requires.back;
  log = still c.args.self.now.seat;
}

pub returns-in_err-run_on-clause-log : goal.returns-in_err-run_on-clause-log
returns-in_err-run_on-clause-log g c = grows_on c.args.self.now.seat c.loop-i.self.seat c.run_on.new.self.seat
    c.loop-i.invariant.log c.run_on.ensures.log

pub returns-in-None-wait-clause-log : goal.returns-in-None-wait-clause-log
returns-in-None-wait-clause-log g c = grows_on c.args.self.now.seat c.run_on.new.self.seat c.wait.new.seat
    (grows_on c.args.self.now.seat c.loop-i.self.seat c.run_on.new.self.seat
    c.loop-i.invariant.log c.run_on.ensures.log) c.wait.ensures.log

pub returns-in-Ends-clause-log : goal.returns-in-Ends-clause-log
returns-in-Ends-clause-log g c = grows_on c.args.self.now.seat c.run_on.new.self.seat c.end.new.self.seat
    (grows_on c.args.self.now.seat c.loop-i.self.seat c.run_on.new.self.seat
    c.loop-i.invariant.log c.run_on.ensures.log) c.end.ensures.log
