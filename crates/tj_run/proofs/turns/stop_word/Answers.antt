use Rattle.tj_run.proofs.Prelude.{ap, program_of, refl, sym, ◌∙◌, ◌∷◌}
use Rattle.tj_words.specs.CallLaws.StepCalls as call
use Rattle.tj_words.specs.CallLaws.StepLogs.{entry_of}
use Rattle.tj_run.proofs.Runs.TurnSteps.{stop_found, stop_left}
use Rattle.tj_run.proofs.turns.stop_word.Goals as goal
use Rattle.std.proofs.Common.{[]}
use Rattle.tj_cells.proofs.CallLogs.{grows_by}

pub returns-in-None-clause-stands : goal.returns-in-None-clause-stands
returns-in-None-clause-stands g c = λ n i e. c.stopped-word.ensures.stands n i (c.in-None.ensures.none refl)

pub returns-in-Some-clause-found : goal.returns-in-Some-clause-found
returns-in-Some-clause-found g c = stop_found c.of_stop.result c.stopped-word.result c.args.seat.now.me.0
    c.stopped-word.new.seat.me.0 (sym (c.of_stop.ensures ∙ c.in-Some.ensures.back)) c.stopped-word.ensures.view

pub returns-in-Some-clause-some : goal.returns-in-Some-clause-some
returns-in-Some-clause-some g c = let b = g.B.Body in
    stop_left (program_of b.places b.awaits b.left b.asks b.then) c.of_stop.result c.stopped-word.result
    c.args.seat.now.me.0 c.stopped-word.new.seat.me.0 (sym (c.of_stop.ensures ∙ c.in-Some.ensures.back))
    c.stopped-word.ensures.view c.stopped-word.ensures.full

pub returns-in-Some-clause-log : goal.returns-in-Some-clause-log
returns-in-Some-clause-log g c = let old = c.args.seat.now.log in (
  [],
  c.stopped-word.ensures.log.0 ∙ ap (λ n. entry_of call.sees_stop 0 0 n ∷ old)
      (sym (c.of_stop.ensures ∙ c.in-Some.ensures.back)),
  c.stopped-word.ensures.log.1,
)

pub returns-in-None-clause-grows : goal.returns-in-None-clause-grows
returns-in-None-clause-grows g c = grows_by c.args.seat.now c.stopped-word.new.seat (_ ∷ []) c.stopped-word.ensures.log

pub returns-in-Some-clause-grows : goal.returns-in-Some-clause-grows
returns-in-Some-clause-grows g c = grows_by c.args.seat.now c.stopped-word.new.seat (_ ∷ []) c.stopped-word.ensures.log
