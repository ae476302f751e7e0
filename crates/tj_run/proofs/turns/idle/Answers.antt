use Rattle.tj_run.proofs.Prelude.{ap, ◌∙◌, ◌∷◌}
use Rattle.tj_words.specs.CallLaws.StepCalls as call
use Rattle.tj_words.specs.CallLaws.StepLogs.{entry_of}
use Rattle.tj_run.proofs.Runs.TurnSteps.{left_live, rest_found}
use Rattle.tj_run.proofs.turns.idle.Goals as goal
use Rattle.std.proofs.Common.{[]}
use Rattle.tj_cells.proofs.CallLogs.{grows_by}

pub returns-then-live-eq0-clause-found : goal.returns-then-live-eq0-clause-found
returns-then-live-eq0-clause-found g c = rest_found c.args.seat.now.me.0 c.live.new.seat.me.0
    (c.live.ensures.rested c.if-live-eq0.true)

pub returns-clause-turns : goal.returns-clause-turns
returns-clause-turns g c = left_live c.args.laid.now c.live.result c.args.seat.now.me c.live.new.seat.me c.requires.free
    (c.live.ensures.live c.if-live-eq0.false) c.live.ensures.seat.2

pub returns-then-live-eq0-clause-log : goal.returns-then-live-eq0-clause-log
returns-then-live-eq0-clause-log g c = let old = c.args.seat.now.log in
    ([], c.live.ensures.log.0 ∙ ap (λ n. entry_of call.sees_live 0 0 n ∷ old) c.if-live-eq0.true, c.live.ensures.log.1)

pub returns-then-live-eq0-clause-grows : goal.returns-then-live-eq0-clause-grows
returns-then-live-eq0-clause-grows g c = grows_by c.args.seat.now c.live.new.seat (_ ∷ []) c.live.ensures.log

pub returns-clause-grows : goal.returns-clause-grows
returns-clause-grows g c = grows_by c.args.seat.now c.live.new.seat (_ ∷ []) c.live.ensures.log
