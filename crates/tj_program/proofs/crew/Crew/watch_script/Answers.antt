use Rattle.tj_program.proofs.Prelude.{Root, crosses, expr_sync, false, refl, script_program, script_sync, sendable}
use Rattle.tj_program.proofs.Prelude.{start_of, stmt_sync}
use Rattle.tj_program.proofs.ClosedRuns.{IsRunGiven-unrested, given_named, rests_named}
use Rattle.tj_modes.proofs.Outputs.{if_ok}
use Rattle.tj_program.proofs.crew.Crew.watch_script.Goals as goal

-- a body of a script may cross threads
pub run_watched-requires-send-B : goal.run_watched-requires-send-B
run_watched-requires-send-B g c κs = search (sendable, crosses, expr_sync, stmt_sync, script_sync) depth 40

pub watched_at_rest-requires-clause-rest : goal.watched_at_rest-requires-clause-rest
watched_at_rest-requires-clause-rest g c =
    rests_named script_program c.in_ok-root.root c.args.cells false c.in-Ok.rest c.in-Ok.ensures.rest

pub returns-in-Ok : goal.returns-in-Ok
returns-in-Ok g c =
    let root = c.in_ok-root.root in
    if_ok c.watched_at_rest.result (λ given is. (
      start_of false c.args.cells root,
      (root, c.in_ok-root.ensures.main, refl),
      given_named script_program Root root c.args.cells false c.in-Ok.rest _ _ _ c.in-Ok.ensures.rest is,
    )) c.watched_at_rest.ensures

pub returns-in-Err : goal.returns-in-Err
returns-in-Err g c =
    let root = c.in_ok-root.root in
    let start = start_of false c.args.cells root in
    if_ok c.unrested.result (λ given is. (
      start,
      (root, c.in_ok-root.ensures.main, refl),
      IsRunGiven-unrested Root start _ _ _ (c.in-Err.ensures.full is.0) is.1 is.2 is.3,
    )) c.unrested.ensures
