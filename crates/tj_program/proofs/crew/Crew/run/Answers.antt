use Rattle.tj_program.proofs.Prelude.{crosses, expr_sync, refl, script_sync, sendable, start_of, stmt_sync}
use Rattle.tj_modes.proofs.Outputs.{if_ok}
use Rattle.tj_program.proofs.crew.Crew.run.Goals as goal

-- a body of a script may cross threads
pub run_body-requires-send-B : goal.run_body-requires-send-B
run_body-requires-send-B g c κs = search (sendable, crosses, expr_sync, stmt_sync, script_sync) depth 40

pub returns : goal.returns
returns g c =
    let root = c.in_ok-root.root in
    if_ok c.run_body.result (λ given is. (
      start_of c.args.limits.strict c.args.limits.cells root,
      (root, c.in_ok-root.ensures.main, refl),
      is,
    )) c.run_body.ensures
