use Rattle.tj_modes.proofs.Prelude.{crosses, expr_sync, false, refl, script_sync, sendable, start_of, stmt_sync}
use Rattle.tj_modes.proofs.KnownRuns.{Known-full, Known-told}
use Rattle.tj_modes.proofs.known_run.joins_in_script.Goals as goal

-- a body of a script may cross threads
pub acts-requires-send-B : goal.acts-requires-send-B
acts-requires-send-B c κs = search (sendable, crosses, expr_sync, stmt_sync, script_sync) depth 40

pub returns-in-Ok : goal.returns-in-Ok
returns-in-Ok c =
    let root = c.in_ok-root.root in
    Known-told (start_of false c.args.cells root) (record { cells = c.args.cells; steps = c.args.steps; strict = false })
    _ c.in-Ok.lines c.joins_told.result (root, c.in_ok-root.ensures.main, refl) c.in-Ok.ensures.fits
    c.in-Ok.ensures.acts c.joins_told.ensures

pub returns-in-Err-Full : goal.returns-in-Err-Full
returns-in-Err-Full c =
    let root = c.in_ok-root.root in
    Known-full (start_of false c.args.cells root) (record { cells = c.args.cells; steps = c.args.steps; strict = false })
    _ c.full.result (root, c.in_ok-root.ensures.main, refl) (c.in-Err-Full.ensures.full c.in-Err-Full.field-0-is)
    c.full.ensures.status c.full.ensures.text
