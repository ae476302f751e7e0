use Rattle.tj_program.proofs.Prelude.{inl, inr}
use Rattle.tj_modes.proofs.Outputs.{if_ok, IsRefused-fault}
use Rattle.tj_syntax.specs.View as view
use Rattle.tj_program.proofs.crew.Crew.report.Goals as goal

pub returns-in-Ok : goal.returns-in-Ok
returns-in-Ok g c = if_ok c.run.result (λ given ran all read.
    inr (ran.0, (view.script c.in-Ok.script, c.in-Ok.ensures.ok all read, ran.1), ran.2)) c.run.ensures

pub returns-in-Err : goal.returns-in-Err
returns-in-Err g c = if_ok c.refused_alone.result (λ given is all read.
    inl (IsRefused-fault c.in-Err.fault c.args.input.now _ _ all c.in-Err.ensures.fault is.0 is.1 is.2 read, is.3))
    c.refused_alone.ensures
