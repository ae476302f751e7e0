use Rattle.tj_program.proofs.Prelude.{Appends, arith, false≢true, inl, length, refl, subst, ◌≤◌}
use Rattle.tj_program.proofs.ClosedRuns.{IsPutWith-failed}
use Rattle.tj_program.proofs.top_call.put_given.Goals as goal

pub returns-in-Ok-clause-put : goal.returns-in-Ok-clause-put
returns-in-Ok-clause-put g c =
    inl (refl, refl, subst (Appends _ _) c.as_slice.ensures.value c.in-Ok.ensures.ok)

pub returns-clause-put : goal.returns-clause-put
returns-clause-put g c = IsPutWith-failed (g.K.Sink.has_room c.args.sink.now) c.args.given.output.status
    c.as_slice.result.now c.args.given.output.text.items c.args.given.closed _ _ _ _ c.as_slice.ensures.value
    c.in-Err.ensures.err c.in-Err.ensures.failed (λ room has.
    let no : length c.as_slice.result.now ≤ room → ⊥ = λ le. false≢true (c.in-Err.ensures.sound room has le).0 in
    omega (arith, no))
