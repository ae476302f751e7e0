use Rattle.std.proofs.Common.{arith, inr, length, refl, ◌≤◌}
use Rattle.std.proofs.lemmas.Bool.{false≢true}
use Rattle.tj_command.proofs.delivery.put_text.Goals as goal

pub returns-in-Err-clause-put : goal.returns-in-Err-clause-put
returns-in-Err-clause-put g c = inr (
  refl,
  c.in-Err.ensures.err,
  c.in-Err.ensures.failed,
  λ room has.
      let no : length c.args.text.now ≤ room → ⊥ = λ le.
      false≢true (c.in-Err.ensures.sound room has le).0 in
      omega (arith, no),
)
