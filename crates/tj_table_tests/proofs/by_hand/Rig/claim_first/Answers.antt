use Rattle.tj_run.proofs.Prelude.{Claimed, IfSome, None, program_of, subst, ◌∷◌, ◌≡◌}
use Rattle.tj_table_tests.proofs.by_hand.Rig.claim_first.Goals as goal

pub returns-clause-claimed : goal.returns-clause-claimed
returns-clause-claimed g c = let b = g.B.Body in let p = program_of b.places b.awaits b.left b.asks b.then in
    subst (λ z. IfSome z (λ x. Claimed p c.args.t.0 x c.args.seat.now.me.0 c.claim.new.seat.me.0)) c.expect-rec.ensures
    c.claim.ensures.some

pub returns-clause-slot : goal.returns-clause-slot
returns-clause-slot g c =
    subst (λ z. IfSome z (λ _. c.claim.new.seat.me.1 ≡ (c.args.t.0, None) ∷ c.args.seat.now.me.1)) c.expect-rec.ensures
    c.claim.ensures.slot
