use Rattle.tj_program.proofs.Prelude.{None, false≢true, refl, subst, sym, takes_input, true, ◌∙◌, ◌≡◌}
use Rattle.tj_program.proofs.ClosedRuns.{alone, IsGiven-alone, IsGiven-gen, IsGiven-relay, IsGiven-report}
use Rattle.tj_program.proofs.ClosedRuns.{IsGiven-watch}
use Rattle.tj_modes.proofs.Outputs.{if_both, if_ok}
use Rattle.tj_program.proofs.mode_outputs.given_by.Goals as goal

pub returns-in-Run : goal.returns-in-Run
returns-in-Run g c = if_ok c.report.result (λ given ran all read.
    IsGiven-report c.args.command c.in-Run.workers c.in-Run.cells c.in-Run.steps c.in-Run.strict all _ _ _ c.in-Run.is
    (ran all (read (subst (λ k. takes_input k ≡ true) (sym c.in-Run.is) refl)))) c.report.ensures

pub returns-in-Gen : goal.returns-in-Gen
returns-in-Gen g c = if_ok c.summary.result (λ given ran all read.
    IsGiven-gen c.args.command c.in-Gen.size c.in-Gen.workers c.in-Gen.cells c.in-Gen.steps all _ _ _ c.in-Gen.is ran)
    c.summary.ensures

pub returns-in-Relay : goal.returns-in-Relay
returns-in-Relay g c = if_both c.relay.result (λ given lists ran all read.
    IsGiven-relay c.args.command c.in-Relay.size c.in-Relay.workers c.in-Relay.cells all _ _ _ c.in-Relay.is lists ran)
    c.relay.ensures.lists c.relay.ensures.run

pub returns-in-Watch : goal.returns-in-Watch
returns-in-Watch g c = if_ok c.watch.result (λ given ran all read.
    IsGiven-watch c.args.command c.in-Watch.workers c.in-Watch.cells c.in-Watch.steps all _ _ _ c.in-Watch.is
    (ran all (read (subst (λ k. takes_input k ≡ true) (sym c.in-Watch.is) refl)))) c.watch.ensures

pub returns-in_ok-output_of-in-Plan : goal.returns-in_ok-output_of-in-Plan
returns-in_ok-output_of-in-Plan g c = λ all read.
    IsGiven-alone c.args.command all _ _ None (c.in_ok-output_of-in-Plan.ensures all read)
    (λ h. false≢true (sym (alone c.args.command c.in-Plan.is) ∙ h.1)) refl
