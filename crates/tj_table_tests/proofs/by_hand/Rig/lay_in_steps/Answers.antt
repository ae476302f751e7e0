use Rattle.tj_run.proofs.Prelude.{MayEnd, SeatMe, ap, ended, program_of, rest, subst, sym, ◌∙◌}
use Rattle.tj_words.specs.Calls.LiveViews.{homed}
use Rattle.tj_table_tests.proofs.by_hand.Rig.lay_in_steps.Goals as goal

pub put_phase-requires-clause-may : goal.put_phase-requires-clause-may
put_phase-requires-clause-may g c κs within = let b = g.B.Body in
    subst (MayEnd (program_of b.places b.awaits b.left b.asks b.then) c.args.t.0) (sym c.slot_swap.ensures.me)
    c.requires.may

pub returns-clause-me : goal.returns-clause-me
returns-clause-me g c = c.put_phase.ensures.puts
    ∙ ap (λ (m : SeatMe g.row.B.Denot). (homed m.1 (ended c.args.t.0 m.0), rest m.1)) c.slot_swap.ensures.me
