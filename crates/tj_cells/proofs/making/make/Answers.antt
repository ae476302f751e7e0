use Rattle.tj_cells.proofs.Prelude.{ap, inl}
use Rattle.std.proofs.Common.{Some, ◌∷◌}
use Rattle.tj_base.specs.declared.cell.Sort.TheVariants as sort
use Rattle.tj_words.specs.declared.phase.Phase.TheVariants as phase
use Rattle.tj_cells.specs.CallLogs.{drawn_entries, owner_entry, phase_entry}
use Rattle.tj_cells.proofs.CallLogs.{makes_one}
use Rattle.tj_cells.proofs.MakingViews.{may_give, may_mark, promise_made}
use Rattle.tj_cells.proofs.making.make.Goals as goal

pub put_phase-requires-clause-may : goal.put_phase-requires-clause-may
put_phase-requires-clause-may g c κs within = may_mark c.requires.may c.in_ok-c.ensures.drawn

pub put_owner-requires-clause-may : goal.put_owner-requires-clause-may
put_owner-requires-clause-may g c κs within =
    inl (may_give c.requires.may c.in_ok-c.ensures.drawn (ap (λ m. m.0) c.put_phase.ensures.puts))

pub returns-clause-made : goal.returns-clause-made
returns-clause-made g c =
    let marks = ap (λ m. m.0) c.put_phase.ensures.puts in
    promise_made c.requires.may c.in_ok-c.ensures.drawn marks
    (c.put_owner.ensures.view.0 (may_give c.requires.may c.in_ok-c.ensures.drawn marks))

pub returns-clause-log_made : goal.returns-clause-log_made
returns-clause-log_made g c =
    let made = c.in_ok-c.c.0 in
    let drawn = drawn_entries c.args.t.0 c.args.kid sort.Promise made in
    makes_one c.args.seat.now c.put_phase.new.seat c.put_owner.new.seat (phase_entry made phase.Promise ∷ drawn)
    (owner_entry made (Some c.args.t.0))
    (makes_one c.args.seat.now c.draw_named.new.seat c.put_phase.new.seat drawn (phase_entry made phase.Promise)
    c.in_ok-c.ensures.log_drawn c.put_phase.ensures.log) c.put_owner.ensures.log
