use Rattle.tj_run.proofs.Prelude.{Some, about_table, inl, program_of, refl, sym, ◌∙◌}
use Rattle.tj_park.proofs.TakenTasks.{claimed, slot_in_front}
use Rattle.tj_table_tests.proofs.TestRuns.{claim_back, claim_begins, claim_knows}
use Rattle.tj_table_tests.proofs.by_hand.Rig.claim_in_steps.Goals as goal

pub swap_phase-requires-clause-cell : goal.swap_phase-requires-clause-cell
swap_phase-requires-clause-cell g c κs within = c.requires.begins.there

pub swap_phase-requires-clause-may : goal.swap_phase-requires-clause-may
swap_phase-requires-clause-may g c κs within =
    inl (refl, refl, (about_table c.args.self.now.laid, c.requires.begins.free.worker.of_table))

pub slot_swap-requires-clause-slot : goal.slot_swap-requires-clause-slot
slot_swap-requires-clause-slot g c κs within =
    let k = c.in-Ok.ensures.swapped.claims refl in
    slot_in_front c.args.t.0 (Some k.0) _ c.args.seat.now.me.1 c.swap_phase.new.seat.me k.2

pub returns-clause-knows : goal.returns-clause-knows
returns-clause-knows g c =
    let b = g.B.Body in let p = program_of b.places b.awaits b.left b.asks b.then in let l = c.args.self.now.laid in
    let s = c.slot_swap in
    let got = claimed p c.args.t.0 c.args.seat.now.me c.swap_phase.new.seat.me s.new.seat.me s.result
    (c.in-Ok.ensures.swapped.claims refl) s.ensures.found s.ensures.me in
    claim_knows p l c.expect-rec.result c.args.t.0 c.args.seat.now.me s.new.seat.me s.result c.expect-rec.ensures
    c.requires.begins.free c.requires.begins.rooted got.0 got.1

pub returns-clause-runs : goal.returns-clause-runs
returns-clause-runs g c =
    let b = g.B.Body in let p = program_of b.places b.awaits b.left b.asks b.then in let l = c.args.self.now.laid in
    let s = c.slot_swap in let h = c.requires.begins in
    let got = claimed p c.args.t.0 c.args.seat.now.me c.swap_phase.new.seat.me s.new.seat.me s.result
    (c.in-Ok.ensures.swapped.claims refl) s.ensures.found s.ensures.me in record {
      runs = (claim_back p l c.expect-rec.result c.args.t.0 c.args.seat.now.me s.new.seat.me s.result
          c.expect-rec.ensures h.free h.rooted got.0 got.1).runs;
      running = claim_begins p l c.expect-rec.result c.args.t.0 c.args.seat.now.me s.new.seat.me s.result
          c.expect-rec.ensures h.free h.rooted got.0 got.1 (sym c.answer.ensures ∙ c.in-Start.is);
    }
