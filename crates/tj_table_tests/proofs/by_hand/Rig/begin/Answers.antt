use Rattle.tj_run.proofs.Prelude.{Some, about_table, program_of, refl}
use Rattle.tj_table_tests.proofs.TestRuns.{claim_back, claim_begins}
use Rattle.tj_table_tests.proofs.by_hand.Rig.begin.Goals as goal

pub claim_first-requires-clause-cell : goal.claim_first-requires-clause-cell
claim_first-requires-clause-cell g c κs within = c.requires.begins.there

pub claim_first-requires-clause-knows : goal.claim_first-requires-clause-knows
claim_first-requires-clause-knows g c κs within =
    (about_table c.args.self.now.laid, c.requires.begins.free.worker.of_table)

pub returns-clause-runs : goal.returns-clause-runs
returns-clause-runs g c = let b = g.B.Body in let p = program_of b.places b.awaits b.left b.asks b.then in
    let l = c.args.self.now.laid in let h = c.requires.begins in let x = c.claim_first in record {
      runs = (claim_back p l x.result c.args.t.0 c.args.seat.now.me x.new.seat.me (Some x.result) refl h.free h.rooted
          x.ensures.claimed x.ensures.slot).runs;
      running = claim_begins p l x.result c.args.t.0 c.args.seat.now.me x.new.seat.me (Some x.result) refl h.free
          h.rooted x.ensures.claimed x.ensures.slot x.ensures.start;
    }
