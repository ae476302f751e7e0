use Rattle.tj_run.proofs.Prelude.{CellId, Claimed, None, about_table, ap, program_of, subst, sym, ◌∙◌, ◌∷◌, ◌≡◌, ◌≢◌}
use Rattle.tj_table_tests.proofs.by_hand.Rig.claim_beside.Goals as goal

pub claim_first-requires-clause-cell : goal.claim_first-requires-clause-cell
claim_first-requires-clause-cell g c κs within = c.requires.begins.there

pub claim_first-requires-clause-knows : goal.claim_first-requires-clause-knows
claim_first-requires-clause-knows g c κs within =
    (about_table c.args.self.now.laid, c.requires.begins.runs.worker.of_table)

pub returns-clause-begun : goal.returns-clause-begun
returns-clause-begun g c =
    let b = g.B.Body in let p = program_of b.places b.awaits b.left b.asks b.then in
    let old = c.args.seat.now.me in let x = c.claim_first in let m = x.new.seat.me in let r = x.result in
    let its : Claimed p c.args.t.0 r old.0 m.0 = x.ensures.claimed in
    let cell : r.cell.0 ≡ c.args.t.0 = its.taken.has.cell in
    let apart : c.args.t.0 ≢ c.args.mine.now.cell.0
    = subst (λ (z : CellId). c.args.t.0 ≢ z.0) c.cell.ensures c.if-t-cell.false in record {
      runs = c.requires.begins.runs;
      rooted = c.requires.begins.rooted;
      apart = λ e. apart (sym cell ∙ e);
      claimed = subst (λ u. Claimed p u r old.0 m.0) (sym cell) its;
      slot = x.ensures.slot ∙ ap (λ u. (u, None) ∷ old.1) (sym cell);
      start = x.ensures.start;
    }
