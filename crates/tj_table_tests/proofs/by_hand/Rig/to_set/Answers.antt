use Rattle.tj_run.proofs.Prelude.{IsAsked, ap, fill_at, program_of, subst, sym, table_program, to_z-of_z, w64}
use Rattle.tj_run.proofs.Prelude.{◌∙◌}
use Rattle.tj_run.proofs.Asks.SetPromises.{IsToSet, sets_cell, sets_fills, sets_gives}
use Rattle.tj_record.specs.declared.record.Fill.TheVariants as fill
use Rattle.tj_table_tests.proofs.OwnSets.{owns_second}
use Rattle.tj_table_tests.proofs.by_hand.Rig.to_set.Given.{Over}
use Rattle.tj_table_tests.proofs.by_hand.Rig.to_set.Goals as goal
use Rattle.tj_table_tests.proofs.by_hand.Rig.to_set.Goals.{In-Promise}

-- the task is to set the held cell at the place
to_set : (g : Over) (c : In-Promise g)
    → let b = g.B.Body in let a = c.args in
    IsToSet (program_of b.places b.awaits b.left b.asks b.then) a.self.now.laid c.ask-rec.result.0 c.in-Set.p c.in-Set.v
    a.seat.now.me c.at-h.result
to_set g c = let b = g.B.Body in let l = c.args.self.now.laid in record {
  runs = c.ask-rec.ensures.runs;
  asked = subst (IsAsked (table_program (program_of b.places b.awaits b.left b.asks b.then) l) c.args.seat.now.me.0
      c.ask-rec.result.0) c.in-Set.is c.ask-rec.ensures.asked;
  law = c.points_in_rounds.ensures.ask l.strict l.root.value c.ask-rec.ensures.asked.rooted;
  tell = c.names_and_cells.ensures.cells;
  is = c.at-h.ensures;
}

pub returns-clause-cell : goal.returns-clause-cell
returns-clause-cell g c = sets_cell (to_set g (goal.at.returns-clause-cell g c).In-Promise)

pub returns-clause-gives : goal.returns-clause-gives
returns-clause-gives g c =
    sets_gives (to_set g (goal.at.returns-clause-gives g c).In-Promise) c.in-Promise.is
    (owns_second c.ask-rec.result.0.owned c.promises.result.now c.promises-2.result.now
    c.at-h.result.cell.0 c.promises.ensures.promises c.promises-2.ensures.promises c.if-promises-ne1.false
    c.if-promises-h.false)

pub returns-clause-fills : goal.returns-clause-fills
returns-clause-fills g c = let l = c.args.self.now.laid in
    sets_fills (to_set g (goal.at.returns-clause-fills g c).In-Promise) c.in-Promise.is
    (owns_second c.ask-rec.result.0.owned c.promises.result.now c.promises-2.result.now
    c.at-h.result.cell.0 c.promises.ensures.promises c.promises-2.ensures.promises c.if-promises-ne1.false
    c.if-promises-h.false) _
    (ap fill.Num (to_z-of_z w64 c.in-Num.number (search))
    ∙ sym (ap (fill_at c.ask-rec.result.0.held) c.in-Num.is))
    (c.points_in_rounds.ensures.written l.strict l.root.value c.ask-rec.ensures.asked.rooted)
