use Rattle.tj_run.proofs.Prelude.{IsAsked, ap, arith, fill_at, program_of, subst, sym, table_asks, table_awaits}
use Rattle.tj_run.proofs.Prelude.{table_left, table_places, table_program, table_then, to_z-of_z, w64, ◌∙◌}
use Rattle.tj_run.proofs.Asks.PureAsks.{end_goes}
use Rattle.tj_record.specs.declared.record.Fill.TheVariants as fill
use Rattle.tj_table_tests.proofs.TestRuns.{may_rest}
use Rattle.tj_table_tests.proofs.step_ends.the_root_ends_by_step_calls.Goals as goal

pub claim_in_steps-claimed-requires-clause-begins : goal.claim_in_steps-claimed-requires-clause-begins
claim_in_steps-claimed-requires-clause-begins g c κs = record {
  free = c.table_of-rig.ensures.free;
  there = (let e = c.table_of-rig.ensures.cells in omega arith);
  rooted = c.table_of-rig.ensures.rooted;
}

pub end_in_steps-requires-clause-closing : goal.end_in_steps-requires-clause-closing
end_in_steps-requires-clause-closing g c κs =
    let p = program_of table_places table_awaits table_left table_asks table_then in
    let l = c.table_of-rig.result.0.laid in let a = c.ask-rec.ensures.asked in let r = c.ask-rec.result.0 in
    (end_goes p l r c.claim_in_steps-claimed.new.seat.me c.ask-rec.ensures.runs
    (c.points_in_rounds.ensures.ask l.strict l.root.value a.rooted) c.in-End.v _
    (ap fill.Num (to_z-of_z w64 c.in-Num.number (search)) ∙ sym (ap (fill_at r.held) c.in-Num.is))
    (subst (IsAsked (table_program p l) c.claim_in_steps-claimed.new.seat.me.0 r) c.in-End.is a)).goes_on

pub rest-requires-clause-may : goal.rest-requires-clause-may
rest-requires-clause-may g c κs = let left = c.end_in_steps.ensures.left in
    may_rest c.table_of-rig.result.0.laid c.end_in_steps.new.seat.me c.live.new.seat.me.0 left.free
    (left.knows.lot ∙ (c.claim_in_steps-claimed.ensures.knows.lot ∙ c.table_of-rig.ensures.lot))
    (c.live.ensures.rested c.if-live-ne0.false)
