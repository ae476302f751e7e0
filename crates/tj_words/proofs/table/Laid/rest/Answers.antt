use Rattle.tj_words.proofs.Prelude.{arith, refl, slots_items}
use Rattle.tj_words.proofs.Meaning.EndedRuns.{rest_ends_run}
use Rattle.tj_words.proofs.Meaning.MeantCycles.{meant_cycles_alarmed}
use Rattle.tj_words.proofs.Meaning.Rested.{final_words, rested}
use Rattle.tj_words.proofs.table.Laid.rest.Goals as goal

pub invariant_of-result-3 : goal.invariant_of-result-3
invariant_of-result-3 g c = let a = c.args.self in let shown = c.show_cells-shown.ensures in let all = shown.all in (
  (rested c.close_with-table.ensures.values.2 c.requires.may a.key_cells a.key_strict a.key_root shown
      c.cycles_are_watched.ensures c.alarms_are_on_cycles.ensures c.rest_is_meaning.ensures
      c.meaning_is_last.ensures).are_slots,
  omega arith,
  (rested c.close_with-table.ensures.values.2 c.requires.may a.key_cells a.key_strict a.key_root shown
      c.cycles_are_watched.ensures c.alarms_are_on_cycles.ensures c.rest_is_meaning.ensures
      c.meaning_is_last.ensures).closed,
)

pub returns : goal.returns
returns g c = let a = c.args.self in let shown = c.show_cells-shown.ensures in let all = shown.all in
    let r = rested c.close_with-table.ensures.values.2 c.requires.may a.key_cells a.key_strict a.key_root shown
    c.cycles_are_watched.ensures c.alarms_are_on_cycles.ensures c.rest_is_meaning.ensures
    c.meaning_is_last.ensures in record {
      limit = refl;
      root = refl;
      strict = refl;
      drawn = omega arith;
      rest = r.rest;
      meaning = r.meant;
      cycles = r.cycles;
      alarms = r.alarms;
      meant_cycles = meant_cycles_alarmed _ _ _ r.cycles;
      values = r.values;
      run = rest_ends_run _ a.table.shared.key c.args.seat _ c.close_with-table.ensures.run a.key_cells a.key_strict
          a.key_root shown;
    }

pub show_cells-shown-requires-clause-words : goal.show_cells-shown-requires-clause-words
show_cells-shown-requires-clause-words g c κs within =
    final_words (slots_items c.close_with-table.result.slots) c.close_with-table.ensures.values.2 c.args.self.key_cells
