use Rattle.tj_words.proofs.Prelude.{arith, slots_items}
use Rattle.tj_words.proofs.Meaning.EndedRuns.{ends_run}
use Rattle.tj_words.proofs.Meaning.Rested.{final_words}
use Rattle.tj_words.proofs.table.Laid.leave.Goals as goal

pub returns : goal.returns
returns g c = let a = c.args.self in let shown = c.show_cells-shown.ensures in let all = shown.all in record {
  drawn = omega arith;
  run = (
    slots_items c.close_with-table.result.slots,
    ends_run _ a.table.shared.key c.args.seat c.close_with-table.ensures.run a.key_cells a.key_strict a.key_root
        shown,
  );
}

pub show_cells-shown-requires-clause-words : goal.show_cells-shown-requires-clause-words
show_cells-shown-requires-clause-words g c κs within =
    final_words (slots_items c.close_with-table.result.slots) c.close_with-table.ensures.values.2 c.args.self.key_cells
