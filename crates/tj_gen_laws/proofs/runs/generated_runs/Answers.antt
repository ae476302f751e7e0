use Rattle.std.proofs.Common.{arith, refl}
use Rattle.std.proofs.Crossing.{crosses}
use Rattle.tj_eval.specs.Inner.Laws.{fresh-main}
use Rattle.tj_gen_laws.proofs.Meant.{root}
use Rattle.tj_gen_laws.proofs.TextRuns.{AreKnown, main_stops_short, main_stops_well, runs_are_clean, takes_cells}
use Rattle.tj_modes.specs.Generated.{generated_script, main_task}
use Rattle.tj_syntax.proofs.Sends.{expr_sync, script_sync, stmt_sync}
use Rattle.tj_gen_laws.proofs.runs.generated_runs.Goals as goal
use denote.Param.Send.{sendable}

known : goal.After-point_counts_made → AreKnown
known c = record {
  script = c.one_script_or_fault.ensures;
  generated = c.generated_text_is_a_script.ensures;
  rounds = λ size limit strict small few.
      let body = root size limit in
      let fresh = fresh-main (generated_script size) limit (main_task size) refl (omega arith) in
      let points = c.points_in_rounds.ensures in
      record {
        stays = points.later strict body fresh;
        start = points.start strict body fresh;
        ask = points.ask strict body fresh;
        read = points.read strict body fresh;
        written = points.written strict body fresh;
        things = points.things strict body fresh;
        made = points.made strict body fresh;
        rest = c.rest_is_meaning.ensures strict body fresh;
        full = c.full_exactly.ensures strict body fresh;
        grows = c.rounds_grow.ensures strict body fresh;
        counts = c.point_counts_made.ensures strict body fresh;
      };
}

pub returns-clause-cells : goal.returns-clause-cells
returns-clause-cells c = takes_cells (known c)

pub returns-clause-ends : goal.returns-clause-ends
returns-clause-ends c = main_stops_well (known c)

pub returns-clause-clean : goal.returns-clause-clean
returns-clause-clean c = runs_are_clean (known c)

pub returns-clause-fails : goal.returns-clause-fails
returns-clause-fails c = main_stops_short (known c)

-- a body of a script may cross threads
pub points_in_rounds-requires-send-B : goal.points_in_rounds-requires-send-B
points_in_rounds-requires-send-B c κs = search (sendable, crosses, expr_sync, stmt_sync, script_sync) depth 40

pub rest_is_meaning-requires-send-B : goal.rest_is_meaning-requires-send-B
rest_is_meaning-requires-send-B c κs = search (sendable, crosses, expr_sync, stmt_sync, script_sync) depth 40

pub full_exactly-requires-send-B : goal.full_exactly-requires-send-B
full_exactly-requires-send-B c κs = search (sendable, crosses, expr_sync, stmt_sync, script_sync) depth 40

pub rounds_grow-requires-send-B : goal.rounds_grow-requires-send-B
rounds_grow-requires-send-B c κs = search (sendable, crosses, expr_sync, stmt_sync, script_sync) depth 40

pub point_counts_made-requires-send-B : goal.point_counts_made-requires-send-B
point_counts_made-requires-send-B c κs = search (sendable, crosses, expr_sync, stmt_sync, script_sync) depth 40
