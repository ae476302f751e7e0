use Rattle.tj_run.proofs.Prelude.{CellId, IsAsked, ap, program_of, subst, sym, table_program, way_by, ◌∙◌}
use Rattle.tj_table_tests.proofs.JoinedTasks.{IsToJoin, inside_joined, joined_cell, joined_known, joins_along}
use Rattle.tj_table_tests.proofs.JoinedTasks.{joins_cell, joins_known}
use Rattle.tj_table_tests.proofs.by_hand.Rig.joins.Given.{Over}
use Rattle.tj_table_tests.proofs.by_hand.Rig.joins.Goals as goal
use Rattle.tj_table_tests.proofs.by_hand.Rig.joins.Goals.{In-Join}

-- the task has asked to join the task at the place
to_join : (g : Over) (c : In-Join g)
    → let b = g.B.Body in
    IsToJoin (program_of b.places b.awaits b.left b.asks b.then) c.args.self.now.laid c.ask-rec.result.0 c.in-Join.t
    c.args.seat.now.me
to_join g c = let b = g.B.Body in let l = c.args.self.now.laid in record {
  runs = c.ask-rec.ensures.runs;
  asked = subst (IsAsked (table_program (program_of b.places b.awaits b.left b.asks b.then) l) c.args.seat.now.me.0
      c.ask-rec.result.0) c.in-Join.is c.ask-rec.ensures.asked;
  law = c.points_in_rounds.ensures.ask l.strict l.root.value c.ask-rec.ensures.asked.rooted;
}

pub at-h-requires : goal.at-h-requires
at-h-requires g c = inside_joined (to_join g (goal.at.at-h-requires g c).In-Join)

pub way_of-requires-clause-t_cell : goal.way_of-requires-clause-t_cell
way_of-requires-clause-t_cell g c κs within =
    rw c.cell.ensures (joins_cell (to_join g (goal.at.way_of-requires-clause-t_cell g c).In-Join))

pub way_of-requires-clause-u_cell : goal.way_of-requires-clause-u_cell
way_of-requires-clause-u_cell g c κs within =
    joined_cell (to_join g (goal.at.way_of-requires-clause-u_cell g c).In-Join) c.at-h.result c.at-h.ensures

pub way_of-requires-clause-t_known : goal.way_of-requires-clause-t_known
way_of-requires-clause-t_known g c κs within =
    rw c.cell.ensures (joins_known (to_join g (goal.at.way_of-requires-clause-t_known g c).In-Join))

pub way_of-requires-clause-u_known : goal.way_of-requires-clause-u_known
way_of-requires-clause-u_known g c κs within =
    joined_known (to_join g (goal.at.way_of-requires-clause-u_known g c).In-Join) c.at-h.result c.at-h.ensures
    c.in-Task.is

pub block-requires-clause-task : goal.block-requires-clause-task
block-requires-clause-task g c κs within =
    rw c.cell-2.ensures (joins_cell (to_join g (goal.at.block-requires-clause-task g c).In-Join))

pub block-requires-clause-cell : goal.block-requires-clause-cell
block-requires-clause-cell g c κs within =
    joined_cell (to_join g (goal.at.block-requires-clause-cell g c).In-Join) c.at-h.result c.at-h.ensures

pub block-requires-clause-may : goal.block-requires-clause-may
block-requires-clause-may g c κs within = rw c.cell-2.ensures
    (joins_along (to_join g (goal.at.block-requires-clause-may g c).In-Join) c.at-h.result c.at-h.ensures c.in-Task.is
    c.way_of.new.seat.me c.way_of.ensures.view c.way_of.ensures.seat.2 (sym c.in-Along.is ∙ (c.way_of.ensures.way
    ∙ ap (λ (z : CellId). way_by c.way_of.new.seat.me.0.born z.0 c.at-h.result.cell.0) c.cell.ensures)))
