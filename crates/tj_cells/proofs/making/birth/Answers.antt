use Rattle.tj_cells.proofs.Prelude.{inl, ◌∙◌}
use Rattle.tj_cells.proofs.MakingViews.{in_hand, may_give_task, still_may, still_task, task_made}
use Rattle.tj_cells.proofs.making.birth.Goals as goal

pub put_node-requires-clause-look : goal.put_node-requires-clause-look
put_node-requires-clause-look g c κs within = record {
  table = c.draw_named.ensures.seat.0 ∙ c.requires.table;
  cell = c.requires.cell;
  may = still_may c.requires.may c.in_ok-c.ensures.drawn c.requires.known.0;
  task = still_task c.requires.may c.in_ok-c.ensures.drawn c.requires.known.1;
}

pub put_node-requires-clause-hand : goal.put_node-requires-clause-hand
put_node-requires-clause-hand g c κs within = in_hand c.requires.may c.in_ok-c.ensures.drawn

pub put_owner-requires-clause-may : goal.put_owner-requires-clause-may
put_owner-requires-clause-may g c κs within =
    inl (may_give_task c.requires.may c.in_ok-c.ensures.drawn c.put_node.ensures.node)

pub returns-clause-made : goal.returns-clause-made
returns-clause-made g c =
    task_made c.requires.may c.in_ok-c.ensures.drawn c.put_node.ensures.node
    (c.put_owner.ensures.view.0 (may_give_task c.requires.may c.in_ok-c.ensures.drawn c.put_node.ensures.node))

pub returns-clause-log_made : goal.returns-clause-log_made
returns-clause-log_made g c = (
  c.draw_named.new.seat,
  c.put_node.new.seat,
  c.in_ok-c.ensures.log_drawn,
  c.put_node.ensures.log,
  c.put_owner.ensures.log,
)
