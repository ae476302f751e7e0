use Rattle.tj_table_tests.proofs.StepEnds.{few_cell}
use Rattle.tj_table_tests.proofs.by_hand.Rig.ends_alone.Goals as goal

pub returns-clause-ends : goal.returns-clause-ends
returns-clause-ends g c = record {
  runs = c.requires.runs;
  closing = c.requires.closing;
  alone = c.requires.alone;
  written_by = c.points_in_rounds.ensures.written;
  ordered = c.names_and_cells.ensures.elements;
}

pub returns-clause-cell : goal.returns-clause-cell
returns-clause-cell g c = few_cell (returns-clause-ends g c)
