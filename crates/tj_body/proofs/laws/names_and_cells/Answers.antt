use Rattle.tj_body.proofs.NameLaws.{same_is_equal, ordered_is_one, ordered_has_same, ordered_is_same}
use Rattle.tj_body.proofs.NameLaws.{names_tell_cells}
use Rattle.tj_body.proofs.laws.names_and_cells.Goals as goal

pub returns : goal.returns
returns c = record {
  same = same_is_equal;
  ordered = ordered_is_one;
  elements = ordered_has_same;
  permuted = ordered_is_same;
  cells = names_tell_cells;
}
