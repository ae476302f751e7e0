-- The lines of a task's joins, from its acts and from marks that tell which of them are known joins.
use Rattle.std.specs.Prelude.{Bool, List, [], ◌∷◌, ◌++◌}
use Rattle.tj_base.specs.ForkOrder.{Name}
use Rattle.tj_mean.specs.declared.act.Act.{Act}
use Rattle.tj_mean.specs.declared.act.Act.TheVariants as act
use Rattle.tj_known.specs.KnownLines.{how_of}
use Rattle.tj_known.specs.declared.known.KnownLine.{KnownLine}

-- a line for an act that is a join
abbrev pub marked_line : Name → Act → Bool → List KnownLine
marked_line t (act.Fork c) mark = []
marked_line t (act.Join u answered) mark = record { by = t; of = u; how = how_of mark t u } ∷ []

-- a line for each of the acts that is a join
abbrev pub marked_lines : Name → List Act → List Bool → List KnownLine
marked_lines t [] marks = []
marked_lines t (a ∷ rest) [] = []
marked_lines t (a ∷ rest) (mark ∷ marks) = marked_line t a mark ++ marked_lines t rest marks
