-- How many statements stand within each statement of a script.
use Rattle.std.specs.Prelude.{List, [], map, length}
use Rattle.tj_syntax.specs.Trees as tree
use Rattle.tj_syntax.specs.Trees.{Statement, Task}
use Rattle.tj_eval.specs.declared.sizes.Size.{Size}
use Rattle.tj_eval.specs.Stands.{inside, within}

-- the statements within the first block of a statement
abbrev pub within_first : Statement → List Statement
within_first (tree.let_new x side) = []
within_first (tree.assign x side) = []
within_first (tree.ask q) = []
within_first (tree.print e) = []
within_first (tree.set_cell x e) = []
within_first (tree.return e) = []
within_first (tree.choose e body other) = within body
within_first (tree.repeat e body) = within body

-- how many a statement is with those within it, and how many of them stand in its first block
abbrev pub size_of : Statement → Size
size_of s = record { whole = length (inside s); first = length (within_first s) }

-- the sizes of a declaration's statements, by their numbers
abbrev pub task_sizes : Task → List Size
task_sizes d = map size_of (within d.body)

-- the same of each declaration
abbrev pub sizes_of : List Task → List (List Size)
sizes_of script = map task_sizes script
