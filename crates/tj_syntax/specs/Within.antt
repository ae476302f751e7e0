-- The statements of a task, and of each part of it, in the order of the text. This order numbers them.
use Rattle.std.specs.Prelude.{List, [], ◌∷◌, ◌++◌}
use Rattle.tj_syntax.specs.Trees as tree
use Rattle.tj_syntax.specs.Trees.{Statement, Statements, Otherwise}

abbrev mutual
  -- the statement and those within it, in the order of the text
  pub inside : Statement → List Statement
  inside (tree.let_new x side) = tree.let_new x side ∷ []
  inside (tree.assign x side) = tree.assign x side ∷ []
  inside (tree.ask q) = tree.ask q ∷ []
  inside (tree.print e) = tree.print e ∷ []
  inside (tree.set_cell x e) = tree.set_cell x e ∷ []
  inside (tree.return e) = tree.return e ∷ []
  inside (tree.choose e body other) = tree.choose e body other ∷ (within body ++ within_other other)
  inside (tree.repeat e body) = tree.repeat e body ∷ within body

  -- the statements of a block and those within them; number n is the one behind n others
  pub within : Statements → List Statement
  within tree.no_more = []
  within (tree.then_do s more) = inside s ++ within more

  -- the same of the block for a condition that is 0
  pub within_other : Otherwise → List Statement
  within_other tree.nothing = []
  within_other (tree.block body) = within body
