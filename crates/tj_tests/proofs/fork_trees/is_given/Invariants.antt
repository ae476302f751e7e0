use Rattle.tj_tests.proofs.fork_trees.is_given.Given as goal

abbrev pub ghosts-answered : goal.ghosts-answered
ghosts-answered a = record { name = a.steps.name; parts = a.steps.parts }

abbrev pub ghosts-counted-C-Ledger : goal.ghosts-counted-C-Ledger
ghosts-counted-C-Ledger a = record { name = a.looks.name; parts = a.looks.parts }

abbrev pub ghosts-counted-D-Ledger : goal.ghosts-counted-D-Ledger
ghosts-counted-D-Ledger a = record { name = a.steps.name; parts = a.steps.parts }
