use Rattle.tj_tree.proofs.tree.ForkTree.before.Given as goal

abbrev pub ghosts-before_of-F-Forked : goal.ghosts-before_of-F-Forked
ghosts-before_of-F-Forked g a = record { forks = a.tree.now }

abbrev pub ghosts-before_of-C-Ledger : goal.ghosts-before_of-C-Ledger
ghosts-before_of-C-Ledger g a = record { name = a.blank.name; parts = a.blank.parts }
