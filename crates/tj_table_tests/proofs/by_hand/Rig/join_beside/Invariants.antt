use Rattle.tj_table_tests.proofs.by_hand.Rig.join_beside.Given as goal

abbrev pub ghosts-joins : goal.ghosts-joins
ghosts-joins g a = record { name = a.blank.name; parts = a.blank.parts }
