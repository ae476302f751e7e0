use Rattle.tj_table_tests.proofs.by_hand.Rig.set_between.Given as goal

abbrev pub ghosts-block_at : goal.ghosts-block_at
ghosts-block_at g a = record { name = a.blank.name; parts = a.blank.parts }
