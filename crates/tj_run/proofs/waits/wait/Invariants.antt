use Rattle.tj_run.proofs.waits.wait.Given as goal

abbrev pub ghosts-block_at : goal.ghosts-block_at
ghosts-block_at g a = record { name = a.blank.name; parts = a.blank.parts }
