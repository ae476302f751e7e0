use Rattle.tj_run.proofs.waits.block_at.Given as goal

abbrev pub ghosts-way_to : goal.ghosts-way_to
ghosts-way_to g a = record { name = a.blank.name; parts = a.blank.parts }
