use Rattle.tj_words.proofs.table.Laid.draw_one.Given as goal

-- the task and the sort
abbrev pub ghosts-add_count : goal.ghosts-add_count
ghosts-add_count g a = record { task = a.t.0; sort = a.sort }
