use Rattle.tj_base.specs.declared.cell.Sort.TheVariants as sort
use Rattle.tj_words.proofs.table.Laid.others_up.Given as goal

-- the task
abbrev pub ghosts-add_other : goal.ghosts-add_other
ghosts-add_other g a = record { task = a.t.0; sort = sort.Promise }
