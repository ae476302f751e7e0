use Rattle.tj_base.specs.declared.cell.Sort.TheVariants as sort
use Rattle.tj_words.proofs.table.Laid.others.Given as goal

-- the walker
abbrev pub ghosts-walker_others : goal.ghosts-walker_others
ghosts-walker_others g a = record { task = a.t.0; sort = sort.Promise }
