use Rattle.tj_base.specs.declared.cell.Sort.TheVariants as sort
use Rattle.tj_words.proofs.table.Laid.count.Given as goal

-- the walker
abbrev pub ghosts-walker_count : goal.ghosts-walker_count
ghosts-walker_count g a = record { task = a.t.0; sort = sort.Promise }
