use Rattle.tj_base.specs.declared.cell.Sort.TheVariants as sort
use Rattle.tj_words.proofs.table.Laid.see_phase.Given as goal

-- the walker
abbrev pub ghosts-walker_wait : goal.ghosts-walker_wait
ghosts-walker_wait g a = record { task = a.t.0; sort = sort.Promise }
