use Rattle.tj_base.specs.declared.cell.Sort.TheVariants as sort
use Rattle.tj_words.proofs.table.Laid.see_owner.Given as goal

-- the walker
abbrev pub ghosts-walker_owner : goal.ghosts-walker_owner
ghosts-walker_owner g a = record { task = a.t.0; sort = sort.Promise }
