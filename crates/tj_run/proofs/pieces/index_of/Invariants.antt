use Rattle.std.proofs.Common.{◌≡◌, ◌++◌, take, drop, length, ◌-◌}
use Rattle.tj_body.specs.NameLaws.{has_cell, without_cell}
use Rattle.tj_words.specs.Words.Lists.{numbers}
use Rattle.tj_run.proofs.pieces.index_of.Given as goal

-- the cell stands only among the cells that are left
abbrev pub invariant-loop-i : goal.invariant-loop-i
invariant-loop-i l =
    (without_cell l.c.0 (numbers l.cells)
    ≡ numbers (take l.i l.cells) ++ without_cell l.c.0 (numbers (drop l.i l.cells)))
    × (has_cell l.c.0 (numbers l.cells) ≡ has_cell l.c.0 (numbers (drop l.i l.cells)))

abbrev pub decreases-loop-i : goal.decreases-loop-i
decreases-loop-i l = length l.cells - l.i
