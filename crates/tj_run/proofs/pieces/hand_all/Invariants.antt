use Rattle.std.proofs.Common.{◌≡◌, drop, map}
use Rattle.tj_body.specs.NameLaws.{hand_cells}
use Rattle.tj_words.specs.Words.Lists.{numbers}
use Rattle.tj_run.specs.Inner.Pieces.{numbered}
use Rattle.tj_run.proofs.pieces.hand_all.Given as goal

-- what is left of the rest decides
abbrev pub invariant-loop-h : goal.invariant-loop-h
invariant-loop-h l = hand_cells (numbers l.owned) (map numbered l.handed)
    ≡ hand_cells (numbers l.left.items) (map numbered (drop l.h-index l.handed))
