use Rattle.std.proofs.Common.{◌≡◌, take, drop}
use Rattle.tj_lex.specs.Inner.Shorts.{AreInOrder}
use Rattle.tj_lex.specs.Inner.Spots.{IsSpot}
use Rattle.tj_lex.specs.Shorts.{whole_tokens}
use Rattle.tj_lex.proofs.whole.placed.Given as goal

abbrev pub invariant-loop-short : goal.invariant-loop-short
invariant-loop-short l =
    IsSpot l.text l.spot × AreInOrder l.spot.next (drop l.short-index l.shorts)
    × (l.found.items ≡ whole_tokens l.text (take l.short-index l.shorts))
