use Rattle.std.proofs.Common.{◌-◌, length}
use Rattle.tj_lex.specs.Inner.Spots.{IsSpot}
use Rattle.tj_lex.specs.Shorts.{whole_tokens}
use Rattle.tj_lex.specs.Tokens.{HasTokens}
use Rattle.tj_lex.proofs.shorts.read_shorts.Given as goal

abbrev pub invariant-tokens : goal.invariant-tokens
invariant-tokens l =
    IsSpot l.text l.spot
    × HasTokens l.text 0 (whole_tokens l.text l.found.items) l.spot.next

abbrev pub decreases-tokens : goal.decreases-tokens
decreases-tokens l = length l.text - l.spot.next
