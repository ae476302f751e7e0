use Rattle.std.proofs.Common.{◌≡◌, ◌≤◌, take}
use Rattle.tj_lex.specs.Spelling.{decimal}
use Rattle.tj_lex.specs.Tokens.{greatest_number}
use Rattle.tj_lex.proofs.number.number.Given as goal

abbrev pub invariant-loop-digit : goal.invariant-loop-digit
invariant-loop-digit l = (l.value ≡ decimal (take l.digit-index l.digits)) × (l.value ≤ greatest_number)
