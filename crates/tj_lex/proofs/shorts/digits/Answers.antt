use Rattle.tj_lex.proofs.Stretches.{AllPass-prefix}
use Rattle.std.specs.Char.{is_ascii_digit}
use Rattle.tj_lex.proofs.shorts.digits.Goals as goal

pub number-requires : goal.number-requires
number-requires c = rw c.digits_len-len.ensures.len (AllPass-prefix is_ascii_digit c.args.text.now)
