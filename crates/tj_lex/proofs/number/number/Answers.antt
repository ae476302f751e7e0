use Rattle.std.proofs.Common.{◌+◌, arith}
use Rattle.tj_lex.proofs.Decimals.{decimal-more, decimal-take}
use Rattle.tj_lex.proofs.number.number.Goals as goal

pub returns-in_err-value-clause-too_great : goal.returns-in_err-value-clause-too_great
returns-in_err-value-clause-too_great c =
    let digits = c.args.digits.now in
    let i = c.loop-digit.digit-index in
    let more = decimal-more digits i (omega arith) in
    rw c.from_residual.ensures
    (omega (arith, c.in_err-value.ensures.too_great, c.loop-digit.invariant.0, more, decimal-take digits (i + 1)))
