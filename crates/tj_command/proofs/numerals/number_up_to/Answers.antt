use Rattle.std.proofs.Common.{None, arith, rules, ◌<◌, ◌^◌, ◌≡◌}
use Rattle.std.specs.Result.{result_ok}
use Rattle.tj_command.proofs.ShortNumerals.{too_large}
use Rattle.tj_command.proofs.numerals.number_up_to.Goals as goal

pub returns-in_err-number : goal.returns-in_err-number
returns-in_err-number c numeral =
    let none : result_ok c.parse.result ≡ None = search rules in
    let small : c.args.most < 2 ^ 32 = search (rules, arith) in
    too_large c.args.most c.args.digits.now c.parse.result c.from_residual.result c.parse.ensures.value.0 none small
    numeral c.from_residual.ensures
