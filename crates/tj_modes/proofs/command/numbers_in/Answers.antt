use Rattle.tj_modes.proofs.Prelude.{Cells, Size, Steps, Workers, rules}
use Rattle.tj_modes.proofs.Lines.Items.{all_numbers, no_numbers, numeral_of}
use Rattle.tj_modes.proofs.command.numbers_in.Goals as goal

pub returns-in_err-number_in : goal.returns-in_err-number_in
returns-in_err-number_in c items are finds =
    no_numbers c.args.mode Workers items c.number_in.result c.from_residual.result
    (c.number_in.ensures _ (finds Workers) (numeral_of Workers items are.numerals)) (search rules) (search rules)

pub returns-in_err-number_in-2 : goal.returns-in_err-number_in-2
returns-in_err-number_in-2 c items are finds =
    no_numbers c.args.mode Cells items c.number_in-2.result c.from_residual-in_err-number_in-2.result
    (c.number_in-2.ensures _ (finds Cells) (numeral_of Cells items are.numerals)) (search rules) (search rules)

pub returns-in_err-number_in-3 : goal.returns-in_err-number_in-3
returns-in_err-number_in-3 c items are finds =
    no_numbers c.args.mode Steps items c.number_in-3.result c.from_residual-in_err-number_in-3.result
    (c.number_in-3.ensures _ (finds Steps) (numeral_of Steps items are.numerals)) (search rules) (search rules)

pub returns-in_err-number_in-4 : goal.returns-in_err-number_in-4
returns-in_err-number_in-4 c items are finds =
    no_numbers c.args.mode Size items c.number_in-4.result c.from_residual-in_err-number_in-4.result
    (c.number_in-4.ensures _ (finds Size) (numeral_of Size items are.numerals)) (search rules) (search rules)

pub returns : goal.returns
returns c items are finds =
    all_numbers c.args.mode items _
    (c.in_ok-number_in.ensures _ (finds Workers) (numeral_of Workers items are.numerals))
    (c.in_ok-number_in-2.ensures _ (finds Cells) (numeral_of Cells items are.numerals))
    (c.in_ok-number_in-3.ensures _ (finds Steps) (numeral_of Steps items are.numerals))
    (c.in_ok-number_in-4.ensures _ (finds Size) (numeral_of Size items are.numerals))
