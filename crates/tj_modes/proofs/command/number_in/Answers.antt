use Rattle.tj_modes.proofs.Prelude.{IfSome, IsNumberOf, IsShortNumeral, Some, greatest, rules, subst, ◌≡◌}
use Rattle.tj_modes.proofs.Lines.Items.{number_of}
use Rattle.tj_modes.proofs.command.number_in.Goals as goal

pub returns : goal.returns
returns c digits is numeral =
    let mode = c.args.mode in
    let name = c.args.name in
    let most = c.in_ok-most.most in
    let here : Some c.in-Some.digits.now ≡ digits = search rules in
    let limit : greatest mode name ≡ Some most = search rules in
    subst (λ o. IfSome o IsShortNumeral → IsNumberOf mode name o c.number_up_to.result) here
    (λ n. number_of mode name most c.in-Some.digits.now c.number_up_to.result limit (c.number_up_to.ensures n)) numeral
