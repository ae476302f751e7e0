-- Numbers of 1 to 10 digits.
use Rattle.std.proofs.Common.{Err, List, None, Ok, Option, Result, Some, ap, arith, true, true≢false}
use Rattle.std.proofs.Common.{ℕ, ◌<◌, ◌^◌, ◌≡◌}
use Rattle.std.proofs.lemmas.Str.Parse.{numerals_by_value, parse_digits, tells_all_ascii_digits}
use Rattle.std.specs.Prelude.{is_some}
use Rattle.std.specs.Result.{result_ok}
use Rattle.std.specs.Str.{all_ascii_digits}
use Rattle.std.specs.Str.Parse.{ParsesUnsigned}
use Rattle.tj_command.specs.Numerals.{IsNumberUpTo, IsShortNumeral}

-- digits that are no number of 32 bits are past each limit
pub too_large : {E : Type 0} (most : ℕ) (digits : List ℕ) (r : Result ℕ E) (answer : Option ℕ)
    → ParsesUnsigned 32 10 digits r → result_ok r ≡ None → most < 2 ^ 32 → IsShortNumeral digits → answer ≡ None
    → IsNumberUpTo most digits answer
too_large most digits r (Some n) parses none small numeral is = absurd (true≢false (ap is_some is))
too_large most digits (Ok n) None parses none small numeral is = absurd (true≢false (ap is_some none))
too_large most digits (Err e) None parses none small numeral is =
    let own = numerals_by_value (λ ds. all_ascii_digits ds ≡ true) tells_all_ascii_digits in
    let refused = parse_digits own 32 digits (Err e) parses numeral.decimal in
    let some = numeral.some in
    λ within. refused (omega arith, omega (arith, within))
