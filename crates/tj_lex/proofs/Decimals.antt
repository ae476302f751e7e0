-- The value of digits grows with each digit.
use Rattle.std.proofs.Common.{◌≡◌, ℕ, ◌+◌, ◌-◌, ◌*◌, ◌<◌, ◌≤◌, ◌∙◌, ap, sym, arith, List, [], ◌∷◌, length, take, drop, get_or}
use Rattle.std.specs.List.{fold}
use Rattle.std.proofs.lemmas.List.{take-append-drop}
use Rattle.std.proofs.lemmas.List.Sums.{fold-append, fold_more}
use Rattle.tj_lex.specs.Spelling.{decimal}

abbrev with_digit : ℕ → ℕ → ℕ
with_digit value digit = 10 * value + (digit - 48)

fold-le : (start : ℕ) (digits : List ℕ) → start ≤ fold with_digit start digits
fold-le start [] = omega arith
fold-le start (digit ∷ digits) = omega (arith, fold-le (with_digit start digit) digits)

-- one digit more
pub decimal-more : (digits : List ℕ) (i : ℕ) → i < length digits
    → decimal (take (i + 1) digits) ≡ 10 * decimal (take i digits) + (get_or digits i 0 - 48)
decimal-more digits i h = fold_more with_digit 0 digits i 0 h

-- a front of the digits is no greater
pub decimal-take : (digits : List ℕ) (i : ℕ) → decimal (take i digits) ≤ decimal digits
decimal-take digits i =
    let whole =
    ap decimal (sym (take-append-drop i digits)) ∙ fold-append with_digit 0 (take i digits) (drop i digits) in
    omega (arith, whole, fold-le (decimal (take i digits)) (drop i digits))
