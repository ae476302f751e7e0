use Rattle.std.proofs.Common.{[], ap, arith, length, List, refl, rules, sym, tests, ℕ, ◌&&◌, ◌∙◌, ◌∷◌, ◌≡◌, ◌≤◌}
use Rattle.std.specs.Char.{is_ascii_digit}
use Rattle.std.specs.List.{list_all}
use Rattle.std.specs.Str.{all_ascii_digits}
use Rattle.std.proofs.lemmas.Iterator.{YieldsList-from_slice}
use Rattle.std.proofs.lemmas.Iterator.Search.{all_from_yields_List}
use Rattle.tj_command.proofs.numerals.is_short_numeral.Goals as goal

all_digits : (ds : List ℕ) → list_all is_ascii_digit ds ≡ all_ascii_digits ds
all_digits [] = refl
all_digits (d ∷ ds) = ap (λ b. is_ascii_digit d && b) (all_digits ds)

pub returns-then-bytes-le-MOST_DIGITS : goal.returns-then-bytes-le-MOST_DIGITS
returns-then-bytes-le-MOST_DIGITS c =
    let all : c.all.result ≡ list_all is_ascii_digit c.args.bytes.now =
    all_from_yields_List is_ascii_digit _ _ c.all.result c.all.ensures.ran (YieldsList-from_slice c.args.bytes.now cc)
    (λ x b q k. search (rules, tests)) in
    let some : 1 ≤ length c.args.bytes.now = search (rules, arith) in
    let few : length c.args.bytes.now ≤ 10 = search (rules, tests) in (
      λ e. record { some = some; few = few; decimal = sym (all ∙ all_digits c.args.bytes.now) ∙ e },
      λ n. all
          ∙ all_digits c.args.bytes.now ∙ n.decimal,
    )
