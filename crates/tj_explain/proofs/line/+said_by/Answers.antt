use Rattle.std.proofs.Common.{None, Some, rules, ◌≡◌}
use Rattle.tj_explain.specs.declared.line_word.LineWord.TheVariants.{Numbered, Alone}
use Rattle.tj_explain.proofs.Readings.{behind_first, first_and_behind, read_flag, read_no_digits, read_no_flag}
use Rattle.tj_explain.proofs.Readings.{read_no_number, read_no_option, read_number}
use Rattle.tj_explain.proofs.line.+said_by.Goals as goal

pub returns-in_err-name : goal.returns-in_err-name
returns-in_err-name t c =
    let words = c.args.words.now in
    let found : c.of.result ≡ None = search rules in
    read_no_option c.args.said words (behind_first words) c.word-item.result c.as_str.result.now c.of.result
    c.from_residual.result (first_and_behind words c.word-item.result c.in-len1-up.len_at_least c.word-item.is)
    c.as_str.ensures.value c.of.ensures found c.from_residual.ensures

pub returns-in_default-behind : goal.returns-in_default-behind
returns-in_default-behind t c =
    let words = c.args.words.now in
    let found : c.of.result ≡ Some (Numbered c.in-Numbered.name) = search rules in
    read_no_digits c.args.said words (behind_first words) c.word-item.result c.as_str.result.now c.in-Numbered.name
    c.of.result (first_and_behind words c.word-item.result c.in-len1-up.len_at_least c.word-item.is)
    c.in_default-behind.len_below c.as_str.ensures.value c.of.ensures found

pub returns-in_err-with_number-in-Numbered : goal.returns-in_err-with_number-in-Numbered
returns-in_err-with_number-in-Numbered t c =
    let words = c.args.words.now in
    let found : c.of.result ≡ Some (Numbered c.in-Numbered.name) = search rules in
    let none : c.with_number.result ≡ None = search rules in
    read_no_number c.args.said words (behind_first words) (behind_first (behind_first words)) c.word-item.result
    c.digits-item.result c.as_str.result.now c.as_str-in-Numbered.result.now c.in-Numbered.name c.of.result
    c.with_number.result c.from_residual-in_err-with_number-in-Numbered.result
    (first_and_behind words c.word-item.result c.in-len1-up.len_at_least c.word-item.is)
    (first_and_behind (behind_first words) c.digits-item.result c.in-len1-up-behind.len_at_least c.digits-item.is)
    c.as_str.ensures.value c.as_str-in-Numbered.ensures.value c.of.ensures found c.with_number.ensures none
    c.from_residual-in_err-with_number-in-Numbered.ensures

pub returns-in_err-with_flag-in-Alone : goal.returns-in_err-with_flag-in-Alone
returns-in_err-with_flag-in-Alone t c =
    let words = c.args.words.now in
    let found : c.of.result ≡ Some (Alone c.in-Alone.flag) = search rules in
    let none : c.with_flag.result ≡ None = search rules in
    read_no_flag c.args.said words (behind_first words) c.word-item.result c.as_str.result.now c.in-Alone.flag
    c.of.result c.with_flag.result c.from_residual-in_err-with_flag-in-Alone.result
    (first_and_behind words c.word-item.result c.in-len1-up.len_at_least c.word-item.is) c.as_str.ensures.value
    c.of.ensures found c.with_flag.ensures none c.from_residual-in_err-with_flag-in-Alone.ensures

pub returns-in_ok-with_number-in-Numbered : goal.returns-in_ok-with_number-in-Numbered
returns-in_ok-with_number-in-Numbered t c =
    let words = c.args.words.now in
    let found : c.of.result ≡ Some (Numbered c.in-Numbered.name) = search rules in
    let some : c.with_number.result ≡ Some c.in_ok-with_number-in-Numbered.field-0 = search rules in
    read_number c.args.said c.in_ok-with_number-in-Numbered.field-0 words (behind_first words)
    (behind_first (behind_first words)) c.word-item.result c.digits-item.result c.as_str.result.now
    c.as_str-in-Numbered.result.now c.in-Numbered.name c.of.result c.with_number.result c.said_by.result
    (first_and_behind words c.word-item.result c.in-len1-up.len_at_least c.word-item.is)
    (first_and_behind (behind_first words) c.digits-item.result c.in-len1-up-behind.len_at_least c.digits-item.is)
    c.as_str.ensures.value c.as_str-in-Numbered.ensures.value c.of.ensures found c.with_number.ensures some
    c.said_by.ensures

pub returns-in_ok-with_flag-in-Alone : goal.returns-in_ok-with_flag-in-Alone
returns-in_ok-with_flag-in-Alone t c =
    let words = c.args.words.now in
    let found : c.of.result ≡ Some (Alone c.in-Alone.flag) = search rules in
    let some : c.with_flag.result ≡ Some c.in_ok-with_flag-in-Alone.field-0 = search rules in
    read_flag c.args.said c.in_ok-with_flag-in-Alone.field-0 words (behind_first words) c.word-item.result
    c.as_str.result.now c.in-Alone.flag c.of.result c.with_flag.result c.said_by-in-Alone.result
    (first_and_behind words c.word-item.result c.in-len1-up.len_at_least c.word-item.is) c.as_str.ensures.value
    c.of.ensures found c.with_flag.ensures some c.said_by-in-Alone.ensures
