use Rattle.tj_modes.proofs.Prelude.{AllFit, AreNumbersOf, Some, asked, has_flag, is_flag, list_any, mode_text, rules}
use Rattle.tj_modes.proofs.Prelude.{subst, sym, true, true≢false, ◌∙◌, ◌≡◌}
use Rattle.tj_modes.proofs.Lines.Items.{allowed, flag_allowed, flag_is, mode_is, no_command}
use Rattle.tj_modes.proofs.command.command_in.Goals.{else-strict-via-then-strict+else-not-has_flag}
use Rattle.tj_modes.proofs.command.command_in.Goals.{else-strict-via-else-strict}
use Rattle.tj_modes.proofs.command.command_in.Goals as goal

pub returns-in_err-numbers : goal.returns-in_err-numbers
returns-in_err-numbers c mode items are finds =
    let text : Some c.in_ok-get_str.field-0.now ≡ Some (mode_text mode) = search rules in
    let same = mode_is c.in_ok-mode.mode mode c.in_ok-get_str.field-0.now c.in_ok-mode.ensures text in
    no_command mode items c.numbers_in.result c.from_residual-in_err-numbers.result
    (subst (λ m. AreNumbersOf m items c.numbers_in.result) same (c.numbers_in.ensures items are finds.digits_found))
    (search rules) c.from_residual-in_err-numbers.ensures

pub returns-then-not-has_flag : goal.returns-then-not-has_flag
returns-then-not-has_flag c mode items are finds all =
    let text : Some c.in_ok-get_str.field-0.now ≡ Some (mode_text mode) = search rules in
    let same = mode_is c.in_ok-mode.mode mode c.in_ok-get_str.field-0.now c.in_ok-mode.ensures text in
    let flag = flag_is (list_any is_flag items) c.get_flag-strict.result _ finds.flag_found
    c.get_flag-strict.ensures.value c.get_flag-strict.ensures.other in
    let has : has_flag mode ≡ true = flag_allowed mode items all (sym flag ∙ c.if-strict.true) in
    let found : has_flag c.in_ok-mode.mode ≡ true = subst (λ m. has_flag m ≡ true) (sym same) has in
    true≢false (sym found ∙ sym c.has_flag.ensures ∙ c.if-not-has_flag.true)

pub returns : goal.returns
returns c mode items are finds =
    let text : Some c.in_ok-get_str.field-0.now ≡ Some (mode_text mode) = search rules in
    let same = mode_is c.in_ok-mode.mode mode c.in_ok-get_str.field-0.now c.in_ok-mode.ensures text in
    let flag = flag_is (list_any is_flag items) c.get_flag-strict.result _ finds.flag_found
    c.get_flag-strict.ensures.value c.get_flag-strict.ensures.other in
    let numbers = c.in_ok-numbers.ensures items are finds.digits_found in
    let fit : AllFit mode items = subst (λ m. AllFit m items) same numbers.0 in
    let has : list_any is_flag items ≡ true → has_flag c.in_ok-mode.mode ≡ true = λ e. elim c.else-strict.branch [
      | else-strict-via-then-strict+else-not-has_flag w ↦ sym w.has_flag.ensures ∙ w.if-not-has_flag.false
      | else-strict-via-else-strict w ↦ absurd (true≢false (sym e ∙ sym flag ∙ w.if-strict.false))
    ] in (
      allowed mode items are.once are.numerals fit (λ e. subst (λ m. has_flag m ≡ true) same (has e)),
      subst (λ m. c.command_for.result ≡ asked m items) same (c.command_for.ensures items numbers.1 flag),
    )
