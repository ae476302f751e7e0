use Rattle.tj_modes.proofs.Prelude.{AreMatchesOf, MatchOption, subst, sym, true≢false, ◌∙◌}
use Rattle.tj_modes.specs.Inner.LineWords.{HasNoReading}
use Rattle.tj_modes.proofs.Lines.Items.{answer_of, no_form, pass_before}
use Rattle.tj_modes.proofs.command.command_of.Goals as goal

pub returns-then-not-are_line_words : goal.returns-then-not-are_line_words
returns-then-not-are_line_words c = no_form c.args.words.now
    (λ mode items reading. true≢false
    (sym (c.are_line_words.ensures.1 (pass_before c.args.words.now mode items reading))
    ∙ c.if-not-are_line_words.true))

pub returns-in-Some : goal.returns-in-Some
returns-in-Some c =
    let words = c.args.words.now in
    let found = subst (λ o. MatchOption o (HasNoReading words)
    (AreMatchesOf words)) c.in-Some.is c.in_ok-matches.ensures in
    answer_of words found.0 found.1 c.command_in.result found.2
    (c.command_in.ensures found.0 found.1 found.2.are_items found.3)

pub returns-in-None : goal.returns-in-None
returns-in-None c =
    let words = c.args.words.now in
    no_form words (subst (λ o. MatchOption o (HasNoReading words)
    (AreMatchesOf words)) c.in-None.is c.in_ok-matches.ensures)
