use Rattle.std.proofs.Common.{inr, length, ap, subst, sym, ◌∙◌}
use Rattle.tj_lex.specs.Shorts.{whole_tokens}
use Rattle.tj_lex.specs.Tokens.{AreTokens}
use Rattle.tj_syntax.specs.ScriptTexts.{most_bytes}
use Rattle.tj_syntax.proofs.ScriptTexts.{as_long}
use Rattle.tj_syntax.proofs.ScriptTexts.{grammar_first, grammar_refused, long_first, token_first, token_refused}
use Rattle.tj_syntax.proofs.script_text.script_in.Goals as goal

pub position_behind-requires : goal.position_behind-requires
position_behind-requires c = as_long (length c.split_at.result.0.now) most_bytes c.split_at.ensures.front_len

pub returns-then-text-gt-MAX_TEXT-clause-fault : goal.returns-then-text-gt-MAX_TEXT-clause-fault
returns-then-text-gt-MAX_TEXT-clause-fault c = inr (long_first c.position_behind.result c.args.text.now
    c.split_at.result.0.now c.position_behind.ensures c.split_at.ensures.front c.if-text-gt-MAX_TEXT.true)

pub returns-in-Err-clause-fault : goal.returns-in-Err-clause-fault
returns-in-Err-clause-fault c = token_first c.args.text.now c.in-Err.fault
    c.if-text-gt-MAX_TEXT.false c.in-Err.ensures.fault

pub returns-in-Err-clause-refused : goal.returns-in-Err-clause-refused
returns-in-Err-clause-refused c = token_refused c.args.text.now c.in-Err.fault c.in-Err.ensures.only_tokens

pub returns-clause-fault : goal.returns-clause-fault
returns-clause-fault c =
    let text = c.args.text.now in
    grammar_first text (whole_tokens text c.as_slice.result.now) c.in-Err-parse.fault c.if-text-gt-MAX_TEXT.false
    (subst (λ ts. AreTokens text (whole_tokens text ts)) (sym c.as_slice.ensures.value) c.in-Ok.ensures.ok)
    c.in-Err-parse.ensures.fault

pub returns-clause-refused : goal.returns-clause-refused
returns-clause-refused c =
    let text = c.args.text.now in
    grammar_refused text (whole_tokens text c.as_slice.result.now) c.in-Err-parse.fault
    (λ all has. ap (whole_tokens text) c.as_slice.ensures.value ∙ c.in-Ok.ensures.only_tokens all has)
    c.in-Err-parse.ensures.err
