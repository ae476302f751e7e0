-- The short tokens of a text stand for the tokens that it has.
use Rattle.std.proofs.Common.{◌≡◌, ◌⊎◌, ℕ, List, Result, Ok, Err, IfOk, IfErr, inl, inr, ⊎_elim, ap, subst, ◌∙◌}
use Rattle.tj_lex.specs.declared.shorts.Short.{Short}
use Rattle.tj_lex.specs.declared.token.Token.{Token}
use Rattle.tj_lex.specs.Shorts.{whole_tokens}
use Rattle.tj_lex.specs.Tokens.{AreTokens}
use Rattle.tj_syntax.specs.declared.fault.ParseFault.{ParseFault}
use Rattle.tj_syntax.specs.declared.fault.ParseFault.TheVariants as parse
use Rattle.tj_syntax.specs.declared.script.Script.{Script}
use Rattle.tj_syntax.specs.Faults.{IsFirstFault, IsScript, kinds_of}
use Rattle.tj_syntax.specs.View as view
use Rattle.tj_explain.proofs.parsed.parsed.Goals as goal

-- a script of the short tokens is one of the text's tokens
script-of : (text : List ℕ) (shorts : List Short) (r : Result Script ParseFault)
    → ((all : List Token) → AreTokens text all → whole_tokens text shorts ≡ all)
    → IfOk r (λ script. IsScript (kinds_of (whole_tokens text shorts)) (view.script script))
    → IfOk r (λ script. (all : List Token) → AreTokens text all → IsScript (kinds_of all) (view.script script))
script-of text shorts (Ok script) only is =
    λ all has. subst (λ ts. IsScript (kinds_of ts) (view.script script)) (only all has) is
script-of text shorts (Err fault) only is = tt

-- the first fault of the short tokens is that of the text's tokens
fault-of : (text : List ℕ) (shorts : List Short) (r : Result Script ParseFault)
    → ((all : List Token) → AreTokens text all → whole_tokens text shorts ≡ all)
    → IfErr r (λ fault. (fault ≡ parse.Oom) ⊎ IsFirstFault (whole_tokens text shorts) fault)
    → IfErr r (λ fault. (fault ≡ parse.Oom) ⊎ ((all : List Token) → AreTokens text all → IsFirstFault all fault))
fault-of text shorts (Ok script) only is = tt
fault-of text shorts (Err fault) only (inl memory) = inl memory
fault-of text shorts (Err fault) only (inr first) =
    inr (λ all has. subst (λ ts. IsFirstFault ts fault) (only all has) first)

pub returns-clause-ok : goal.returns-clause-ok
returns-clause-ok c =
    let text = c.args.text.now in
    script-of text c.as_slice.result.now c.parse.result
    (λ all has. ap (whole_tokens text) c.as_slice.ensures.value ∙ c.in-Ok.ensures.only_tokens all has)
    c.parse.ensures.ok

pub returns-clause-fault : goal.returns-clause-fault
returns-clause-fault c =
    let text = c.args.text.now in
    fault-of text c.as_slice.result.now c.parse.result
    (λ all has. ap (whole_tokens text) c.as_slice.ensures.value ∙ c.in-Ok.ensures.only_tokens all has)
    c.parse.ensures.fault
