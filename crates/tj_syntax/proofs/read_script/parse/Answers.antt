-- What is refused has a first fault.
use Rattle.std.proofs.Common.{◌≡◌, ℕ, inl, inr, ⊎_elim, refl, ap, sym, ◌∙◌, subst, [], ◌∷◌, ◌++◌, List, arith, length}
use Rattle.std.proofs.Common.{length-append, take, ◌-◌, map}
use Rattle.std.proofs.lemmas.List.{length-map, take-map}
use Rattle.tj_lex.specs.declared.shorts.Short.{Short}
use Rattle.tj_lex.specs.declared.token.Token.{Token}
use Rattle.tj_lex.specs.Shorts.{token_of, whole_tokens}
use Rattle.tj_lex.specs.declared.token.Tok.TheVariants as toks
use Rattle.tj_syntax.specs.Faults.{EndsInEnd, IsFirstFault, IsScript, kinds_of}
use Rattle.tj_syntax.specs.View as view
use Rattle.tj_syntax.specs.Inner.Stops.{AreLeft, IsFirstStop, fault_at}
use Rattle.tj_syntax.proofs.Complete.Script.{one_script}
use Rattle.tj_syntax.proofs.Stops.FirstFault.{kinds_with_end}
use Rattle.tj_syntax.proofs.Listed.Back.{listed_script}
use Rattle.tj_syntax.proofs.Same.Fault.{scripts_have_no_fault}
use Rattle.tj_syntax.proofs.read_script.parse.Goals as goal

take-front : (front more : List Token) → take (length front) (front ++ more) ≡ front
take-front [] more = refl
take-front (t ∷ front) more = ap (λ ts. t ∷ ts) (take-front front more)

-- the tokens before the end, and the end
ended : (tokens : List Token) → (e : EndsInEnd tokens) → tokens ≡ take (length tokens - 1) tokens ++ e.last ∷ []
ended tokens e =
    let size : length (e.front ++ e.last ∷ []) - 1 ≡ length e.front = omega
    (arith, length-append e.front (e.last ∷ [])) in
    let before : take (length tokens - 1) tokens ≡ e.front =
    ap (λ ts. take (length ts - 1) ts) e.whole ∙ ap (λ n. take n (e.front ++ e.last ∷ [])) size
    ∙ take-front e.front (e.last ∷ []) in
    e.whole ∙ ap (λ ts. ts ++ e.last ∷ []) (sym before)

-- the same of tokens that short ones stand for
whole_ended : (text : List ℕ) (shorts : List Short) → (e : EndsInEnd (whole_tokens text shorts))
    → whole_tokens text shorts ≡ whole_tokens text (take (length shorts - 1) shorts) ++ e.last ∷ []
whole_ended text shorts e =
    let whole = whole_tokens text shorts in
    let front : take (length whole - 1) whole ≡ whole_tokens text (take (length shorts - 1) shorts) =
    ap (λ n. take (n - 1) whole) (length-map shorts (token_of text))
    ∙ take-map (token_of text) (length shorts - 1) shorts in
    ended whole e ∙ ap (λ ts. ts ++ e.last ∷ []) front

pub returns-in-Err-clause-fault : goal.returns-in-Err-clause-fault
returns-in-Err-clause-fault c =
    let tokens = whole_tokens c.args.text.now c.args.tokens.now in
    let end = c.requires.end in
    ⊎_elim
    (λ o. inl (c.fault.ensures end.front [] end.last end.whole (subst (λ s. AreLeft s 0) (sym o) tt) ∙ ap
    (λ s. fault_at s end.last.at) o))
    (λ first.
    let at : IsFirstStop tokens c.in-Err.stop = subst
    (λ ts. IsFirstStop ts c.in-Err.stop) (sym (whole_ended c.args.text.now c.args.tokens.now end))
    (first end.last end.is_end) in
    inr (subst (λ f. IsFirstFault tokens f) (sym (c.fault.ensures at.front at.back at.token at.whole at.left))
    at.is_first))
    c.in-Err.ensures.fault

-- the kinds of the tokens before the end, and the end
ended_kinds : (text : List ℕ) (shorts : List Short) → EndsInEnd (whole_tokens text shorts)
    → kinds_of (whole_tokens text shorts)
    ≡ kinds_of (whole_tokens text (take (length shorts - 1) shorts)) ++ toks.End ∷ []
ended_kinds text shorts e =
    ap kinds_of (whole_ended text shorts e)
    ∙ kinds_with_end (whole_tokens text (take (length shorts - 1) shorts)) e.last e.is_end

-- what has a first fault is no script
pub returns-in-Err-clause-err : goal.returns-in-Err-clause-err
returns-in-Err-clause-err c =
    let tokens = whole_tokens c.args.text.now c.args.tokens.now in
    ⊎_elim inl
    (λ first. inr (λ script is. scripts_have_no_fault tokens script c.fault.result c.requires.end is first))
    (returns-in-Err-clause-fault c)

pub returns-in-Ok-clause-ok : goal.returns-in-Ok-clause-ok
returns-in-Ok-clause-ok c =
    subst (λ kinds. IsScript kinds (map view.task c.in-Ok.tasks.items))
    (sym (ended_kinds c.args.text.now c.args.tokens.now c.requires.end)) c.in-Ok.ensures.ok

pub returns-in-Ok-clause-listed : goal.returns-in-Ok-clause-listed
returns-in-Ok-clause-listed c script given stand is has =
    let tokens = whole_tokens c.args.text.now c.args.tokens.now in
    one_script (kinds_of tokens) (map view.task c.in-Ok.tasks.items) script (returns-in-Ok-clause-ok c)
    (listed_script script given tokens stand is has)

pub returns-in-Err-clause-listed : goal.returns-in-Err-clause-listed
returns-in-Err-clause-listed c script given stand is has =
    let tokens = whole_tokens c.args.text.now c.args.tokens.now in
    ⊎_elim (λ o. o)
    (λ first. absurd (scripts_have_no_fault tokens script c.fault.result c.requires.end
    (listed_script script given tokens stand is has) first))
    (returns-in-Err-clause-fault c)
