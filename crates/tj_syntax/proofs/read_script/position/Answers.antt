-- The token behind which so many stand is the one that the short token there stands for.
use Rattle.std.proofs.Common.{◌≡◌, ℕ, ◌-◌, ◌+◌, suc, List, [], ◌∷◌, ◌++◌, length, get_or, refl, ap, sym, ◌∙◌, arith, length-append}
use Rattle.std.proofs.lemmas.List.{get_or-map, length-map}
use Rattle.tj_lex.specs.declared.shorts.Short.{Short}
use Rattle.tj_lex.specs.declared.token.Token.{Token}
use Rattle.tj_lex.specs.Shorts.{token_of, whole_tokens}
use Rattle.tj_syntax.proofs.read_script.position.Goals as goal

-- the element behind so many
behind : (front back : List Token) (token d : Token) → get_or (front ++ token ∷ back) (length front) d ≡ token
behind [] back token d = refl
behind (t ∷ front) back token d = behind front back token d

-- the token of the short one behind which so many stand
token_there : (text : List ℕ) (shorts : List Short) (left : ℕ) (d : Short) (front back : List Token) (token : Token)
    → whole_tokens text shorts ≡ front ++ token ∷ back → left ≡ length back
    → token_of text (get_or shorts (length shorts - 1 - left) d) ≡ token
token_there text shorts left d front back token whole count =
    let size : length shorts ≡ length front + suc (length back) =
    sym (length-map shorts (token_of text)) ∙ ap length whole ∙ length-append front (token ∷ back) in
    let index : length shorts - 1 - left ≡ length front = omega arith in
    ap (λ i. token_of text (get_or shorts i d)) index
    ∙ sym (get_or-map (token_of text) shorts (length front) d (token_of text d) (omega arith))
    ∙ ap (λ ts. get_or ts (length front) (token_of text d)) whole ∙ behind front back token (token_of text d)

pub returns-then-left-tokens : goal.returns-then-left-tokens
returns-then-left-tokens c front back token whole count =
    c.position_behind.ensures
    ∙ ap (λ (t : Token). t.at)
    (token_there c.args.text.now c.args.tokens.now c.args.left _ front back token whole count)
