use Rattle.std.proofs.Common.{◌≡◌, ◌+◌, ◌-◌, ℕ, List, [], ◌∷◌, map, take, drop, true, sym, subst, arith}
use Rattle.std.specs.List.{list_all}
use Rattle.std.proofs.lemmas.List.{map-append}
use Rattle.tj_lex.specs.Bytes.{stays_on_line}
use Rattle.tj_lex.specs.Tokens.{IsToken, HasTokens}
use Rattle.tj_lex.specs.Inner.Spots.{IsSpot}
use Rattle.tj_lex.specs.Shorts.{token_of}
use Rattle.tj_lex.specs.declared.gap.Spot.{Spot}
use Rattle.tj_lex.specs.declared.token.Token.{Token}
use Rattle.tj_lex.proofs.Moves.{column-spot, IsSpot-along}
use Rattle.tj_lex.proofs.Chains.{HasTokens-push, IsToken-behind, Spells-line}
use Rattle.tj_lex.proofs.shorts.read_shorts.Goals as goal

pub along-spot-requires-clause-column : goal.along-spot-requires-clause-column
along-spot-requires-clause-column c =
    let token = c.in_ok-token.ensures.token in
    omega (
      arith,
      column-spot c.args.text.now c.after_gap-here.result c.after_gap-here.ensures.spot,
      token.within,
      token.behind,
    )

-- behind a token
behind : (text : List ℕ) (here after : Spot) (token : Token) → IsSpot text here → IsToken text here.next token
    → token.from ≡ here.next
    → after.next ≡ here.next + (token.to - token.from) → after.at.line ≡ here.at.line
    → after.at.column ≡ here.at.column + (token.to - token.from) → IsSpot text after
behind text here after token spot h from next line column =
    let stays : list_all stays_on_line (take (token.to - token.from) (drop here.next text)) ≡ true =
    rw (← from) (Spells-line (drop token.from text) _ token.what h.spelled) in
    IsSpot-along text here after _ spot (omega (arith, h.within, h.some)) stays next line column

pub tokens-preserved : goal.tokens-preserved
tokens-preserved c =
    let text = c.args.text.now in
    let here = c.after_gap-here.result in
    let gap = c.after_gap-here.ensures in
    let short = c.in_ok-token.token in
    let token = c.in_ok-token.ensures in
    let along = c.along-spot.ensures in
    let inv = c.tokens.invariant in
    let found = c.tokens.found.items in
    let spot : IsSpot text c.along-spot.result =
    behind text here _ (token_of text short) gap.spot token.token token.from along.next along.line along.column in
    let next : c.along-spot.result.next ≡ short.to =
    omega (arith, token.from, along.next, token.token.some) in
    let behind_gap = IsToken-behind text _ _ _ gap.gap token.from token.token in
    let pushed = c.in-Ok-push.ensures.items in
    let has = HasTokens-push text 0 (map (token_of text) found) _ (token_of text short) inv.1 behind_gap in (
      spot,
      rw (next, pushed)
          (subst (λ ts. HasTokens text 0 ts short.to) (sym (map-append (token_of text) found (short ∷ []))) has),
    )
