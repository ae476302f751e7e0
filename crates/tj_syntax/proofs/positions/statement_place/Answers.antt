-- The ask stands so many tokens behind the first.
use Rattle.std.proofs.Common.{ap, ◌∙◌, option_map}
use Rattle.tj_lex.specs.declared.token.Token.{Token}
use Rattle.tj_syntax.specs.Inner.Scan.{ask_offset}
use Rattle.tj_syntax.specs.PlacesOf.{place_at}
use Rattle.tj_syntax.proofs.Starting.Read.{place_read, ask_read, both_places}
use Rattle.tj_syntax.proofs.positions.statement_place.Goals as goal

pub returns : goal.returns
returns c =
    let ts = c.args.tokens.now in
    let second = c.index-tokens-i-2 in
    both_places (place_read ts c.args.i c.index-tokens-i.result c.requires)
    (c.ask_at-ask.ensures
    ∙ ap (option_map (place_at ts))
    (ask_read ts c.args.i second.result c.ask_offset-offset.result c.requires
    (c.ask_offset-offset.ensures.value ∙ ap (λ (t : Token). ask_offset t.what) second.is)))
