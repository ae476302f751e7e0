use Rattle.tj_explain.proofs.PlacesThere.{places_are_of_tokens}
use Rattle.tj_explain.proofs.place_laws.places_are_of_tokens.Goals as goal

pub returns : goal.returns
returns c = places_are_of_tokens c.tokens_stand_in_lines.ensures
