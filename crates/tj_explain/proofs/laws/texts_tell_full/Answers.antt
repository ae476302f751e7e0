use Rattle.tj_explain.proofs.FullPlaces.{texts_tell_full}
use Rattle.tj_explain.proofs.laws.texts_tell_full.Goals as goal

pub returns : goal.returns
returns c = texts_tell_full c.places_are_of_tokens.ensures
