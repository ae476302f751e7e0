use Rattle.tj_syntax.proofs.Listed.Back.{says_text}
use Rattle.tj_syntax.proofs.listing.list_text.Goals as goal

pub returns-clause-says : goal.returns-clause-says
returns-clause-says c = says_text _ _ c.script_text.ensures
