use Rattle.tj_faults.proofs.TokenLines.{place_stands}
use Rattle.tj_faults.proofs.laws.places_stand_in_lines.Goals as goal

pub returns : goal.returns
returns c = place_stands
