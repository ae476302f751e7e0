use Rattle.tj_laws.proofs.NamesAtRest.{known_names_closed}
use Rattle.tj_laws.proofs.own_runs.closed_names.Goals as goal

pub returns : goal.returns
returns g c = known_names_closed _ c.own_runs.ensures.stand c.alike_seats.ensures.known
