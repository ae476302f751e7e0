use Rattle.tj_body.proofs.SeenAs.{histories_seen, rounds_seen, meaning_seen}
use Rattle.tj_body.proofs.laws.seen_alike.Goals as goal

pub returns : goal.returns
returns g c = λ e. (histories_seen e, λ program other s. (rounds_seen e program other s, meaning_seen e program other s))
