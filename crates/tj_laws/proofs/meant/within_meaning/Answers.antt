use Rattle.tj_laws.proofs.MeantWords.{stands_within}
use Rattle.tj_laws.proofs.meant.within_meaning.Goals as goal

pub returns : goal.returns
returns g c = stands_within _ _ _ _ _ c.meaning_is_last.ensures c.rounds_grow.ensures c.points_in_rounds.ensures.later
    c.points_are_good.ensures c.history_stops.ensures
