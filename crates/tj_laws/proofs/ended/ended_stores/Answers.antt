use Rattle.tj_laws.proofs.EndedStores.{ended_stores_lie}
use Rattle.tj_laws.proofs.ended.ended_stores.Goals as goal

pub returns : goal.returns
returns g c =
    ended_stores_lie _ c.call_runs.ensures.runs c.lasting_words.ensures.count c.own_runs.ensures.stand
