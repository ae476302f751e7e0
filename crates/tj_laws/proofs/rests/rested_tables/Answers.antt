use Rattle.tj_laws.proofs.HandsAtRest.{none_in_hand}
use Rattle.tj_laws.proofs.RestedWords.{live_somebodys, rested_stay, stops_stay}
use Rattle.tj_laws.proofs.rests.rested_tables.Goals as goal

pub returns-clause-stay : goal.returns-clause-stay
returns-clause-stay g c = rested_stay _ c.lasting_words.ensures.cells

pub returns-clause-stop : goal.returns-clause-stop
returns-clause-stop g c = stops_stay _

pub returns-clause-live : goal.returns-clause-live
returns-clause-live g c = live_somebodys _

pub returns-clause-no_hand : goal.returns-clause-no_hand
returns-clause-no_hand g c = none_in_hand _
