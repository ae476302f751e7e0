-- All facts of a core state.
use Rattle.tj_events.specs.CoreState.{CoreState}
use Rattle.tj_events.specs.Facts.{PlacesFact, MakersFact, OwnersFact, AlongWaitsFact, OthersCountFact, TrailFact}
use Rattle.tj_events.specs.Facts.{LastReadsFact, LoadsFact, OthersReadFact, LastCloserFact, AlarmFact}

-- the facts that each allowed event keeps, given all of them
pub record CoreFacts (s : CoreState) : Type 0 where
  pub places : PlacesFact s.count s.cells
  pub makers : MakersFact s.count s.cells
  pub owners : OwnersFact s.cells
  pub along_waits : AlongWaitsFact s.cells
  pub others_count : OthersCountFact s.count s.cells s.others s.cleared
  pub trail : TrailFact s.count s.cells
  pub last_reads : LastReadsFact s.count s.cells
  pub loads : LoadsFact s.cells
  pub others_read : OthersReadFact s.cells
  pub last_closer : LastCloserFact s.cells
  pub alarm : AlarmFact s.cells
