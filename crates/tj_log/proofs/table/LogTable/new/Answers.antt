use Rattle.tj_log.proofs.Keeps.{opening_kept}
use Rattle.tj_log.proofs.table.LogTable.new.Goals as goal

pub new-requires : goal.new-requires
new-requires g c = opening_kept _ _ _ c.requires.0 c.requires.1
