use Rattle.std.proofs.Common.{None}
use Rattle.tj_mean.proofs.NameMaps.{changed_at}
use Rattle.tj_mean.proofs.name_map.NameMap.take.Goals as goal

pub returns-clause-stays : goal.returns-clause-stays
returns-clause-stays g c = changed_at c.args.self.now.values c.remove.new.self c.args.name.now None
    c.remove.ensures.updates.0
