use Rattle.std.proofs.Common.{Some}
use Rattle.tj_mean.proofs.NameMaps.{changed_at}
use Rattle.tj_mean.proofs.name_map.NameMap.put.Goals as goal

pub returns : goal.returns
returns g c = changed_at c.args.self.now.values c.insert.new.self c.args.name (Some c.args.value)
    c.in_ok-insert.ensures.updates.0
