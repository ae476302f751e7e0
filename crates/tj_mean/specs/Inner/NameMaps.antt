-- What a map from names has for a name.
use Rattle.std.specs.Prelude.{Option}
use Rattle.std.specs.BTreeMap.{get}
use Rattle.tj_base.specs.ForkOrder.{Name}
use Rattle.tj_base.specs.MapOrder.{map_order}
use Rattle.tj_mean.specs.declared.name_map.NameMap.{NameMap}

-- the value of the name
abbrev pub value_at : {V : Type 0} → NameMap V → Name → Option V
value_at m q = get map_order m.values q
