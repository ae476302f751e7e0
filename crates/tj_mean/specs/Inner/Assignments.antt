-- An assignment kept in a map from names.
use Rattle.tj_body.specs.History.{Assignment}
use Rattle.tj_body.specs.declared.point.Entry.{Entry}
use Rattle.tj_mean.specs.Inner.NameMaps.{value_at}
use Rattle.tj_mean.specs.declared.name_map.NameMap.{NameMap}

-- what the map has for a name
abbrev pub assignment_in : NameMap Entry → Assignment
assignment_in m q = value_at m q
