-- What the heads of tasks stand for.
use Rattle.std.specs.Prelude.{List, map}
use Rattle.tj_syntax.specs.declared.heads.Head.{Head}
use Rattle.tj_syntax.specs.declared.heads.Heads.{Heads}
use Rattle.tj_syntax.specs.Inner.Input as spec

-- what a head stands for
abbrev pub head_of : Head → spec.Head
head_of h = record { name = h.name.now; params = h.params; left = h.left }

-- what the heads stand for
abbrev pub heads_of : Heads → List spec.Head
heads_of heads = map head_of heads.list.items
