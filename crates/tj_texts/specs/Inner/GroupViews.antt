-- Groups of findings, as the code holds them.
use Rattle.std.specs.Prelude.{List, map}
use Rattle.tj_findings.specs.Groups.{Group}
use Rattle.tj_texts.specs.declared.groups.Group as code

-- a group of the findings to which the code refers
abbrev pub view : code.Group → Group
view g = record { members = map (λ f. f.now) g.members.items; below = map (λ f. f.now) g.below.items }

-- the same of each group
abbrev pub views : List code.Group → List Group
views gs = map view gs
