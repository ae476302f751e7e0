-- The law of groups: what a text tells at once are the findings of its forest, what follows from causes among them.
use Rattle.std.specs.Prelude.{Bool}
use Rattle.std.specs.List.{flat_map}
use Rattle.std.specs.List.Sorted.{IsPermutation}
use Rattle.tj_findings.specs.Forests.{Forest, findings_in}
use Rattle.tj_texts.specs.LineLaws.{told_together}

-- what is told together are the findings of the forest, each as often as that has it, in an order of their own
abbrev pub GroupsTellEachFinding : Type 0
GroupsTellEachFinding = (all : Bool) (f : Forest)
    → IsPermutation (findings_in f) (flat_map (λ g. g.1) (told_together all f))
