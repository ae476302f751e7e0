-- Causes with their ranks, as the code holds them.
use Rattle.std.specs.Prelude.{ℕ, List, map}
use Rattle.tj_findings.specs.Forests.{Tree, bare, view_tree}
use Rattle.tj_findings.specs.declared.finding.Finding.{Finding}
use Rattle.tj_findings.specs.declared.forest.Tree as code

-- the trees, each with its rank
abbrev pub ranks_of : List code.Tree → List (ℕ × Tree)
ranks_of trees = map (λ t. (t.rank, view_tree t)) trees

-- causes with ranks, with nothing below them
abbrev pub bare_ranks : List (ℕ × Finding) → List (ℕ × Tree)
bare_ranks fs = map (λ f. (f.0, bare f.1)) fs
