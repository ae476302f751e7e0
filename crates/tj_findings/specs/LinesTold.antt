-- Texts as lines, and the findings of a forest in the order in which each is told: what the laws of texts speak of.
use Rattle.std.specs.Prelude.{◌≡◌, ℕ, ◌+◌, nat_eq, cond, List, [], ◌∷◌, ◌++◌, map, slice_get, Some}
use Rattle.std.specs.List.{flat_map}
use Rattle.tj_syntax.specs.Trees.{Task}
use Rattle.tj_mean.specs.ReportTexts.{line_feed}
use Rattle.tj_trace.specs.declared.line.Maker.{Maker}
use Rattle.tj_findings.specs.Forests.{Forest, Tree}
use Rattle.tj_findings.specs.LetNames.{let_name}
use Rattle.tj_findings.specs.Scenes.{Told}
use Rattle.tj_findings.specs.declared.finding.Finding.{Finding}

-- how many line feeds a text has
abbrev pub feeds : List ℕ → ℕ
feeds [] = 0
feeds (b ∷ text) = cond (nat_eq b 10) 1 0 + feeds text

-- the text has no line feed
abbrev pub IsPlain : List ℕ → Type 0
IsPlain text = feeds text ≡ 0

-- the text is so many lines, one or more: it has this number of line feeds, and ends with one
pub record AreLines (n : ℕ) (text : List ℕ) : Type 0 where
  pub words : List ℕ
  pub ends : text ≡ words ++ line_feed
  pub count : feeds text ≡ n

-- the part stands in the text
pub record StandsIn (part text : List ℕ) : Type 0 where
  pub before : List ℕ
  pub behind : List ℕ
  pub is : text ≡ before ++ part ++ behind

-- these stand in the text one behind the other, in this order
abbrev pub StandInOrder : List (List ℕ) → List ℕ → Type 0
StandInOrder [] text = Unit {0}
StandInOrder (p ∷ ps) text = (i : StandsIn p text) × StandInOrder ps i.behind

-- no name of a task or of a variable has a line feed
pub record HasPlainNames (s : Told) : Type 0 where
  pub tasks : (n : ℕ) (d : Task) → slice_get s.script n ≡ Some d → IsPlain d.name
  pub variables : (m : Maker) (x : List ℕ) → let_name s m ≡ Some x → IsPlain x

-- the findings of a tree with their levels: a cause has level 0, and what follows from it level 1
abbrev pub tree_with_levels : Tree → List (ℕ × Finding)
tree_with_levels t = (0, t.root) ∷ map (λ f. (1, f)) t.below

-- the findings of a forest with their levels, in the order in which they are told: a cause, and behind it what follows
-- from it
abbrev pub with_levels : Forest → List (ℕ × Finding)
with_levels f = flat_map tree_with_levels f.trees ++ map (λ g. (0, g)) f.strays
