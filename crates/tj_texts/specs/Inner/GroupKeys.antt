-- Numbers that findings have in common which are told on one line, and only those.
use Rattle.std.specs.Prelude.{◌≡◌, ◌<◌, ◌≤◌, ℕ, not, List, [], ◌∷◌, length, Option, Some, None, Vec}
use Rattle.std.specs.BTreeMap.{BTreeMap, get}
use Rattle.std.specs.Cmp.Lexicographic.{slice_cmp}
use Rattle.std.specs.List.{flat_map, prefix_len}
use Rattle.std.specs.Ordering.{nat_cmp}
use Rattle.std.specs.declared.alloc.Global.{Global}
use Rattle.tj_trace.specs.declared.line.Maker.{Maker}
use Rattle.tj_findings.specs.Groups.{belongs, word_number}
use Rattle.tj_texts.specs.Inner.GroupViews.{view}
use Rattle.tj_findings.specs.declared.finding.Finding.{Finding}
use Rattle.tj_findings.specs.declared.finding.Finding.TheVariants as finding
use Rattle.tj_findings.specs.declared.finding.Wait.{Wait}
use Rattle.tj_texts.specs.declared.groups.Group as code

-- the statements at which the tasks of these waits stand
abbrev pub stands : List Wait → List ℕ
stands ws = flat_map (λ w. w.task.decl ∷ w.task.at ∷ []) ws

-- the statement that made something, if it is known
abbrev pub made_at : Option Maker → List ℕ
made_at None = []
made_at (Some m) = m.decl ∷ m.at ∷ []

-- the key of a finding: the number of its kind, and what the findings of a group have in common
abbrev pub key : Finding → List ℕ
key (finding.Cycle ws) = 0 ∷ stands ws
key (finding.Behind w) = 1 ∷ w.task.decl ∷ w.task.at ∷ []
key (finding.Failed t c m) = 2 ∷ t.decl ∷ t.at ∷ word_number c ∷ []
key (finding.Owed q t) = 3 ∷ made_at q.maker
key (finding.Echo t q o) = 4 ∷ t.decl ∷ t.at ∷ []

-- how many groups stand in front of the first to which the finding belongs
abbrev pub before : Finding → List code.Group → ℕ
before f gs = prefix_len (λ g. not (belongs f (view g).members)) gs

-- the number that the map has for a key
abbrev pub found : BTreeMap (Vec ℕ Global) ℕ → Vec ℕ Global → Option ℕ
found m k = get (λ x y. slice_cmp nat_cmp x.items y.items) m k

-- this is the number of the first group to which the finding belongs, and none where it belongs to none
abbrev pub IsFirst : Finding → List code.Group → Option ℕ → Type 0
IsFirst f gs None = length gs ≤ before f gs
IsFirst f gs (Some n) = (n ≡ before f gs) × (n < length gs)

-- for the key of each finding the map has the number of the first group to which the finding belongs
abbrev pub AreNumbered : List code.Group → BTreeMap (Vec ℕ Global) ℕ → Type 0
AreNumbered gs m = (f : Finding) (k : Vec ℕ Global) → k.items ≡ key f → IsFirst f gs (found m k)
