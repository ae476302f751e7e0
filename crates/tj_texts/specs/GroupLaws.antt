-- The law of groups: findings that are told together say the same, and such as say the same are told together.
use Rattle.std.specs.Prelude.{◌≡◌, false, List, [], ◌∷◌, Option, Some, None}
use Rattle.tj_body.specs.Points.{IsIn}
use Rattle.tj_trace.specs.declared.line.Maker.{Maker}
use Rattle.tj_findings.specs.Forests.{Tree}
use Rattle.tj_findings.specs.Groups.{Group, groups}
use Rattle.tj_findings.specs.PartTexts.{cause_word}
use Rattle.tj_findings.specs.declared.finding.Finding.{Finding}
use Rattle.tj_findings.specs.declared.finding.Finding.TheVariants as finding
use Rattle.tj_findings.specs.declared.finding.ToldTask.{ToldTask}
use Rattle.tj_findings.specs.declared.finding.Wait.{Wait}

-- the tasks run the same declaration, and stopped at the same statement of it
abbrev pub StandAlike : ToldTask → ToldTask → Type 0
StandAlike t u = (t.decl ≡ u.decl) × (t.at ≡ u.at)

-- the tasks of the waits do, one by one
abbrev pub AllStandAlike : List Wait → List Wait → Type 0
AllStandAlike [] [] = Unit {0}
AllStandAlike [] (v ∷ vs) = ⊥
AllStandAlike (w ∷ ws) [] = ⊥
AllStandAlike (w ∷ ws) (v ∷ vs) = StandAlike w.task v.task × AllStandAlike ws vs

-- the same statement made both, if any is told
abbrev pub MadeAlike : Option Maker → Option Maker → Type 0
MadeAlike None None = Unit {0}
MadeAlike None (Some n) = ⊥
MadeAlike (Some m) None = ⊥
MadeAlike (Some m) (Some n) = (m.decl ≡ n.decl) × (m.at ≡ n.at)

-- the findings are of one kind and say the same: of promises that are owed, that one statement made them; of others,
-- that their tasks stopped at one statement, and failures have one word for their cause
abbrev pub SaySame : Finding → Finding → Type 0
SaySame (finding.Cycle ws) (finding.Cycle vs) = AllStandAlike ws vs
SaySame (finding.Behind w) (finding.Behind v) = StandAlike w.task v.task
SaySame (finding.Failed t c m) (finding.Failed u d n) = StandAlike t u × (cause_word c ≡ cause_word d)
SaySame (finding.Owed q t) (finding.Owed p u) = MadeAlike q.maker p.maker
SaySame (finding.Echo t q o) (finding.Echo u p r) = StandAlike t u
SaySame f g = ⊥

-- each of these findings says the same as the first
abbrev pub AllSaySame : List Finding → Type 0
AllSaySame [] = Unit {0}
AllSaySame (f ∷ fs) = (g : Finding) → IsIn g fs → SaySame f g

-- none of the second findings says the same as the first of the first ones
abbrev pub NoneSaysSame : List Finding → List Finding → Type 0
NoneSaysSame [] gs = Unit {0}
NoneSaysSame (f ∷ fs) gs = (g : Finding) → IsIn g gs → SaySame f g → ⊥

-- no two of these groups have findings that say the same
abbrev pub AreApart : List Group → Type 0
AreApart [] = Unit {0}
AreApart (g ∷ gs) = ((h : Group) → IsIn h gs → NoneSaysSame g.members h.members) × AreApart gs

-- findings of one group say the same, and of two they don't: of causes, and, each taken as a tree by itself, of what
-- follows from one cause
abbrev pub GroupsSaySame : Type 0
GroupsSaySame = (ts : List Tree)
    → ((g : Group) → IsIn g (groups false ts) → AllSaySame g.members) × AreApart (groups false ts)
