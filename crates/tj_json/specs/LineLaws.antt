-- The law of objects: each finding of a forest has a line of its own, in the forest's order.
use Rattle.std.specs.Prelude.{◌≡◌, ℕ, List, [], ◌∷◌, ◌++◌, codes, decimal, Option, Some, None}
use Rattle.std.specs.List.{flat_map}
use Rattle.std.specs.Option.{option_map}
use Rattle.tj_base.specs.ForkOrder.{Name}
use Rattle.tj_base.specs.Texts.{name_text}
use Rattle.tj_faults.specs.Objects.{quoted}
use Rattle.tj_findings.specs.Forests.{Forest}
use Rattle.tj_findings.specs.Groups.{cell_named}
use Rattle.tj_findings.specs.LinesTold.{AreLines, HasPlainNames, StandInOrder, with_levels}
use Rattle.tj_findings.specs.PartTexts.{cause_word}
use Rattle.tj_findings.specs.Scenes.{Told}
use Rattle.tj_findings.specs.declared.finding.Finding.{Finding}
use Rattle.tj_findings.specs.declared.finding.Finding.TheVariants as finding
use Rattle.tj_findings.specs.declared.finding.Wait.{Wait}
use Rattle.tj_json.specs.JsonTexts.{finding_json, forest_json}

-- the objects of a forest are those of its findings, one after the other
abbrev pub TellEach : Told → Type 0
TellEach s = (f : Forest) → forest_json s f ≡ flat_map (λ g. finding_json s g.0 g.1) (with_levels f)

-- the object of a finding is one line
abbrev pub AreOneLine : Told → Type 0
AreOneLine s = (n : ℕ) (g : Finding) → AreLines 1 (finding_json s n g)

-- how the kind of a finding is called
abbrev pub kind_word : Finding → List ℕ
kind_word (finding.Cycle ws) = codes "deadlock"
kind_word (finding.Behind w) = codes "behind"
kind_word (finding.Failed t c m) = codes "failed"
kind_word (finding.Owed q t) = codes "owed"
kind_word (finding.Echo t q o) = codes "echo"

-- how an object of this kind and this level begins, up to the comma behind the level
abbrev pub beginning : List ℕ → ℕ → List ℕ
beginning kind n = codes "{\"kind\":\"" ++ kind ++ codes "\",\"level\":" ++ decimal n ++ codes ","

-- the object of this finding begins with its kind and this level
pub record BeginsWith (s : Told) (n : ℕ) (g : Finding) : Type 0 where
  pub rest : List ℕ
  pub is : finding_json s n g ≡ beginning (kind_word g) n ++ rest

-- the object of each finding begins so
abbrev pub BeginRight : Told → Type 0
BeginRight s = (n : ℕ) (g : Finding) → BeginsWith s n g

-- the name of a task
abbrev pub task_part : Name → List ℕ
task_part x = codes "\"task\":{\"name\":" ++ quoted (name_text x)

-- the name of a cell
abbrev pub cell_part : Name → List ℕ
cell_part x = codes "\"cell\":{\"name\":" ++ quoted (name_text x)

-- the name of the cell that a cause names, if it names one
abbrev pub cell_if : Option Name → List ℕ
cell_if None = codes "\"cell\":null"
cell_if (Some x) = cell_part x

-- the name of the owner, if there is one
abbrev pub owner_part : Option Name → List ℕ
owner_part None = codes "\"owner\":null"
owner_part (Some x) = codes "\"owner\":" ++ quoted (name_text x)

-- the name of the task where an echo began, if there is one
abbrev pub origin_part : Option Name → List ℕ
origin_part None = codes "\"origin\":null"
origin_part (Some x) = codes "\"origin\":{\"name\":" ++ quoted (name_text x)

-- the parts of a wait: the task, the cell, and its owner
abbrev pub wait_parts : Wait → List (List ℕ)
wait_parts w = task_part w.task.name ∷ cell_part w.cell.name ∷ owner_part w.owner ∷ []

-- the parts of a finding, each behind what it is: the names of its tasks and cells, of a cycle member by member, and
-- the cause of a failure
abbrev pub parts_of : Finding → List (List ℕ)
parts_of (finding.Cycle ws) = flat_map wait_parts ws
parts_of (finding.Behind w) = wait_parts w
parts_of (finding.Failed t c m) =
    task_part t.name ∷ (codes "\"cause\":" ++ quoted (cause_word c)) ∷ cell_if (cell_named c) ∷ []
parts_of (finding.Owed q t) = cell_part q.name ∷ task_part t.name ∷ []
parts_of (finding.Echo t q o) =
    task_part t.name ∷ cell_part q.name ∷ origin_part (option_map (λ u. u.name) o) ∷ []

-- the object of a finding has the parts of this finding, in their order
abbrev pub HasNames : Told → Type 0
HasNames s = (n : ℕ) (g : Finding) → StandInOrder (parts_of g) (finding_json s n g)

-- objects tell each finding of a forest by one line, which is made of this finding and its level alone, begins with its
-- kind and this level, and names its tasks and cells in order
abbrev pub ObjectsTellEach : Type 0
ObjectsTellEach =
    (s : Told) → TellEach s × (HasPlainNames s → AreOneLine s) × HasNames s × BeginRight s
