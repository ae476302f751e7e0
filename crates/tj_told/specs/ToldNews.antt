-- What is told: when two cycles are equal, which cells an outcome tells to be broken, that an outcome's cycles are
-- told, each once, and which value is told of a cell that is watched.
use Rattle.std.specs.Prelude.{◌≡◌, ◌⊎◌, Bool, true, false, ◌&&◌, List, [], ◌∷◌, Option, Some}
use Rattle.std.specs.Cmp.Lexicographic.{pointwise}
use Rattle.tj_base.specs.ForkOrder.{Name}
use Rattle.tj_base.specs.declared.cause.Cause.{Cause}
use Rattle.tj_base.specs.declared.value.Shown.{Shown}
use Rattle.tj_body.specs.Names.{same}
use Rattle.tj_body.specs.Points.{IsIn}
use Rattle.tj_mean.specs.declared.outcome.Ending.{Ending}
use Rattle.tj_mean.specs.declared.outcome.Ending.TheVariants as ending
use Rattle.tj_mean.specs.declared.outcome.Link.{Link}
use Rattle.tj_mean.specs.declared.outcome.Outcome.{Outcome}
use Rattle.tj_mean.specs.declared.outcome.TaskLine.{TaskLine}
use Rattle.tj_report.specs.declared.named_values.Became.{Became}
use Rattle.tj_report.specs.declared.named_values.Became.TheVariants as became
use Rattle.tj_told.specs.declared.news.News.{News}
use Rattle.tj_told.specs.declared.news.News.TheVariants as news

-- whether two links are equal
abbrev pub same_link : Link → Link → Bool
same_link a b = same a.task b.task && same a.cell b.cell

-- whether two cycles are equal, link by link
abbrev pub same_cycle : List Link → List Link → Bool
same_cycle a b = pointwise same_link a b

-- whether this cycle is what was told
abbrev pub tells_cycle : List Link → News → Bool
tells_cycle c (news.Cycle d) = same_cycle c d
tells_cycle c (news.Broken q) = false
tells_cycle c (news.Value q v) = false

-- whether a value is what was told
abbrev pub is_value : News → Bool
is_value (news.Cycle c) = false
is_value (news.Broken q) = false
is_value (news.Value q v) = true

-- one of these cycles was told
abbrev pub IsCycleOf : List (List Link) → News → Type 0
IsCycleOf cycles n = (c : List Link) × IsIn c cycles × (n ≡ news.Cycle c)

-- none stands twice
abbrev pub AreApart : {A : Type 0} → List A → Type 0
AreApart [] = Unit {0}
AreApart (x ∷ xs) = ¬ IsIn x xs × AreApart xs

-- the task failed
abbrev pub HasFailed : Ending → Type 0
HasFailed e = (c : Cause) × (e ≡ ending.Failed c)

-- by the outcome the cell is broken: it is the result of a task that failed, or a promise that a task owed at its end
abbrev pub IsBrokenIn : Outcome → Name → Type 0
IsBrokenIn o q = (l : TaskLine) × IsIn l o.lines × (((l.name ≡ q) × HasFailed l.ending) ⊎ IsIn q l.owes)

-- each cycle that was told is one of the outcome's, and each cell that was told to be broken is broken by it
pub record AreOf (told : List News) (o : Outcome) : Type 0 where
  pub cycles : (c : List Link) → IsIn (news.Cycle c) told → IsIn c o.cycles
  pub broken : (q : Name) → IsIn (news.Broken q) told → IsBrokenIn o q

-- the cycles that were told are those of the outcome, all of them and no others, and a cell that was told to be broken
-- is broken by it
pub record AreTold (told : List News) (o : Outcome) : Type 0 where
  pub only : (c : List Link) → IsIn (news.Cycle c) told → IsIn c o.cycles
  pub all : (c : List Link) → IsIn c o.cycles → IsIn (news.Cycle c) told
  pub broken : (q : Name) → IsIn (news.Broken q) told → IsBrokenIn o q

-- each value that was told is of the cell that is watched by its name, and is what became of that cell at rest; so none
-- was told where no cell is watched
abbrev pub AreAnswers : Option Name → Option Became → List News → Type 0
AreAnswers watched answer told = (q : Name) (v : Shown) → IsIn (news.Value q v) told
    → (watched ≡ Some q) × (answer ≡ Some (became.Value v))

-- this is among what is told now, and nothing else that wasn't before
pub record AddsTo (n : News) (before now : List News) : Type 0 where
  pub is : IsIn n now
  pub kept : (d : News) → IsIn d before → IsIn d now
  pub only : (d : News) → IsIn d now → (d ≡ n) ⊎ IsIn d before
