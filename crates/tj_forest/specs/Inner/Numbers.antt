-- Lines of a trace by their numbers, and a map from cells to such numbers.
use Rattle.std.specs.Prelude.{◌≡◌, ℕ, List, drop, length, Option, Some, None, option_and_then, slice_get}
use Rattle.std.specs.List.{position_from}
use Rattle.std.specs.Option.{is_some}
use Rattle.tj_base.specs.ForkOrder.{Name}
use Rattle.tj_body.specs.Names.{has}
use Rattle.tj_mean.specs.Inner.NameMaps.{value_at}
use Rattle.tj_mean.specs.Outcomes.{Ascend}
use Rattle.tj_mean.specs.declared.name_map.NameMap.{NameMap}
use Rattle.tj_mean.specs.declared.outcome.Link.{Link}
use Rattle.tj_trace.specs.Traces.{names_of}
use Rattle.tj_trace.specs.declared.line.TraceLine.{TraceLine}
use Rattle.tj_findings.specs.Echoes.{back, most_doublings}
use Rattle.tj_findings.specs.Findings.{is_member}
use Rattle.tj_findings.specs.Forests.{ahead, awaited_from, cause_from, echo_before, names_of_cause}
use Rattle.tj_forest.specs.Inner.Jumps.{AreEach, AreJumps}
use Rattle.tj_findings.specs.Searches.{owner_of}
use Rattle.tj_findings.specs.Went.{setter_of}
use Rattle.tj_findings.specs.declared.finding.Finding.{Finding}
use Rattle.tj_findings.specs.declared.forest.Tree.{Tree}
use Rattle.tj_forest.specs.declared.lookups.Guide.{Guide}
use Rattle.tj_forest.specs.declared.lookups.Lookups.{Lookups}
use Rattle.tj_forest.specs.declared.lookups.Members.{Members}

-- this is the number of the line that was looked up, and none where no line was found
abbrev pub IsNumberOf : List TraceLine → Option ℕ → Option TraceLine → Type 0
IsNumberOf lines None found = found ≡ None
IsNumberOf lines (Some n) found = (l : TraceLine) × (slice_get lines n ≡ Some l) × (found ≡ Some l)

-- for the number of each line the list has the number of that to which a step leads, and none where no step does
abbrev pub AreSteps : List TraceLine → (TraceLine → Option TraceLine) → List (Option ℕ) → Type 0
AreSteps lines f steps =
    AreEach (λ n s. IsNumberOf lines s (option_and_then f (slice_get lines n))) (λ n. None) (length lines) steps

-- the number that the map has for a cell
abbrev pub number_in : NameMap ℕ → Name → Option ℕ
number_in m q = value_at m q

-- for each cell the map has the number of the first line, from number n on, of a task that owned it where it stopped
abbrev pub AreOwnersFrom : List TraceLine → ℕ → NameMap ℕ → Type 0
AreOwnersFrom lines n m = (q : Name) → IsNumberOf lines (number_in m q) (owner_of (drop n lines) q)

-- for each promise the map has the number of the first line, from number n on, of a task that set it
abbrev pub AreSettersFrom : List TraceLine → ℕ → NameMap ℕ → Type 0
AreSettersFrom lines n m = (q : Name) → IsNumberOf lines (number_in m q) (setter_of (drop n lines) q)

-- the map has a number for each member of these cycles, and for no other task
abbrev pub AreMembers : List (List Link) → NameMap ℕ → Type 0
AreMembers cycles m = (x : Name) → is_some (number_in m x) ≡ is_member cycles x

-- the lines are in name order, and the maps have the owners of all cells and the setters of all promises
pub record IsSearchable (s : Lookups) : Type 0 where
  pub in_order : Ascend (names_of s.lines.now)
  pub owned : AreOwnersFrom s.lines.now 0 s.owners
  pub set : AreSettersFrom s.lines.now 0 s.setters

-- the map has the members of the cycles
abbrev pub HasMembers : Members → Type 0
HasMembers m = AreMembers m.cycles.now m.numbers

-- for each name the map has the number of the first cause, from number n on, that is known by it
abbrev pub AreCausesFrom : List Finding → ℕ → NameMap ℕ → Type 0
AreCausesFrom fs n m = (x : Name) → number_in m x ≡ cause_from n (drop n fs) x

-- the same of trees with these causes as roots
abbrev pub AreRootsFrom : List Tree → ℕ → NameMap ℕ → Type 0
AreRootsFrom ts n m = (x : Name) → number_in m x ≡ position_from (λ t. has x (names_of_cause t.root)) n (drop n ts)

-- for each cell the map has the number of the first cycle, from number n on, in which a task waits for it
abbrev pub AreAwaitedFrom : List (List Link) → ℕ → NameMap ℕ → Type 0
AreAwaitedFrom cycles n m = (q : Name) → number_in m q ≡ awaited_from n (drop n cycles) q

-- what the guide holds finds the line of each name, the members of cycles, and where steps lead
pub record IsGuide (g : Guide) : Type 0 where
  pub searchable : IsSearchable g.lookups
  pub members : HasMembers g.members
  pub ahead : AreJumps g.lookups.lines.now (ahead g.lookups.lines.now) most_doublings g.ahead.items
  pub steps : AreSteps g.lookups.lines.now (back g.lookups.lines.now) g.steps.items
  pub to_echoes : AreJumps g.lookups.lines.now (echo_before g.lookups.lines.now) most_doublings g.to_echoes.items
  pub back : AreJumps g.lookups.lines.now (back g.lookups.lines.now) most_doublings g.back.items
