-- What went wrong, as causes with what follows from them: a forest of findings. Its trees hold each finding of the list
-- once.
use Rattle.std.specs.Prelude.{◌≡◌, ℕ, zero, suc, Bool, true, false, nat_eq, cond, List, [], ◌∷◌, ◌++◌, length, map}
use Rattle.std.specs.Prelude.{slice_get, Option, Some, None, option_and_then, unwrap_or}
use Rattle.std.specs.List.{filter, flat_map, fold, position_from, range_with_len}
use Rattle.std.specs.Option.{is_some, option_map}
use Rattle.tj_base.specs.ForkOrder.{Name}
use Rattle.tj_base.specs.declared.cause.Cause.{Cause}
use Rattle.tj_base.specs.declared.cause.Cause.TheVariants as cause
use Rattle.tj_body.specs.Names.{has}
use Rattle.tj_mean.specs.declared.outcome.Ending.{Ending}
use Rattle.tj_mean.specs.declared.outcome.Ending.TheVariants as ending
use Rattle.tj_mean.specs.declared.outcome.Link.{Link}
use Rattle.tj_syntax.specs.PlacesOf.{PlacesOfTask}
use Rattle.tj_trace.specs.Lookups.{ask_spot_of}
use Rattle.tj_trace.specs.declared.line.TraceLine.{TraceLine}
use Rattle.tj_findings.specs.Echoes.{back, breaker, echoed_by, most_doublings}
use Rattle.tj_findings.specs.Findings.{behind, echo, failed, owed, told_cycle}
use Rattle.tj_findings.specs.Onward.{onward}
use Rattle.tj_findings.specs.Searches.{owner_of}
use Rattle.tj_findings.specs.declared.finding.Finding.{Finding}
use Rattle.tj_findings.specs.declared.finding.Finding.TheVariants as finding
use Rattle.tj_findings.specs.declared.forest.Forest as code
use Rattle.tj_findings.specs.declared.forest.Tree as code_tree

-- a cause with what follows from it
pub record Tree : Type 0 where
  pub root : Finding
  pub below : List Finding

-- the causes, and what follows from none of them; of a run there is no such finding
pub record Forest : Type 0 where
  pub trees : List Tree
  pub strays : List Finding

-- the findings of a tree, from the root on
abbrev pub findings_of_tree : Tree → List Finding
findings_of_tree t = t.root ∷ t.below

-- the findings of a forest, in the order in which they are told
abbrev pub findings_in : Forest → List Finding
findings_in f = flat_map findings_of_tree f.trees ++ f.strays

-- the same of what the code holds
abbrev pub view_tree : code_tree.Tree → Tree
view_tree t = record { root = t.root; below = t.below.items }

-- the same of a forest
abbrev pub view_forest : code.Forest → Forest
view_forest f = record { trees = map view_tree f.trees.items; strays = f.strays.items }

-- the names by which a cause is known: a cycle by each of its tasks, a failure by its task, a promise by its own
abbrev pub names_of_cause : Finding → List Name
names_of_cause (finding.Cycle waits) = map (λ w. w.task.name) waits
names_of_cause (finding.Behind w) = []
names_of_cause (finding.Failed t c m) = t.name ∷ []
names_of_cause (finding.Owed q t) = q.name ∷ []
names_of_cause (finding.Echo t q o) = []

-- the number of the first of these causes that is known by this name, where the first of them has number n
abbrev pub cause_from : ℕ → List Finding → Name → Option ℕ
cause_from n fs x = position_from (λ f. has x (names_of_cause f)) n fs

-- one finding more below the cause with this number, behind those that stand there
abbrev pub put_below : ℕ → Finding → List Tree → List Tree
put_below n f [] = []
put_below zero f (t ∷ ts) = (record { root = t.root; below = t.below ++ f ∷ [] }) ∷ ts
put_below (suc n) f (t ∷ ts) = t ∷ put_below n f ts

-- one finding more: below its cause, or among the strays where it has none
abbrev pub put : Option ℕ → Finding → Forest → Forest
put None f forest = record { trees = forest.trees; strays = forest.strays ++ f ∷ [] }
put (Some n) f forest = record { trees = put_below n f forest.trees; strays = forest.strays }

-- these findings more, all of which have this cause
abbrev pub put_each : Option ℕ → List Finding → Forest → Forest
put_each n fs forest = fold (λ forest f. put n f forest) forest fs

-- one finding more, where a cause among these is looked up by its name
abbrev pub put_named : List Finding → Forest → Option Name × Finding → Forest
put_named fs forest k = put (option_and_then (cause_from 0 fs) k.0) k.1 forest

-- these findings more, one after the other
abbrev pub put_all : List Finding → Forest → List (Option Name × Finding) → Forest
put_all fs forest ks = fold (put_named fs) forest ks

-- the findings with ranks below n by their ranks, and those of one rank as they stood
abbrev pub in_ranks : ℕ → List (ℕ × Finding) → List Finding
in_ranks n fs = flat_map (λ i. map (λ f. f.1) (filter (λ f. nat_eq f.0 i) fs)) (range_with_len 0 n)

-- the cell for which a task waits that stopped so
abbrev pub awaited : Ending → Option Name
awaited (ending.Done v) = None
awaited (ending.Failed c) = None
awaited (ending.Waits q) = Some q

-- the promise for which another task's right was wanted
abbrev pub not_owned : Ending → Option Name
not_owned (ending.Done v) = None
not_owned (ending.Failed cause.Arith) = None
not_owned (ending.Failed cause.Kind) = None
not_owned (ending.Failed cause.Steps) = None
not_owned (ending.Failed (cause.Owner q)) = Some q
not_owned (ending.Failed (cause.Broken q)) = None
not_owned (ending.Failed (cause.Order q)) = None
not_owned (ending.Waits q) = None

-- the number of the first of these cycles in which a task waits for this cell, where the first of them has number n
abbrev pub awaited_from : ℕ → List (List Link) → Name → Option ℕ
awaited_from n cycles q = position_from (λ links. has q (map (λ k. k.cell) links)) n cycles

-- the findings with these ranks: the first has rank n, and each further one the next
abbrev pub ranked_from : ℕ → List Finding → List (ℕ × Finding)
ranked_from n [] = []
ranked_from n (f ∷ fs) = (n, f) ∷ ranked_from (suc n) fs

-- the number is handed on where the line with it is of an echo
abbrev pub IsEchoOnly : List TraceLine → Option ℕ → Option ℕ → Type 0
IsEchoOnly lines None r = r ≡ None
IsEchoOnly lines (Some n) r = (l : TraceLine) → slice_get lines n ≡ Some l
    → r ≡ cond (is_some (echoed_by l.line.ending)) (Some n) None

-- findings with the name of their cause
abbrev pub follow : Option Name → List Finding → List (Option Name × Finding)
follow x fs = map (λ f. (x, f)) fs

-- a cause with nothing below it
abbrev pub bare : Finding → Tree
bare f = record { root = f; below = [] }

-- the name of what a chain began by whose first cell is q, which this task broke: its failure, or its promise q
abbrev pub begun_with : Name → TraceLine → Ending → Name
begun_with q l (ending.Done v) = q
begun_with q l (ending.Failed c) = l.line.name
begun_with q l (ending.Waits p) = q

module _ (lines : List TraceLine) where
  -- the line of the task that owns the cell for which the one with this line waits
  abbrev pub ahead : TraceLine → Option TraceLine
  ahead l = option_and_then (owner_of lines) (awaited l.line.ending)

  -- the line of the task on a cycle to which waits lead from this one
  abbrev pub led_to : TraceLine → TraceLine
  led_to l = onward ahead most_doublings l

  -- the line of the task from whose end this failure came, if that one failed by an echo, too
  abbrev pub echo_before : TraceLine → Option TraceLine
  echo_before l = option_and_then (λ m. cond (is_some (echoed_by m.line.ending)) (Some m) None) (back lines l)

  -- the line of the first echo of the chain on which this one stands
  abbrev pub first_echo : TraceLine → TraceLine
  first_echo l = onward echo_before most_doublings l

  -- the same where a task broke the cell
  abbrev pub begun_at : Name → Option Name
  begun_at q = option_map (λ l. begun_with q l l.line.ending) (breaker lines q)

  -- the name of the cause by which the chain of the echo with this line began
  abbrev pub begun_by : TraceLine → Option Name
  begun_by l = option_and_then begun_at (echoed_by (first_echo l).line.ending)

  -- what a task owed that failed and echoes none follows from its failure
  abbrev pub after_failure : TraceLine → List (Option Name × Finding)
  after_failure l = cond (is_some (echoed_by l.line.ending)) [] (follow (Some l.line.name) (owed lines false l))

  -- an echo, and what its task owed, follow from that by which its chain began
  abbrev pub after_chain : TraceLine → List (Option Name × Finding)
  after_chain l = cond (is_some (echoed_by l.line.ending))
      (follow (begun_by l) (echo lines l ++ owed lines false l)) []

module _ (lines : List TraceLine) (cycles : List (List Link)) where
  -- a wait behind a cycle follows from that to which it leads
  abbrev pub after_cycle : TraceLine → List (Option Name × Finding)
  after_cycle l = follow (Some (led_to lines l).line.name) (behind lines cycles l)

  -- what follows from causes, in the order in which it is told: what failed tasks owed, and then waits and echoes
  abbrev pub consequences : List (Option Name × Finding)
  consequences = flat_map (after_failure lines) lines ++ flat_map (λ l. after_cycle l ++ after_chain lines l) lines

-- the promise that a task had no right to set: only a statement without an ask sets one
abbrev pub refused : List PlacesOfTask → TraceLine → Option Name
refused places l = cond (is_some (ask_spot_of (slice_get places l.decl) l.at)) None (not_owned l.line.ending)

-- where a failure stands among the cycles: before the first in which a task waits for what it couldn't set, or behind
abbrev pub rank : List PlacesOfTask → List (List Link) → TraceLine → ℕ
rank places cycles l = unwrap_or (option_and_then (awaited_from 0 cycles) (refused places l)) (length cycles)

module _ (places : List PlacesOfTask) (lines : List TraceLine) (cycles : List (List Link)) where
  -- the causes with their ranks: failures that are no echo, cycles, and what tasks owed that ended
  abbrev pub ranked_causes : List (ℕ × Finding)
  ranked_causes = flat_map (λ l. map (λ f. (rank places cycles l, f)) (failed lines l)) lines
      ++ ranked_from 0 (map (told_cycle lines) cycles)
      ++ map (λ f. (length cycles, f)) (flat_map (owed lines true) lines)

  -- the causes in the order in which they are told
  abbrev pub causes : List Finding
  causes = in_ranks (suc (length cycles)) ranked_causes

  -- the forest: each consequence is put below the cause that is known by its name
  abbrev pub forest_of : Forest
  forest_of = put_all causes (record { trees = map bare causes; strays = [] }) (consequences lines cycles)
