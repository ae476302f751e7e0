-- Which findings are told on one line: those of one kind that say the same of tasks that stand at the same statement.
use Rattle.std.specs.Prelude.{ℕ, Bool, true, false, ◌&&◌, nat_eq, cond, List, [], ◌∷◌, ◌++◌, map, Option, Some, None}
use Rattle.std.specs.Prelude.{option_to_list, slice_get}
use Rattle.std.specs.List.{flat_map, fold}
use Rattle.std.specs.Option.{option_map}
use Rattle.tj_base.specs.ForkOrder.{Name}
use Rattle.tj_base.specs.declared.cause.Cause.{Cause}
use Rattle.tj_base.specs.declared.cause.Cause.TheVariants as cause
use Rattle.tj_body.specs.Names.{same}
use Rattle.tj_trace.specs.declared.line.Maker.{Maker}
use Rattle.tj_findings.specs.Forests.{Tree, bare}
use Rattle.tj_findings.specs.declared.finding.Finding.{Finding}
use Rattle.tj_findings.specs.declared.finding.Finding.TheVariants as finding
use Rattle.tj_findings.specs.declared.finding.ToldTask.{ToldTask}
use Rattle.tj_findings.specs.declared.finding.Wait.{Wait}

-- the tasks stopped at the same statement
abbrev pub same_stand : ToldTask → ToldTask → Bool
same_stand t u = nat_eq t.decl u.decl && nat_eq t.at u.at

-- the waits stand at the same statements, one by one
abbrev pub same_stands : List Wait → List Wait → Bool
same_stands [] [] = true
same_stands [] (v ∷ vs) = false
same_stands (w ∷ ws) [] = false
same_stands (w ∷ ws) (v ∷ vs) = same_stand w.task v.task && same_stands ws vs

-- the same statement made both
abbrev pub same_maker : Option Maker → Option Maker → Bool
same_maker None None = true
same_maker None (Some n) = false
same_maker (Some m) None = false
same_maker (Some m) (Some n) = nat_eq m.decl n.decl && nat_eq m.at n.at

-- they are the same name
abbrev pub same_name : Option Name → Option Name → Bool
same_name None None = true
same_name None (Some y) = false
same_name (Some x) None = false
same_name (Some x) (Some y) = same x y

-- the number of a cause's word
abbrev pub word_number : Cause → ℕ
word_number cause.Arith = 0
word_number cause.Kind = 1
word_number cause.Steps = 2
word_number (cause.Owner q) = 3
word_number (cause.Broken q) = 4
word_number (cause.Order q) = 5

-- the findings are of one kind, and their tasks stand at the same statement; of failures the causes have one word, and
-- promises that are owed were made by the same statement
abbrev pub alike : Finding → Finding → Bool
alike (finding.Cycle ws) (finding.Cycle vs) = same_stands ws vs
alike (finding.Behind w) (finding.Behind v) = same_stand w.task v.task
alike (finding.Failed t c m) (finding.Failed u d n) =
    same_stand t u && nat_eq (word_number c) (word_number d)
alike (finding.Owed q t) (finding.Owed p u) = same_maker q.maker p.maker
alike (finding.Echo t q o) (finding.Echo u p r) = same_stand t u
alike f g = false

-- findings that are told on one line, and what follows from them
pub record Group : Type 0 where
  pub members : List Finding
  pub below : List Finding

-- a cause by itself
abbrev pub alone : Tree → Group
alone t = record { members = t.root ∷ []; below = t.below }

-- the finding is like the first of these
abbrev pub belongs : Finding → List Finding → Bool
belongs f [] = false
belongs f (g ∷ gs) = alike g f

-- a group with a cause more, and with what follows from it
abbrev pub with_tree : Tree → Group → Group
with_tree t g = record { members = g.members ++ t.root ∷ []; below = g.below ++ t.below }

-- a cause is put into the first group to which it belongs, and else it begins one
abbrev pub grouped : List Group → Tree → List Group
grouped [] t = alone t ∷ []
grouped (g ∷ gs) t = cond (belongs t.root g.members) (with_tree t g ∷ gs) (g ∷ grouped gs t)

-- the groups of causes; where all is told, each is a group by itself
abbrev pub groups : Bool → List Tree → List Group
groups true ts = map alone ts
groups false ts = fold grouped [] ts

-- the groups of consequences
abbrev pub leaf_groups : Bool → List Finding → List Group
leaf_groups all fs = groups all (map bare fs)

-- the wait of a task of which a finding tells: of a cycle, of its member with this number
abbrev pub wait_at : ℕ → Finding → Option Wait
wait_at n (finding.Cycle waits) = slice_get waits n
wait_at n (finding.Behind w) = Some w
wait_at n (finding.Failed t c m) = None
wait_at n (finding.Owed q t) = None
wait_at n (finding.Echo t q o) = None

-- the waits of such tasks
abbrev pub waits_at : ℕ → List Finding → List Wait
waits_at n fs = flat_map (λ f. option_to_list (wait_at n f)) fs

-- the task that failed, or that owed a promise
abbrev pub task_told : Finding → Option ToldTask
task_told (finding.Cycle waits) = None
task_told (finding.Behind w) = None
task_told (finding.Failed t c m) = Some t
task_told (finding.Owed q t) = Some t
task_told (finding.Echo t q o) = Some t

-- those tasks
abbrev pub tasks_told : List Finding → List ToldTask
tasks_told fs = flat_map (λ f. option_to_list (task_told f)) fs

-- the cell which a cause names
abbrev pub cell_named : Cause → Option Name
cell_named cause.Arith = None
cell_named cause.Kind = None
cell_named cause.Steps = None
cell_named (cause.Owner q) = Some q
cell_named (cause.Broken q) = Some q
cell_named (cause.Order q) = Some q

-- the cell for which a task failed, or that it owed
abbrev pub cell_told : Finding → Option Name
cell_told (finding.Cycle waits) = None
cell_told (finding.Behind w) = None
cell_told (finding.Failed t c m) = cell_named c
cell_told (finding.Owed q t) = Some q.name
cell_told (finding.Echo t q o) = Some q.name

-- those cells
abbrev pub cells_told : List Finding → List Name
cells_told fs = flat_map (λ f. option_to_list (cell_told f)) fs

-- the statement that made that cell
abbrev pub maker_told : Finding → Option Maker
maker_told (finding.Cycle waits) = None
maker_told (finding.Behind w) = None
maker_told (finding.Failed t c m) = m
maker_told (finding.Owed q t) = q.maker
maker_told (finding.Echo t q o) = q.maker

-- the name of the task where an echo began
abbrev pub origin_told : Finding → Option Name
origin_told (finding.Cycle waits) = None
origin_told (finding.Behind w) = None
origin_told (finding.Failed t c m) = None
origin_told (finding.Owed q t) = None
origin_told (finding.Echo t q o) = option_map (λ t. t.name) o
