-- What went wrong with a run, as it is told: a text for each group of findings that are alike. What the text names of
-- a group is the same in all of them.
use Rattle.std.specs.Prelude.{ℕ, zero, suc, Bool, ◌||◌, ◌+◌, ◌-◌, nat_eq, nat_le, cond, List, [], ◌∷◌}
use Rattle.std.specs.Prelude.{◌++◌, codes, decimal, length, map, slice_get, Option, Some, None}
use Rattle.std.specs.List.{flat_map, list_all}
use Rattle.std.specs.Option.{option_map}
use Rattle.tj_base.specs.ForkOrder.{Name}
use Rattle.tj_base.specs.Texts.{name_text}
use Rattle.tj_base.specs.declared.cause.Cause.{Cause}
use Rattle.tj_base.specs.declared.cause.Cause.TheVariants as cause
use Rattle.tj_body.specs.Names.{same}
use Rattle.tj_mean.specs.Outcomes.{is_marked}
use Rattle.tj_mean.specs.declared.outcome.Outcome.{Outcome}
use Rattle.tj_mean.specs.ReportTexts.{cause_text, line_feed}
use Rattle.tj_trace.specs.declared.line.Maker.{Maker}
use Rattle.tj_trace.specs.declared.line.TraceLine.{TraceLine}
use Rattle.tj_faults.specs.Carets.{caret_in}
use Rattle.tj_findings.specs.Forests.{Forest, forest_of}
use Rattle.tj_findings.specs.Groups.{Group, cell_named, cell_told, cells_told, groups, leaf_groups, maker_told}
use Rattle.tj_findings.specs.Groups.{origin_told, same_maker, same_name, same_stand, tasks_told, waits_at}
use Rattle.tj_findings.specs.PartTexts.{by_stop, cause_word, is_promise, made_text, owner_text, promise_text}
use Rattle.tj_findings.specs.PartTexts.{stopped_word, where_agreed}
use Rattle.tj_findings.specs.ReasonTexts.{all_reasons}
use Rattle.tj_findings.specs.Scenes.{Told, label, name_of, spot_text, stop_text, task_at, told_spot}
use Rattle.tj_findings.specs.declared.finding.Finding.{Finding}
use Rattle.tj_findings.specs.declared.finding.Finding.TheVariants as finding
use Rattle.tj_findings.specs.declared.finding.Stop.{Stop}
use Rattle.tj_findings.specs.declared.finding.ToldCell.{ToldCell}
use Rattle.tj_findings.specs.declared.finding.ToldTask.{ToldTask}
use Rattle.tj_findings.specs.declared.finding.Wait.{Wait}
use Rattle.tj_findings.specs.Went.{same_went}
use Rattle.tj_texts.specs.WentTexts.{alike_went, each_text, went_text}

-- so many tasks
abbrev pub tasks_text : ℕ → List ℕ
tasks_text n = cond (nat_eq n 1) (codes "1 task") (decimal n ++ codes " tasks")

-- where the text speaks of one, or of several
abbrev pub one_or : ℕ → List ℕ → List ℕ → List ℕ
one_or n one several = cond (nat_eq n 1) one several

-- the first two of several names, and how many more there are
abbrev pub many_names : Name → Name → ℕ → List ℕ
many_names x y n = (name_text x ++ codes ", " ++ name_text y) ++ codes " and " ++ decimal n ++ codes " more"

-- names: each of two, and else the first two and how many more there are
abbrev pub first_names : List Name → List ℕ
first_names [] = []
first_names (x ∷ []) = name_text x
first_names (x ∷ y ∷ []) = name_text x ++ codes " and " ++ name_text y
first_names (x ∷ y ∷ z ∷ more) = many_names x y (suc (length more))

-- where a task was forked, behind its declaration
abbrev pub fork_text : Told → Option Maker → List ℕ
fork_text s None = []
fork_text s (Some m) = codes " (forked at " ++ spot_text s m.decl m.at ++ codes ")"

-- several tasks of the declaration of the first: their names, and their fork where all have one
abbrev pub crowd : Told → ToldTask → List ToldTask → List ℕ
crowd s t ts = first_names (map (λ u. u.name) ts) ++ codes " of task " ++ name_of (slice_get s.script t.decl)
    ++ where_agreed (list_all (λ u. same_maker t.fork u.fork) ts) (fork_text s t.fork)

-- the tasks: one with its declaration and fork, or several
abbrev pub tasks_named : Told → List ToldTask → List ℕ
tasks_named s [] = []
tasks_named s (t ∷ []) = label s t
tasks_named s (t ∷ u ∷ more) = crowd s t (t ∷ u ∷ more)

-- the promise for which the tasks wait, and its owner: the name, the statement and the owner where all have them
abbrev pub promises_text : Told → Wait → List Wait → List ℕ
promises_text s w ws =
    cond (list_all (λ v. same w.cell.name v.cell.name) ws) (codes "the promise " ++ name_text w.cell.name)
    (codes "promises")
    ++ where_agreed (list_all (λ v. same_maker w.cell.maker v.cell.maker) ws) (made_text s w.cell.maker)
    ++ where_agreed (list_all (λ v. same_name w.owner v.owner) ws) (owner_text w.owner)

-- the task for which the tasks wait
abbrev pub joined_text : Wait → List Wait → List ℕ
joined_text w ws = cond (list_all (λ v. same w.cell.name v.cell.name) ws) (codes "the task " ++ name_text w.cell.name)
    (codes "tasks")

-- what the tasks wait for at a statement: a promise, or a task
abbrev pub cell_text : Told → Wait → List Wait → List ℕ
cell_text s w ws = cond (is_promise w.cell.maker) (promises_text s w ws) (joined_text w ws)

-- a line for waits at one statement, of which this is the first
abbrev pub wait_text : Told → Wait → List Wait → List ℕ
wait_text s w ws = tasks_named s (map (λ v. v.task) ws) ++ one_or (length ws) (codes " waits at ") (codes " wait at ")
    ++ stop_text s w.task ++ codes " for " ++ cell_text s w ws ++ line_feed

-- the same for waits, if there are any
abbrev pub wait_line : Told → List Wait → List ℕ
wait_line s [] = []
wait_line s (w ∷ ws) = wait_text s w (w ∷ ws)

-- the source line where a task stopped, with a caret, if such lines are told
abbrev pub source_line : Told → ToldTask → List ℕ
source_line s t = cond s.short [] (caret_in s.lines (told_spot (slice_get s.places t.decl) t.at))

-- the lines for members of cycles with these waits, of which this is the first
abbrev pub member_text : Told → Wait → List Wait → List ℕ
member_text s w ws = codes "  " ++ wait_text s w ws ++ source_line s w.task

-- the same for waits, if there are any
abbrev pub member_lines : Told → List Wait → List ℕ
member_lines s [] = []
member_lines s (w ∷ ws) = member_text s w (w ∷ ws)

-- the lines for the members with this number of cycles
abbrev pub member : Told → List Finding → ℕ → List ℕ
member s fs n = member_lines s (waits_at n fs)

-- lines for so many members, from this number on
abbrev pub members_from : Told → List Finding → ℕ → ℕ → List ℕ
members_from s fs n zero = []
members_from s fs n (suc k) = member s fs n ++ members_from s fs (n + 1) k

-- the most members that a cycle has which is told whole
abbrev pub most_members : ℕ
most_members = 20

-- how many members of one that isn't are told at each of its ends
abbrev pub end_members : ℕ
end_members = 10

-- a line for the members that are left out
abbrev pub left_out : ℕ → List ℕ
left_out n = codes "  .. " ++ decimal n ++ codes " more ..\n"

-- the members at the two ends of long cycles of so many
abbrev pub ends : Told → List Finding → ℕ → List ℕ
ends s fs n = members_from s fs 0 end_members ++ left_out (n - most_members)
    ++ members_from s fs (n - end_members) end_members

-- the members of cycles of so many: all of them, or of long ones those at their two ends
abbrev pub members : Told → Bool → List Finding → ℕ → List ℕ
members s all fs n = cond (all || nat_le n most_members) (members_from s fs 0 n) (ends s fs n)

-- what each task of a cycle of so many waits for
abbrev pub each_other : ℕ → List ℕ
each_other n = cond (nat_eq n 1) (codes " waits for itself\n") (codes " wait for each other\n")

-- how many cycles there are, if there are several
abbrev pub times : ℕ → List ℕ
times n = one_or n [] (decimal n ++ codes " times ")

-- cycles of so many members: a line that counts them and their tasks, and a line for each member
abbrev pub deadlock : Told → Bool → List Finding → ℕ → List ℕ
deadlock s all fs n =
    codes "deadlock: " ++ times (length fs) ++ tasks_text n ++ each_other n ++ members s all fs n

-- a line for tasks that wait and are in no cycle
abbrev pub behind_line : Told → List Finding → List ℕ
behind_line s fs = codes "behind a deadlock: " ++ wait_line s (waits_at 0 fs)

-- a line for a promise that a task owed
abbrev pub debt_line : Told → ToldCell → ToldTask → List ℕ
debt_line s q t = codes "owed: " ++ promise_text s q ++ codes " was never set: "
    ++ task_at s t (codes " owned it and " ++ stopped_word t.stop ++ codes " at ") ++ line_feed

-- who owed several promises: one task, or tasks that stopped at one statement, of which this is the first
abbrev pub owners_text : Told → ToldTask → List ToldTask → List ℕ
owners_text s t ts = cond (list_all (λ u. same t.name u.name) ts)
    (codes ": " ++ task_at s t (codes " owned them and " ++ stopped_word t.stop ++ codes " at "))
    (where_agreed (list_all (same_stand t) ts) (codes ": task " ++ name_of (slice_get s.script t.decl)
    ++ codes " owned each and " ++ stopped_word t.stop ++ codes " at " ++ stop_text s t))

-- several promises that one statement made
abbrev pub debts_text : Told → ToldCell → List Finding → List ℕ
debts_text s q fs = codes "owed: the promises " ++ first_names (cells_told fs) ++ made_text s q.maker

-- that they were never set, and who owed them
abbrev pub never_set : Told → ToldTask → List Finding → List ℕ
never_set s t fs = codes " were never set" ++ owners_text s t (tasks_told fs) ++ line_feed

-- a line for several promises that one statement made
abbrev pub debts_line : Told → ToldCell → ToldTask → List Finding → List ℕ
debts_line s q t fs = debts_text s q fs ++ never_set s t fs

-- a line for promises that tasks owed, of which this is the first
abbrev pub owed_line : Told → ToldCell → ToldTask → List Finding → List ℕ
owed_line s q t fs = cond (nat_eq (length fs) 1) (debt_line s q t) (debts_line s q t fs)

-- tasks that failed at the statement where this one did
abbrev pub failed_text : Told → ToldTask → List Finding → List ℕ
failed_text s t fs =
    codes "failed: " ++ tasks_named s (tasks_told fs) ++ codes " at " ++ stop_text s t ++ codes ": "

-- the cause of failures: its word, and where they have one cell this cell
abbrev pub cause_of : Cause → List Finding → List ℕ
cause_of c fs = cond (list_all (λ g. same_name (cell_named c) (cell_told g)) fs) (cause_text c) (cause_word c)

-- where the cell was made that the causes name, if the same statement made all of them
abbrev pub all_made : Told → Option Maker → List Finding → List ℕ
all_made s m fs =
    where_agreed (list_all (λ g. same_maker m (maker_told g)) fs) (made_text s m)

-- where the promises went for which the tasks failed, if each task handed its own on, or each was set by another, at
-- the same statement, or others owned them
abbrev pub each_went : Told → ToldTask → List ToldTask → List ℕ
each_went s t ts = where_agreed (list_all (λ u. alike_went t.went u.went) ts) (each_text s t.decl t.went)

-- where the promises went for which the tasks failed, if they went the same way, or alike
abbrev pub all_went : Told → ToldTask → List ToldTask → List ℕ
all_went s t ts =
    cond (list_all (λ u. same_went t.went u.went) ts) (went_text s t.decl t.went) (each_went s t ts)

-- where the cells were made that the causes name, and where they went
abbrev pub about_text : Told → ToldTask → Option Maker → List Finding → List ℕ
about_text s t m fs = all_made s m fs ++ all_went s t (tasks_told fs)

-- the cause of failures, and why they came about
abbrev pub why_failed : Told → ToldTask → Cause → List Finding → List ℕ
why_failed s t c fs = cause_of c fs ++ all_reasons s t c (tasks_told fs)

-- a line for failures that are no echoes, and the source line
abbrev pub failed_line : Told → ToldTask → Cause → Option Maker → List Finding → List ℕ
failed_line s t c m fs =
    failed_text s t fs ++ why_failed s t c fs ++ about_text s t m fs ++ line_feed ++ source_line s t

-- what the task did from whose end a failure came: it failed, or it ended and owed promises
abbrev pub end_word : Stop → List ℕ
end_word how = by_stop how (codes ", which ended owing at ") (codes ", which failed at ") (codes ", which waits at ")

-- the task from whose end a failure came
abbrev pub origin_text : Told → Option ToldTask → List ℕ
origin_text s None = []
origin_text s (Some t) = codes ", at first from " ++ name_text t.name ++ end_word t.stop ++ stop_text s t

-- where echoes began, if they began with one task
abbrev pub origins_text : Told → Option ToldTask → List Finding → List ℕ
origins_text s o fs =
    where_agreed (list_all (λ g. same_name (option_map (λ t. t.name) o) (origin_told g)) fs) (origin_text s o)

-- a line for failures that are echoes
abbrev pub echo_line : Told → ToldTask → ToldCell → Option ToldTask → List Finding → List ℕ
echo_line s t q o fs = failed_text s t fs ++ cause_of (cause.Broken q.name) fs ++ all_made s q.maker fs
    ++ origins_text s o fs ++ line_feed

-- what is told of findings that are alike, of which this is the first
abbrev pub alike_text : Told → Bool → Finding → List Finding → List ℕ
alike_text s all (finding.Cycle waits) fs = deadlock s all fs (length waits)
alike_text s all (finding.Behind w) fs = behind_line s fs
alike_text s all (finding.Failed t c m) fs = failed_line s t c m fs
alike_text s all (finding.Owed q t) fs = owed_line s q t fs
alike_text s all (finding.Echo t q o) fs = echo_line s t q o fs

-- what is told of findings that are alike, if there are any
abbrev pub members_text : Told → Bool → List Finding → List ℕ
members_text s all [] = []
members_text s all (f ∷ fs) = alike_text s all f (f ∷ fs)

-- what is told of consequences that are alike: one level below their cause
abbrev pub below_text : Told → Bool → Group → List ℕ
below_text s all g = codes "  " ++ members_text s all g.members

-- what is told of causes that are alike, and below them of what follows from them
abbrev pub group_text : Told → Bool → Group → List ℕ
group_text s all g = members_text s all g.members ++ flat_map (below_text s all) (leaf_groups all g.below)

-- what is told of a forest of findings
abbrev pub forest_text : Told → Bool → Forest → List ℕ
forest_text s all f = flat_map (group_text s all) (groups all f.trees)
    ++ flat_map (λ g. members_text s all (g ∷ [])) f.strays

-- nothing went wrong with so many tasks
abbrev pub fine_text : ℕ → List ℕ
fine_text n = codes "nothing is wrong: " ++ tasks_text n ++ codes " ended, each promise was set\n"

-- what is told of an outcome: the forest of its findings, or that nothing went wrong
abbrev pub told_text : Told → List TraceLine → Outcome → Bool → List ℕ
told_text s lines o all =
    cond (is_marked o) (forest_text s all (forest_of s.places lines o.cycles)) (fine_text (length lines))
