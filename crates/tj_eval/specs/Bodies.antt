-- A task of a script as a body: its places, what it awaits, what is left, what it asks and what it is from then on.
use Rattle.std.specs.Prelude.{◌≡◌, ℕ, Bool, nat_lt, nat_le, ◌&&◌, cond, List, [], ◌∷◌, ◌++◌, Some}
use Rattle.std.specs.List.{list_all}
use Rattle.tj_body.specs.declared.ask.Answer.{Answer}
use Rattle.tj_body.specs.declared.ask.Ask.{Ask}
use Rattle.tj_body.specs.Asks as await
use Rattle.tj_body.specs.Asks.{Await, most_left}
use Rattle.tj_body.specs.Table.{is_paid}
use Rattle.tj_syntax.specs.Marks.{most_vars}
use Rattle.tj_syntax.specs.Trees.{Task}
use Rattle.tj_syntax.specs.Faults.{main_of}
use Rattle.tj_eval.specs.Statements.{TaskState, Due, start, place, cell, cell_or, done, over, next, task_of}

-- what sort of answer the task is to be given
abbrev pub await_of : Due → Await
await_of start = await.begin
await_of (place into) = await.place
await_of (cell into) = await.cell
await_of (cell_or into e) = await.cell_or
await_of done = await.done
await_of over = await.nothing

-- the most parameters of a task, which are variables of it
abbrev pub most_params : ℕ
most_params = most_vars

-- the task has no more parameters
abbrev pub has_few_params : Task → Bool
has_few_params d = nat_le d.params most_params

-- no task of the script has too many parameters
abbrev pub all_have_few_params : List Task → Bool
all_have_few_params script = list_all has_few_params script

-- the body of the script's task `main`, each of whose tasks may begin so many statements
abbrev pub IsMainBody : List Task → ℕ → TaskState → Type 0
IsMainBody script steps body = (main : Task) × (main_of script ≡ Some main) × (body ≡ task_of script steps main [])

-- the references that the variables hold are the task's own, its script has few parameters, and it has a limit
abbrev pub is_sound : TaskState → Bool
is_sound t =
    all_have_few_params t.script && nat_le t.limit most_left && nat_lt 0 t.places && list_all (is_paid t.places) t.vars

-- how many references the task has
abbrev pub script_places : TaskState → ℕ
script_places t = t.places

-- what it awaits; one that isn't sound awaits nothing
abbrev pub script_awaits : TaskState → Await
script_awaits t = cond (is_sound t) (await_of t.due) await.nothing

-- at least the number of its asks that are left before its last one
abbrev pub script_left : TaskState → ℕ
script_left t = t.steps

-- what it asks next
abbrev pub script_asks : TaskState → Answer → Ask TaskState
script_asks t a = (next t a).0

-- what it is from then on
abbrev pub script_then : TaskState → Answer → TaskState
script_then t a = (next t a).1

-- the remaining statements of open blocks, the innermost of which is the last
abbrev pub rest_of : {A : Type 0} → List (List A) → List A
rest_of [] = []
rest_of (block ∷ inner) = rest_of inner ++ block
