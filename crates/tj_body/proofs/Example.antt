-- Small meanings, computed: they show that the definitions say what was meant.
use Rattle.std.proofs.Common.{◌≡◌, ℕ, suc, Bool, true, false, List, [], ◌∷◌, map, pos, ℤ, Some, refl, arith}
use Rattle.tj_base.specs.ForkOrder.{Name}
use Rattle.tj_base.specs.declared.value.Pay.{Pay}
use Rattle.tj_base.specs.declared.value.Pay.TheVariants as pay
use Rattle.tj_base.specs.declared.cause.Trouble.TheVariants as trouble
use Rattle.tj_base.specs.declared.cause.Cause.{Cause}
use Rattle.tj_base.specs.declared.cause.Cause.TheVariants as cause
use Rattle.tj_body.specs.Asks.{Await, nothing}
use Rattle.tj_body.specs.Programs.{Program, program_of, root_task}
use Rattle.tj_body.specs.History.{to_promise, owned, history}
use Rattle.tj_body.specs.Rounds.{given, tasks, cells, meaning, IsFull}
use Rattle.tj_body.specs.declared.ask.Answer.{Answer}
use Rattle.tj_body.specs.declared.ask.Ask.{Ask}
use Rattle.tj_body.specs.declared.ask.Ask.TheVariants as ask
use Rattle.tj_body.specs.declared.point.Value.TheVariants as value
use Rattle.tj_body.specs.declared.point.Entry.TheVariants as entry
use Rattle.tj_body.specs.declared.point.Close.TheVariants as close
use Rattle.tj_body.specs.declared.point.PointStage.{PointStage}
use Rattle.tj_body.specs.declared.point.PointStage.TheVariants as stage
use Rattle.tj_body.specs.declared.point.Task.{Task}
use Rattle.tj_body.specs.declared.point.Point.{Point}

-- a body is what it has still to ask; it ends with a number or with the reference at a place
data Script : Type 0 where
  stop : Pay → Script
  fault : Script
  new : Script → Script
  set : ℕ → Script → Script
  get : ℕ → Script → Script
  join : ℕ → Script → Script
  get_or : ℕ → Script → Script
  join_or : ℕ → Script → Script
  pass : ℕ → ℕ → Script → Script
  emit : Script → Script
  fork : Script → List ℕ → List ℕ → Script → Script

abbrev asks : Script → Answer → Ask Script
asks (stop v) a = ask.End v
asks fault a = ask.Fail trouble.Arith
asks (new s) a = ask.New
asks (set k s) a = ask.Set k (pay.Num (pos 5))
asks (get k s) a = ask.Get k
asks (join k s) a = ask.Join k
asks (get_or k s) a = ask.GetOr k
asks (join_or k s) a = ask.JoinOr k
asks (pass k j s) a = ask.Set k (pay.Ref j)
asks (emit s) a = ask.Emit (pos 8)
asks (fork b p h s) a = ask.Fork b p h

abbrev then : Script → Answer → Script
then (stop v) a = stop v
then fault a = fault
then (new s) a = s
then (set k s) a = s
then (get k s) a = s
then (join k s) a = s
then (get_or k s) a = s
then (join_or k s) a = s
then (pass k j s) a = s
then (emit s) a = s
then (fork b p h s) a = s

abbrev left : Script → ℕ
left (stop v) = 0
left fault = 0
left (new s) = suc (left s)
left (set k s) = suc (left s)
left (get k s) = suc (left s)
left (join k s) = suc (left s)
left (get_or k s) = suc (left s)
left (join_or k s) = suc (left s)
left (pass k j s) = suc (left s)
left (emit s) = suc (left s)
left (fork b p h s) = suc (left s)

abbrev awaits : Script → Await
awaits s = nothing

abbrev program_for : Bool → Script → Program Script
program_for strict s = program_of left awaits left asks then strict s

abbrev end : Script
end = stop (pay.Num (pos 0))

-- what a report tells of each task: its name, where it stands, and what it owes
abbrev shown : Point Script → Name × PointStage × List Name
shown p = (p.name, p.stage, p.owed)

-- the meaning with limit N, as a report tells it
abbrev outcome : Bool → ℕ → Script → List (Name × PointStage × List Name)
outcome strict N s = map shown (meaning (program_for strict s) N)

-- it ended with 0, or it failed, or it waits for a cell
abbrev ended : PointStage
ended = stage.Closed (close.Done (value.Num (pos 0)))

abbrev failed : Cause → PointStage
failed c = stage.Closed (close.Failed c)

abbrev waits : Name → PointStage
waits q = stage.Waits q false

-- a promise that is made, set and read: two cells, one print, and the promise is passed on as the result
abbrev alone : Script
alone = new (set 1 (get 1 (emit (stop (pay.Ref 1)))))

alone_cells : cells (program_for false alone) 5 ≡ [] ∷ (1 ∷ []) ∷ []
alone_cells = refl

alone_prints : map (λ (p : Point Script). p.prints) (meaning (program_for false alone) 2)
    ≡ (pos 8 ∷ []) ∷ []
alone_prints = refl

alone_ends : outcome false 2 alone ≡ ([], stage.Closed (close.Done (value.Ref (to_promise (1 ∷ [])))), []) ∷ []
alone_ends = refl

-- a promise handed on at a fork is the child's before the child runs, and the parent's no more
abbrev handing : Script
handing = new (fork (set 1 end) (1 ∷ []) (1 ∷ []) (get 1 end))

abbrev handed_to : Task Script → Name × List Name
handed_to t = (t.name, t.handed)

handed_first : map handed_to (tasks (program_for false handing) 1)
    ≡ ([], []) ∷ ((2 ∷ []), (1 ∷ []) ∷ []) ∷ []
handed_first = refl

abbrev parent : Point Script
parent = history (program_for false handing).rules (given (program_for false handing) 0) (root_task handing)

left_behind : owned parent
    ≡ [] ∷ []
left_behind = refl

handed_meaning : outcome false 3 handing ≡ ([], ended, []) ∷ ((2 ∷ []), ended, []) ∷ []
handed_meaning = refl

-- a task that ends breaks what it owns, in name order: here it owns its second promise before its first
abbrev breaking : Script
breaking = new (new (fork (fork end (1 ∷ 2 ∷ []) [] end) (2 ∷ 1 ∷ []) (2 ∷ 1 ∷ []) end))

breaks_in_order : outcome false 4 breaking
    ≡ ([], ended, []) ∷ ((3 ∷ []), ended, (1 ∷ []) ∷ (2 ∷ []) ∷ []) ∷ ((3 ∷ 1 ∷ []), ended, []) ∷ []
breaks_in_order = refl

breaks_entry : given (program_for false breaking) 3 (1 ∷ []) ≡ Some entry.Broken
breaks_entry = refl

-- a set by a task that isn't the owner fails with Owner and the name
owner_alone_sets : outcome false 3 (new (fork (set 1 end) (1 ∷ []) [] end))
    ≡ ([], ended, (1 ∷ []) ∷ []) ∷ ((2 ∷ []), failed (cause.Owner (1 ∷ [])), []) ∷ []
owner_alone_sets = refl

-- a promise that is set once is nobody's, and so isn't set again
set_once : outcome false 2 (new (set 1 (set 1 end))) ≡ ([], failed (cause.Owner (1 ∷ [])), []) ∷ []
set_once = refl

-- what was handed on isn't the parent's to set
given_away : outcome false 3 (new (fork (set 1 (set 1 end)) (1 ∷ []) (1 ∷ []) (set 1 end)))
    ≡ ([], failed (cause.Owner (1 ∷ [])), []) ∷ ((2 ∷ []), failed (cause.Owner (1 ∷ [])), []) ∷ []
given_away = refl

-- a set of a task fails with Kind
set_of_task : outcome false 2 (set 0 end) ≡ ([], failed cause.Kind, []) ∷ []
set_of_task = refl

-- a promise handed twice in one fork fails with Owner: no child is made, and the promise is owed
handed_twice : outcome false 2 (new (fork end (1 ∷ []) (1 ∷ 1 ∷ []) end))
    ≡ ([], failed (cause.Owner (1 ∷ [])), (1 ∷ []) ∷ []) ∷ []
handed_twice = refl

-- the handed places are tested from the left: a task after a promise that isn't owned isn't come to
handed_from_the_left : outcome false 2 (new (set 1 (fork end [] (1 ∷ 0 ∷ []) end)))
    ≡ ([], failed (cause.Owner (1 ∷ [])), []) ∷ []
handed_from_the_left = refl

handing_a_task : outcome false 2 (new (set 1 (fork end [] (0 ∷ 1 ∷ []) end))) ≡ ([], failed cause.Kind, []) ∷ []
handing_a_task = refl

-- a get of a broken promise fails with Broken and the name asked for
abbrev lost : (ℕ → Script → Script) → Script
lost ask_for = new (fork (ask_for 1 end) (1 ∷ []) [] end)

get_of_broken : outcome false 3 (lost get)
    ≡ ([], ended, (1 ∷ []) ∷ []) ∷ ((2 ∷ []), failed (cause.Broken (1 ∷ [])), []) ∷ []
get_of_broken = refl

-- a get-or of a broken promise is answered by Lost, and goes on
get_or_of_broken : outcome false 3 (lost get_or) ≡ ([], ended, (1 ∷ []) ∷ []) ∷ ((2 ∷ []), ended, []) ∷ []
get_or_of_broken = refl

-- a failed task breaks its result and its owed promises too
abbrev failing : (ℕ → Script → Script) → (ℕ → Script → Script) → Script
failing get_it join_it = new (fork fault (1 ∷ []) (1 ∷ []) (get_it 1 (join_it 2 end)))

failed_breaks : outcome false 4 (failing get_or join)
    ≡ ([], failed (cause.Broken (2 ∷ [])), []) ∷ ((2 ∷ []), failed cause.Arith, (1 ∷ []) ∷ []) ∷ []
failed_breaks = refl

failed_breaks_promise : outcome false 4 (failing get join)
    ≡ ([], failed (cause.Broken (1 ∷ [])), []) ∷ ((2 ∷ []), failed cause.Arith, (1 ∷ []) ∷ []) ∷ []
failed_breaks_promise = refl

failed_is_spared : outcome false 4 (failing get_or join_or)
    ≡ ([], ended, []) ∷ ((2 ∷ []), failed cause.Arith, (1 ∷ []) ∷ []) ∷ []
failed_is_spared = refl

-- two tasks join each other: both wait, and under the strict rule the join against the order fails with Order
abbrev crossing : (ℕ → Script → Script) → Script
crossing join_parent = fork (join_parent 1 end) (0 ∷ []) [] (join 1 end)

crossing_waits : outcome false 2 (crossing join) ≡ ([], waits (1 ∷ []), []) ∷ ((1 ∷ []), waits [], []) ∷ []
crossing_waits = refl

crossing_strict : outcome true 2 (crossing join)
    ≡ ([], failed (cause.Broken (1 ∷ [])), []) ∷ ((1 ∷ []), failed (cause.Order []), []) ∷ []
crossing_strict = refl

-- an Order failure isn't answered by a join-or
crossing_strict_or : outcome true 2 (crossing join_or) ≡ outcome true 2 (crossing join)
crossing_strict_or = refl

-- under the strict rule a join of a broken task against the order fails with Order, and not with Broken
abbrev broken_parent : (ℕ → Script → Script) → Script
broken_parent join_parent = fork (join_parent 1 end) (0 ∷ []) [] fault

broken_parent_plain : outcome false 2 (broken_parent join)
    ≡ ([], failed cause.Arith, []) ∷ ((1 ∷ []), failed (cause.Broken []), []) ∷ []
broken_parent_plain = refl

broken_parent_strict : outcome true 2 (broken_parent join)
    ≡ ([], failed cause.Arith, []) ∷ ((1 ∷ []), failed (cause.Order []), []) ∷ []
broken_parent_strict = refl

broken_parent_strict_or : outcome true 2 (broken_parent join_or) ≡ outcome true 2 (broken_parent join)
broken_parent_strict_or = refl

-- a task that is forked later is before the one forked earlier: under the strict rule it may join that one,
-- and not the other way round
abbrev siblings : Script
siblings = new (fork (get 1 (join 2 end)) (1 ∷ []) [] (fork end [] [] (pass 1 3 (fork (join 1 end) (2 ∷ []) [] end))))

siblings_plain : outcome false 5 siblings
    ≡ ([], ended, []) ∷ ((2 ∷ []), ended, []) ∷ ((3 ∷ []), ended, []) ∷ ((4 ∷ []), ended, []) ∷ []
siblings_plain = refl

siblings_strict : outcome true 5 siblings
    ≡ ([], ended, []) ∷ ((2 ∷ []), failed (cause.Order (3 ∷ [])), []) ∷ ((3 ∷ []), ended, []) ∷
    ((4 ∷ []), failed (cause.Broken (2 ∷ [])), []) ∷ []
siblings_strict = refl

-- a task that gets its own promise before it sets it waits for good
waits_for_itself : outcome false 2 (new (get 1 (set 1 end))) ≡ ([], waits (1 ∷ []), []) ∷ []
waits_for_itself = refl

-- a join along the order and a get the other way close a cycle
join_and_get : outcome false 3 (new (fork (get 1 end) (1 ∷ []) [] (join 2 (set 1 end))))
    ≡ ([], waits (2 ∷ []), []) ∷ ((2 ∷ []), waits (1 ∷ []), []) ∷ []
join_and_get = refl

-- two tasks that each hold what the other wants wait for each other
abbrev exchange : Script
exchange = new (new (fork (get 2 (set 1 end)) (1 ∷ 2 ∷ []) (1 ∷ [])
    (fork (get 1 (set 2 end)) (1 ∷ 2 ∷ []) (2 ∷ []) end)))

each_other : outcome false 5 exchange
    ≡ ([], ended, []) ∷ ((3 ∷ []), waits (2 ∷ []), []) ∷ ((4 ∷ []), waits (1 ∷ []), []) ∷ []
each_other = refl

-- tasks that wait own what they owned, and their results
abbrev owns : Point Script → Name × List Name
owns p = (p.name, owned p)

waiting_owns : map owns (meaning (program_for false exchange) 5)
    ≡ ([], []) ∷ ((3 ∷ []), (3 ∷ []) ∷ (1 ∷ []) ∷ []) ∷ ((4 ∷ []), (4 ∷ []) ∷ (2 ∷ []) ∷ []) ∷ []
waiting_owns = refl

-- a promise handed down twice is set by the grandchild
abbrev told_of : Point Script → Name × List ℤ × List Name
told_of p = (p.name, p.prints, p.owed)

abbrev down_twice : Script
down_twice = new (fork (fork (set 1 end) (1 ∷ []) (1 ∷ []) end) (1 ∷ []) (1 ∷ []) (get 1 (emit end)))

set_by_grandchild : map told_of (meaning (program_for false down_twice) 4)
    ≡ ([], pos 8 ∷ [], []) ∷ ((2 ∷ []), [], []) ∷ ((2 ∷ 1 ∷ []), [], []) ∷ []
set_by_grandchild = refl

-- a join of a promise and a get of a task fail with Kind, before anything is asked of the cell
join_of_promise : outcome true 2 (new (join_or 1 end)) ≡ ([], failed cause.Kind, (1 ∷ []) ∷ []) ∷ []
join_of_promise = refl

get_of_task : outcome false 1 (get_or 0 end) ≡ ([], failed cause.Kind, []) ∷ []
get_of_task = refl

-- a task that joins itself waits for its own result, and under the strict rule fails with Order
joins_itself : outcome false 1 (join 0 end) ≡ ([], waits [], []) ∷ []
joins_itself = refl

joins_itself_strict : outcome true 1 (join 0 end) ≡ ([], failed (cause.Order []), []) ∷ []
joins_itself_strict = refl

-- round 0 has no task, and each later one has one fork more of a chain
abbrev name_of : Task Script → Name
name_of t = t.name

abbrev chain : Script
chain = fork (fork (fork end [] [] end) [] [] end) [] [] end

no_task_at_first : tasks (program_for false chain) 0 ≡ []
no_task_at_first = refl

one_fork : map name_of (tasks (program_for false chain) 1) ≡ [] ∷ (1 ∷ []) ∷ []
one_fork = refl

two_forks : map name_of (tasks (program_for false chain) 2) ≡ [] ∷ (1 ∷ []) ∷ (1 ∷ 1 ∷ []) ∷ []
two_forks = refl

-- a promise that is handed and not passed is owed by the child
handed_alone : outcome false 3 (new (fork end [] (1 ∷ []) end))
    ≡ ([], ended, []) ∷ ((2 ∷ []), ended, (1 ∷ []) ∷ []) ∷ []
handed_alone = refl

-- two cells aren't more than two
alone_is_not_full : ¬ IsFull (program_for false alone) 2
alone_is_not_full f = omega arith

-- two cells are more than one
alone_is_full : IsFull (program_for false alone) 1
alone_is_full = omega arith
