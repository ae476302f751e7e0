-- What a task asks, as its body gives it: each ask is tested, and for one that breaks a law the task fails.
use Rattle.std.specs.Prelude.{ℕ, suc, min, Bool, true, false, nat_lt, nat_le, ◌&&◌, ◌||◌, cond, List, [], length}
use Rattle.std.specs.Prelude.{Option, Some, None}
use Rattle.tj_base.specs.declared.cause.Trouble.{Trouble}
use Rattle.tj_base.specs.declared.cause.Trouble.TheVariants as trouble
use Rattle.tj_body.specs.Asks.{Await, begin, place, done, cell, cell_or, nothing, most_passed, most_left}
use Rattle.tj_body.specs.Table.{are_below, is_paid}
use Rattle.tj_body.specs.declared.ask.Answer.{Answer}
use Rattle.tj_body.specs.declared.ask.Answer.TheVariants as answer
use Rattle.tj_body.specs.declared.ask.Ask.{Ask}
use Rattle.tj_body.specs.declared.ask.Ask.TheVariants as ask
use Rattle.tj_task.specs.declared.body.Asked.{Asked}
use Rattle.tj_task.specs.declared.body.Due.{Due}
use Rattle.tj_task.specs.declared.body.Due.TheVariants as due
use Rattle.tj_task.specs.declared.body.TaskBody.{TaskBody}
use Rattle.tj_task.specs.declared.turn.Told.{Told}
use Rattle.tj_task.specs.declared.turn.Told.TheVariants as told
use Rattle.tj_task.specs.declared.turn.Turn.{Turn}
use Rattle.tj_task.specs.declared.turn.Turn.TheVariants as turn

-- what is awaited where this is due
abbrev pub due_await : Due → Await
due_await due.Start = begin
due_await due.Promise = place
due_await due.Child = place
due_await due.Done = done
due_await due.Value = cell
due_await due.ValueOr = cell_or
due_await due.Nothing = nothing

-- what the task is told of a place that it has made
abbrev pub made : Due → ℕ → Told
made due.Child k = told.Forked (record { place = k })
made d k = told.Made (record { place = k })

-- what it is told of an answer, where this was due
abbrev pub told_of : Due → Answer → Told
told_of d answer.Start = told.Start
told_of d (answer.Local k) = made d k
told_of d answer.Done = told.Done
told_of d (answer.Num i) = told.Num i
told_of d (answer.RefAt k) = told.Ref k
told_of d answer.Lost = told.Lost

-- whether a fork of a task with n places can pass and hand these
abbrev pub can_fork : ℕ → List ℕ → List ℕ → Bool
can_fork n pass hand = are_below n pass && are_below n hand && nat_le (length pass) most_passed

module _ {T : Type 0} where
  -- the body of a task that has asked nothing yet, and has so many places
  abbrev pub fresh_body : (most : ℕ) → (places : ℕ) → T → TaskBody T
  fresh_body most places t =
      record { task = Some t; places = places; left = min most most_left; most = most; due = due.Start }

  -- the ask that a turn says, where each task that it forks may ask so often before its last ask
  abbrev pub ask_of : (most : ℕ) → Turn T → Ask (TaskBody T)
  ask_of most (turn.New t) = ask.New
  ask_of most (turn.Fork c t) = ask.Fork (fresh_body most 1 c) [] []
  ask_of most (turn.ForkWith c pass hand t) = ask.Fork (fresh_body most (suc (length pass)) c) pass hand
  ask_of most (turn.Set p v t) = ask.Set p.place v
  ask_of most (turn.Get p t) = ask.Get p.place
  ask_of most (turn.Join c t) = ask.Join c.place
  ask_of most (turn.GetOr p t) = ask.GetOr p.place
  ask_of most (turn.JoinOr c t) = ask.JoinOr c.place
  ask_of most (turn.Emit i t) = ask.Emit i
  ask_of most (turn.End v) = ask.End v
  ask_of most (turn.Fail x) = ask.Fail x

  -- the task from then on, if it goes on
  abbrev pub then_of : Turn T → Option T
  then_of (turn.New t) = Some t
  then_of (turn.Fork c t) = Some t
  then_of (turn.ForkWith c pass hand t) = Some t
  then_of (turn.Set p v t) = Some t
  then_of (turn.Get p t) = Some t
  then_of (turn.Join c t) = Some t
  then_of (turn.GetOr p t) = Some t
  then_of (turn.JoinOr c t) = Some t
  then_of (turn.Emit i t) = Some t
  then_of (turn.End v) = None
  then_of (turn.Fail x) = None

  -- what is due after the ask
  abbrev pub due_of : Turn T → Due
  due_of (turn.New t) = due.Promise
  due_of (turn.Fork c t) = due.Child
  due_of (turn.ForkWith c pass hand t) = due.Child
  due_of (turn.Set p v t) = due.Done
  due_of (turn.Get p t) = due.Value
  due_of (turn.Join c t) = due.Value
  due_of (turn.GetOr p t) = due.ValueOr
  due_of (turn.JoinOr c t) = due.ValueOr
  due_of (turn.Emit i t) = due.Done
  due_of (turn.End v) = due.Nothing
  due_of (turn.Fail x) = due.Nothing

  -- whether the ask is the task's last one
  abbrev pub is_last : Turn T → Bool
  is_last (turn.End v) = true
  is_last (turn.Fail x) = true
  is_last t = false

  -- whether a task with n places has each place of the ask, and passes few enough of them
  abbrev pub is_placed : ℕ → Turn T → Bool
  is_placed n (turn.New t) = true
  is_placed n (turn.Fork c t) = true
  is_placed n (turn.ForkWith c pass hand t) = can_fork n pass hand
  is_placed n (turn.Set p v t) = nat_lt p.place n && is_paid n v
  is_placed n (turn.Get p t) = nat_lt p.place n
  is_placed n (turn.Join c t) = nat_lt c.place n
  is_placed n (turn.GetOr p t) = nat_lt p.place n
  is_placed n (turn.JoinOr c t) = nat_lt c.place n
  is_placed n (turn.Emit i t) = true
  is_placed n (turn.End v) = is_paid n v
  is_placed n (turn.Fail x) = true

  -- what a fork passes
  abbrev pub passed : Turn T → List ℕ
  passed (turn.ForkWith c pass hand t) = pass
  passed x = []

  -- the turn as it says
  abbrev pub given : (most : ℕ) → Turn T → Asked T
  given most x = record { ask = ask_of most x; then = then_of x; due = due_of x }

  -- the task fails
  abbrev pub fails : Trouble → Asked T
  fails t = record { ask = ask.Fail t; then = None; due = due.Nothing }

  -- what a task with n places asks that may ask so often before its last ask: more often breaks its bound, and another
  -- place is a fault of kind
  abbrev pub asked_within : (left : ℕ) → (n : ℕ) → (most : ℕ) → Turn T → Asked T
  asked_within left n most x = cond (is_last x || nat_lt 0 left)
      (cond (is_placed n x) (given most x) (fails trouble.Kind)) (fails trouble.Steps)
