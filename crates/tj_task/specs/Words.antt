-- The words in which straight code is mirrored, a line for each of its lines.
use mir.Syntax.{w64}
use Rattle.std.specs.Int.{int_wrap}
use Rattle.std.specs.Prelude.{ℕ, ℤ, ◌+ℤ◌, ◌-ℤ◌, ◌*ℤ◌, ◌+◌, List}
use Rattle.tj_base.specs.declared.cause.Trouble.TheVariants as trouble
use Rattle.tj_base.specs.declared.value.Pay.{Pay}
use Rattle.tj_base.specs.declared.value.Pay.TheVariants as pay
use Rattle.tj_task.specs.Replays.{step}
use Rattle.tj_task.specs.Seens.{promise_at, child_at, done_at, num_at, num_or_at, value_at}
use Rattle.tj_task.specs.Seens.{promise_told_at, child_told_at}
use Rattle.tj_task.specs.declared.handles.Child.{Child}
use Rattle.tj_task.specs.declared.handles.Promise.{Promise}
use Rattle.tj_task.specs.declared.plan.Do.{Do}
use Rattle.tj_task.specs.declared.plan.Do.TheVariants as does
use Rattle.tj_task.specs.declared.turn.Told.{Told}

-- the sum, by 64 bits
abbrev pub plus : ℤ → ℤ → ℤ
plus x y = int_wrap w64 (x +ℤ y)

-- the difference
abbrev pub minus : ℤ → ℤ → ℤ
minus x y = int_wrap w64 (x -ℤ y)

-- and the product
abbrev pub times : ℤ → ℤ → ℤ
times x y = int_wrap w64 (x *ℤ y)

-- the value that is this number
abbrev pub num : ℤ → Pay
num v = pay.Num v

-- the value that is a reference, with this place
abbrev pub reference : ℕ → Pay
reference k = pay.Ref k

-- the promise that was passed as number k
abbrev pub passed_promise : ℕ → Promise
passed_promise k = record { place = k + 1 }

-- the task that was passed as number k
abbrev pub passed_child : ℕ → Child
passed_child k = record { place = k + 1 }

module _ {T : Type 0} where
  -- ask number k makes a promise, and what comes after it
  abbrev pub news : List Told → ℕ → (Promise → Do T) → Do T
  news log k more = step (promise_at log k) does.New more

  -- ask number k starts a child that is passed nothing, and what comes after it
  abbrev pub forks : List Told → ℕ → T → (Child → Do T) → Do T
  forks log k child more = step (child_at log k) (does.Fork child) more

  -- ask number k starts a child that is passed and handed these places, and what comes after it
  abbrev pub forks_with : List Told → ℕ → T → List ℕ → List ℕ → (Child → Do T) → Do T
  forks_with log k child pass hand more = step (child_at log k) (does.ForkWith child pass hand) more

  -- ask number k waits for a promise's number, and what comes after it
  abbrev pub gets : List Told → ℕ → Promise → (ℤ → Do T) → Do T
  gets log k p more = step (num_at log k) (does.Get p) more

  -- ask number k waits for a task's number, and what comes after it
  abbrev pub joins : List Told → ℕ → Child → (ℤ → Do T) → Do T
  joins log k c more = step (num_at log k) (does.Join c) more

  -- ask number k waits for a promise's number, and has another one where it is broken, and what comes after it
  abbrev pub gets_or : List Told → ℕ → Promise → ℤ → (ℤ → Do T) → Do T
  gets_or log k p v more = step (num_or_at log k v) (does.GetOr p) more

  -- ask number k waits for a task's number, and has another one where it is broken, and what comes after it
  abbrev pub joins_or : List Told → ℕ → Child → ℤ → (ℤ → Do T) → Do T
  joins_or log k c v more = step (num_or_at log k v) (does.JoinOr c) more

  -- ask number k waits for a promise that refers to a promise, and what comes after it
  abbrev pub gets_promise : List Told → ℕ → Promise → (Promise → Do T) → Do T
  gets_promise log k p more = step (promise_told_at log k) (does.Get p) more

  -- ask number k waits for a promise that refers to a task, and what comes after it
  abbrev pub gets_child : List Told → ℕ → Promise → (Child → Do T) → Do T
  gets_child log k p more = step (child_told_at log k) (does.Get p) more

  -- ask number k waits for a task whose result refers to a promise, and what comes after it
  abbrev pub joins_promise : List Told → ℕ → Child → (Promise → Do T) → Do T
  joins_promise log k c more = step (promise_told_at log k) (does.Join c) more

  -- ask number k waits for a task whose result refers to a task, and what comes after it
  abbrev pub joins_child : List Told → ℕ → Child → (Child → Do T) → Do T
  joins_child log k c more = step (child_told_at log k) (does.Join c) more

  -- ask number k waits for a promise, whatever its value is, and what comes after it
  abbrev pub awaits : List Told → ℕ → Promise → Do T → Do T
  awaits log k p more = step (value_at log k) (does.Get p) (λ w. more)

  -- ask number k waits for a task, whatever its result is, and what comes after it
  abbrev pub ends_of : List Told → ℕ → Child → Do T → Do T
  ends_of log k c more = step (value_at log k) (does.Join c) (λ w. more)

  -- ask number k sets a promise, and what comes after it
  abbrev pub sets : List Told → ℕ → Promise → Pay → Do T → Do T
  sets log k p v more = step (done_at log k) (does.Set p v) (λ w. more)

  -- ask number k prints a number, and what comes after it
  abbrev pub prints : List Told → ℕ → ℤ → Do T → Do T
  prints log k v more = step (done_at log k) (does.Emit v) (λ w. more)

  -- the task ends with this value
  abbrev pub ends : Pay → Do T
  ends v = does.End v

  -- it fails
  abbrev pub fails : Do T
  fails = does.Fail trouble.Kind
