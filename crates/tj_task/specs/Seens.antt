-- What straight code sees of each of its asks, in the list of what its task has been told.
use Rattle.std.specs.Prelude.{ℕ, ℤ, List, slice_get, Option, Some, None}
use Rattle.tj_task.specs.declared.handles.Child.{Child}
use Rattle.tj_task.specs.declared.handles.Promise.{Promise}
use Rattle.tj_task.specs.declared.seen.Seen.{Seen}
use Rattle.tj_task.specs.declared.seen.Seen.TheVariants as seen
use Rattle.tj_task.specs.declared.turn.Told.{Told}
use Rattle.tj_task.specs.declared.turn.Told.TheVariants as told

-- the ask with number k, by what is seen in its answer
abbrev pub seen_of : {V : Type 0} → (Told → Seen V) → Option Told → Seen V
seen_of in_told None = seen.Ask
seen_of in_told (Some w) = in_told w

-- the promise that was made
abbrev pub promise_in : Told → Seen Promise
promise_in (told.Made p) = seen.Told p
promise_in w = seen.Other

-- of ask number k
abbrev pub promise_at : List Told → ℕ → Seen Promise
promise_at log k = seen_of promise_in (slice_get log k)

-- the child that was started
abbrev pub child_in : Told → Seen Child
child_in (told.Forked c) = seen.Told c
child_in w = seen.Other

-- of ask number k
abbrev pub child_at : List Told → ℕ → Seen Child
child_at log k = seen_of child_in (slice_get log k)

-- that it is done
abbrev pub done_in : Told → Seen (Unit {0})
done_in told.Done = seen.Told tt
done_in w = seen.Other

-- of ask number k
abbrev pub done_at : List Told → ℕ → Seen (Unit {0})
done_at log k = seen_of done_in (slice_get log k)

-- the number that was told
abbrev pub num_in : Told → Seen ℤ
num_in (told.Num i) = seen.Told i
num_in w = seen.Other

-- of ask number k
abbrev pub num_at : List Told → ℕ → Seen ℤ
num_at log k = seen_of num_in (slice_get log k)

-- the promise of which was told
abbrev pub promise_told_in : Told → Seen Promise
promise_told_in (told.Ref k) = seen.Told (record { place = k })
promise_told_in w = seen.Other

-- of ask number k
abbrev pub promise_told_at : List Told → ℕ → Seen Promise
promise_told_at log k = seen_of promise_told_in (slice_get log k)

-- the task of which was told
abbrev pub child_told_in : Told → Seen Child
child_told_in (told.Ref k) = seen.Told (record { place = k })
child_told_in w = seen.Other

-- of ask number k
abbrev pub child_told_at : List Told → ℕ → Seen Child
child_told_at log k = seen_of child_told_in (slice_get log k)

-- that a value was told
abbrev pub value_in : Told → Seen (Unit {0})
value_in (told.Num i) = seen.Told tt
value_in (told.Ref k) = seen.Told tt
value_in w = seen.Other

-- of ask number k
abbrev pub value_at : List Told → ℕ → Seen (Unit {0})
value_at log k = seen_of value_in (slice_get log k)

-- the number that was told, and this one where the cell is broken
abbrev pub num_or_in : ℤ → Told → Seen ℤ
num_or_in other (told.Num i) = seen.Told i
num_or_in other told.Lost = seen.Told other
num_or_in other w = seen.Other

-- of ask number k
abbrev pub num_or_at : List Told → ℕ → ℤ → Seen ℤ
num_or_at log k other = seen_of (num_or_in other) (slice_get log k)
