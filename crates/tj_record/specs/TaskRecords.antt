-- The record of a task, as those see it who have it.
use Rattle.std.specs.Prelude.{ℕ, ℤ, Bool, true, false, List, [], ◌∷◌, drop, get_or, Option}
use Rattle.tj_base.specs.declared.cell.CellId.{CellId}
use Rattle.tj_base.specs.declared.cell.Sort.TheVariants as sort
use Rattle.tj_body.specs.declared.ask.Answer.{Answer}
use Rattle.tj_record.specs.declared.record.Finish.{Finish}
use Rattle.tj_record.specs.declared.record.Held.{Held}

-- a task between two of its asks: the answer that its body is to be given, or, in a task that waits, the place of the
-- cell; the cells that it holds, itself first, in the order of their places; those that it owns, its result first; how
-- many tasks and promises it has made; what it printed; the promises that it still owned when it ended; how it ended;
-- and whether a broken cell is answered by Lost in the wait
pub record TaskRecord (B : Type 0) : Type 0 where
  pub cell : CellId
  pub body : B
  pub answer : Answer
  pub held : List Held
  pub owned : List CellId
  pub made : ℕ
  pub prints : List ℤ
  pub owed : List CellId
  pub finish : Option Finish
  pub spare : Bool

-- a task among the cells that it holds
abbrev pub own : CellId → Held
own c = record { cell = c; sort = sort.Task }

-- the held cell at the place
abbrev pub held_at : List Held → ℕ → Held
held_at held k = get_or held k (record { cell = record { 0 = 0 }; sort = sort.Task })

-- what task c owns that has these promises, by whether it has ended
abbrev pub owned_by : CellId → List CellId → Bool → List CellId
owned_by c promises false = c ∷ promises
owned_by c promises true = []

-- what a task owes that has these promises, by whether it has ended
abbrev pub owed_by : List CellId → Bool → List CellId
owed_by promises false = []
owed_by promises true = promises

-- the record of a task that has ended: it owns nothing, and owes what it owned beside its result
abbrev pub ended_record : {B : Type 0} → TaskRecord B → TaskRecord B
ended_record r = record r { owned = []; owed = drop 1 r.owned }
