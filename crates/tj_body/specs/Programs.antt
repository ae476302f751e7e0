-- Programs.
use Rattle.std.specs.Prelude.{ℕ, Bool, true, []}
use Rattle.tj_body.specs.Asks.{Await, Obeys}
use Rattle.tj_body.specs.declared.ask.Answer.{Answer}
use Rattle.tj_body.specs.declared.ask.Ask.{Ask}
use Rattle.tj_body.specs.declared.point.Task.{Task}

-- What the tasks of a program go by: whether a task joins only those that it is before, and of a body its places, what
-- it awaits, at least how many asks it has left, what it asks for an answer, and what it is then.
pub record Rules (B : Type 0) : Type 0 where
  pub strict : Bool
  pub places : B → ℕ
  pub awaits : B → Await
  pub left : B → ℕ
  pub asks : B → Answer → Ask B
  pub then : B → Answer → B

-- a program: what its tasks go by, and the body of its root
-- its root is a body and no task: the root is passed and handed nothing
pub record Program (B : Type 0) : Type 0 where
  pub rules : Rules B
  pub root : B

module _ {B : Type 0} where
  -- each ask obeys the laws of one ask
  abbrev pub AreLawful : Rules B → Type 0
  AreLawful rules =
      (b : B) (a : Answer) → Obeys rules.places rules.awaits rules.left rules.asks rules.then b a

  -- the same program under the strict rule
  abbrev pub strictly : Program B → Program B
  strictly program = record { rules = record program.rules { strict = true }; root = program.root }

  -- the root task, whose name is the empty list, is passed and handed nothing
  abbrev pub root_task : B → Task B
  root_task b = record { name = []; body = b; passed = []; handed = [] }

  module _ (places : B → ℕ) (awaits : B → Await) (left : B → ℕ) (asks : B → Answer → Ask B)
      (then : B → Answer → B) (strict : Bool) where
    -- what tasks with such bodies go by
    abbrev pub rules_of : Rules B
    rules_of =
        record { strict = strict; places = places; awaits = awaits; left = left; asks = asks; then = then }

    -- the program of a root with such a body
    abbrev pub program_of : B → Program B
    program_of root = record { rules = rules_of; root = root }
