-- The root of a program is a task as forks make them, and what follows from this and from the laws of one ask.
use Rattle.std.proofs.Common.{ℕ, false, arith}
use Rattle.tj_body.specs.Asks.{Await, IsFresh}
use Rattle.tj_body.specs.Programs.{Program, AreLawful, root_task, rules_of, program_of}
use Rattle.tj_body.specs.Points.{IsProper}
use Rattle.tj_body.specs.Laws.{HoldsOfPrograms}
use Rattle.tj_body.specs.declared.ask.Answer.{Answer}
use Rattle.tj_body.specs.declared.ask.Ask.{Ask}

pub root_proper : {B : Type 0} (program : Program B)
    → IsFresh program.rules.places program.rules.awaits program.rules.left 1 program.root
    → IsProper program.rules (root_task program.root)
root_proper program fresh = record { fresh = fresh; few = omega arith }

-- a law of lawful programs with such a root holds of programs with lawful bodies
pub of_lawful : {B : Type 0} (places : B → ℕ) (awaits : B → Await) (left : B → ℕ) (asks : B → Answer → Ask B)
    (then : B → Answer → B) → AreLawful (rules_of places awaits left asks then false)
    → (Law : Program B → Type 0)
    → ((program : Program B) → AreLawful program.rules → IsProper program.rules (root_task program.root) → Law program)
    → HoldsOfPrograms places awaits left asks then Law
of_lawful places awaits left asks then obeys Law law strict root fresh =
    let program = program_of places awaits left asks then strict root in law program obeys (root_proper program fresh)
