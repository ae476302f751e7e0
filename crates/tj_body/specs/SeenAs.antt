-- Bodies that are seen as others: what e makes of a body asks and becomes what e makes of its ask and of what it becomes.
use Rattle.std.specs.Prelude.{◌≡◌, ℕ, map}
use Rattle.tj_body.specs.Programs.{Rules, Program}
use Rattle.tj_body.specs.History.{Assignment, history, point_after}
use Rattle.tj_body.specs.Rounds.{given, tasks, entries, cells, meaning}
use Rattle.tj_body.specs.declared.ask.Answer.{Answer}
use Rattle.tj_body.specs.declared.ask.Ask.{Ask}
use Rattle.tj_body.specs.declared.ask.Ask.TheVariants as ask
use Rattle.tj_body.specs.declared.point.Task.{Task}
use Rattle.tj_body.specs.declared.point.Point.{Point}

module _ {B C : Type 0} (e : B → C) where
  -- the ask, with the body of a fork seen so
  abbrev pub ask_as : Ask B → Ask C
  ask_as ask.New = ask.New
  ask_as (ask.Fork b pass hand) = ask.Fork (e b) pass hand
  ask_as (ask.Set k v) = ask.Set k v
  ask_as (ask.Get k) = ask.Get k
  ask_as (ask.Join k) = ask.Join k
  ask_as (ask.GetOr k) = ask.GetOr k
  ask_as (ask.JoinOr k) = ask.JoinOr k
  ask_as (ask.Emit i) = ask.Emit i
  ask_as (ask.End v) = ask.End v
  ask_as (ask.Fail t) = ask.Fail t

  -- the task, with its body seen so
  abbrev pub task_as : Task B → Task C
  task_as t = record { name = t.name; body = e t.body; passed = t.passed; handed = t.handed }

  -- the point, with its body and those of its children seen so
  abbrev pub point_as : Point B → Point C
  point_as p = record {
    name = p.name;
    body = e p.body;
    stage = p.stage;
    references = p.references;
    holds = p.holds;
    made = p.made;
    promises = p.promises;
    children = map task_as p.children;
    writes = p.writes;
    prints = p.prints;
    owed = p.owed;
  }

  -- all that tasks with the first bodies go by is seen so
  pub record AreSeenAs (rules : Rules B) (other : Rules C) : Type 0 where
    pub strict : other.strict ≡ rules.strict
    pub places : (b : B) → other.places (e b) ≡ rules.places b
    pub awaits : (b : B) → other.awaits (e b) ≡ rules.awaits b
    pub left : (b : B) → other.left (e b) ≡ rules.left b
    pub asks : (b : B) (a : Answer) → other.asks (e b) a ≡ ask_as (rules.asks b a)
    pub then : (b : B) (a : Answer) → other.then (e b) a ≡ e (rules.then b a)

  -- the program is seen so
  pub record IsSeenAs (program : Program B) (other : Program C) : Type 0 where
    pub rules : AreSeenAs program.rules other.rules
    pub root : other.root ≡ e program.root

  -- histories of tasks that are seen so, step by step
  abbrev pub HistoriesAreSeen : Rules B → Rules C → Type 0
  HistoriesAreSeen rules other = (V : Assignment) (t : Task B)
      → ((k : ℕ) → point_after other V k (task_as t) ≡ point_as (point_after rules V k t))
      × (history other V (task_as t) ≡ point_as (history rules V t))

  -- the rounds have the same assignment, entries and cells, and tasks that are seen so
  pub record RoundsAreSeen (program : Program B) (other : Program C) (n : ℕ) : Type 0 where
    pub given : given other n ≡ given program n
    pub tasks : tasks other n ≡ map task_as (tasks program n)
    pub entries : entries other n ≡ entries program n
    pub cells : cells other n ≡ cells program n

  -- the meaning is that of the program, seen so
  abbrev pub MeaningIsSeen : Program B → Program C → Type 0
  MeaningIsSeen program other = (N : ℕ) → meaning other N ≡ map point_as (meaning program N)

-- so it is of each two programs of which one is seen as the other
abbrev pub AreSeenAlike : Type 0 → Type 0 → Type 0
AreSeenAlike B C = (e : B → C) → ((rules : Rules B) (other : Rules C) → AreSeenAs e rules other
    → HistoriesAreSeen e rules other)
    × ((program : Program B) (other : Program C) → IsSeenAs e program other
    → ((n : ℕ) → RoundsAreSeen e program other n) × MeaningIsSeen e program other)
