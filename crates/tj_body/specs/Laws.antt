-- The laws of histories and of rounds.
use Rattle.std.specs.Prelude.{◌≡◌, ◌↔◌, ℕ, suc, ◌<◌, ◌≤◌, ◌*◌, Bool, List, [], ◌∷◌, ◌++◌, map}
use Rattle.std.specs.Prelude.{length, Option, Some, None, ◌+◌}
use Rattle.std.specs.List.{flat_map}
use Rattle.tj_base.specs.ForkOrder.{Name}
use Rattle.tj_body.specs.Asks.{Await, IsFresh}
use Rattle.tj_body.specs.Programs.{Rules, Program, rules_of, program_of}
use Rattle.tj_body.specs.History.{Assignment, owned, after_read, after_ask, history}
use Rattle.tj_body.specs.Rounds.{cells_by, given, tasks, entries, cells, last_round, IsFull}
use Rattle.tj_body.specs.Points.{IsIn, IsWithin, IsProper, IsGood, HasEnded, HasStopped, Extends}
use Rattle.tj_body.specs.Points.{IsPointOf, IsSomeTask, IsSomePoint, IsAtRest}
use Rattle.tj_body.specs.declared.ask.Answer.{Answer}
use Rattle.tj_body.specs.declared.ask.Ask.{Ask}
use Rattle.tj_body.specs.declared.point.Entry.{Entry}
use Rattle.tj_body.specs.declared.point.PointStage.TheVariants as stage
use Rattle.tj_body.specs.declared.point.Task.{Task}
use Rattle.tj_body.specs.declared.point.Point.{Point}

-- no name stands twice
abbrev pub AreDistinct : List Name → Type 0
AreDistinct [] = Unit {0}
AreDistinct (x ∷ xs) = ¬ IsIn x xs × AreDistinct xs

module _ {B : Type 0} (places : B → ℕ) (awaits : B → Await) (left : B → ℕ) (asks : B → Answer → Ask B)
    (then : B → Answer → B) where
  -- the law holds of each program with such bodies, under either rule; its root's body has asked nothing yet, and has
  -- one place
  abbrev pub HoldsOfPrograms : (Program B → Type 0) → Type 0
  HoldsOfPrograms Law = (strict : Bool) (root : B) → IsFresh places awaits left 1 root
      → Law (program_of places awaits left asks then strict root)

  -- the law holds of each task with such a body, as forks make them, under either rule
  abbrev pub HoldsOfTasks : (Rules B → Task B → Type 0) → Type 0
  HoldsOfTasks Law = (strict : Bool) (t : Task B) → IsProper (rules_of places awaits left asks then strict) t
      → Law (rules_of places awaits left asks then strict) t

module _ {B : Type 0} (rules : Rules B) where
  -- Histories. Each is determined by the task and by what the assignment has for the cells.
  abbrev pub IsDetermined : Task B → Type 0
  IsDetermined t = (V W : Assignment) → ((q : Name) → V q ≡ W q) → history rules V t ≡ history rules W t

  -- a history has come to its stop; each point of the task is a beginning of it, and one that has stopped is all of it
  abbrev pub Stops : Task B → Type 0
  Stops t = (V : Assignment) → HasStopped V (history rules V t)
      × ((p : Point B) → IsPointOf rules V t p → Extends p (history rules V t))
      × ((p : Point B) → IsPointOf rules V t p → HasStopped V p → p ≡ history rules V t)

  -- where the assignment grows, a history that ended stays as it was, and each is a beginning of the new one
  abbrev pub IsMonotone : Task B → Type 0
  IsMonotone t = (V W : Assignment) → IsWithin V W
      → (HasEnded (history rules V t) → history rules W t ≡ history rules V t)
      × IsPointOf rules W t (history rules V t)
      × Extends (history rules V t) (history rules W t)

  -- Points. One ask more of a point is a point.
  abbrev pub AsksOn : Task B → Type 0
  AsksOn t = (V : Assignment) (p : Point B) (a : Answer) → IsPointOf rules V t p
      → p.stage ≡ stage.Answered a
      → IsPointOf rules V t (after_ask rules.strict (rules.asks p.body a) (record p { body = rules.then p.body a }))

module _ {B : Type 0} (program : Program B) where
  -- the history of the task
  abbrev history_of : Assignment → Task B → Point B
  history_of V t = history program.rules V t

  -- the assignment of round n
  abbrev assignment_of : ℕ → Assignment
  assignment_of n = given program n

  -- its tasks
  abbrev tasks_of : ℕ → List (Task B)
  tasks_of n = tasks program n

  -- its entries
  abbrev entries_of : ℕ → List (Name × Entry)
  entries_of n = entries program n

  -- its cells
  abbrev cells_of : ℕ → List Name
  cells_of n = cells program n

  -- round m has the tasks, the entries and the cells of round n
  abbrev pub Has : ℕ → ℕ → Type 0
  Has m n = ((t : Task B) → IsIn t (tasks_of n) → IsIn t (tasks_of m))
      × IsWithin (assignment_of n) (assignment_of m)
      × ((q : Name) → IsIn q (cells_of n) → IsIn q (cells_of m))

  -- Rounds. A later one has the tasks, the entries and the cells of an earlier one.
  abbrev pub Grows : Type 0
  Grows = (n m : ℕ) → n ≤ m → Has m n

  -- no cell of a round stands twice, no cell has two entries, and what has an entry is a cell
  abbrev pub IsApart : Type 0
  IsApart = (n : ℕ) → AreDistinct (cells_of n) × AreDistinct (map (λ w. w.0) (entries_of n))
      × ((q : Name) (e : Entry) → IsIn (q, e) (entries_of n) ↔ (assignment_of n q ≡ Some e))
      × ((q : Name) (e : Entry) → assignment_of n q ≡ Some e → IsIn q (cells_of n))

  -- no two tasks, of one round or of two, have one name
  abbrev pub NamesApart : Type 0
  NamesApart = (n m : ℕ) (t u : Task B) → IsIn t (tasks_of n) → IsIn u (tasks_of m) → t.name ≡ u.name → t ≡ u

  -- no two tasks of a round own one cell, under the assignment before it or a later one; and what is owned under an
  -- assignment has no entry in the round after it
  abbrev pub OwnsApart : Type 0
  OwnsApart = (n m : ℕ) (t u : Task B) (q : Name) → n ≤ suc m → IsIn t (tasks_of n) → IsIn u (tasks_of n)
      → IsIn q (owned (history_of (assignment_of m) t)) → IsIn q (owned (history_of (assignment_of m) u))
      → (t ≡ u) × (assignment_of (suc m) q ≡ None)

  -- from round n on the assignment stays, and so do the tasks, the entries and the cells from the next round on
  abbrev pub IsSettledAt : ℕ → Type 0
  IsSettledAt n = (m : ℕ) → n ≤ m
      → (assignment_of m ≡ assignment_of n) × (tasks_of (suc m) ≡ tasks_of (suc n))
      × (entries_of (suc m) ≡ entries_of (suc n)) × (cells_of (suc m) ≡ cells_of (suc n))

  -- a round with the tasks and the entries of the one before equals all later ones
  abbrev pub IsSettledWhereSame : Type 0
  IsSettledWhereSame = (n : ℕ) → ((t : Task B) → IsIn t (tasks_of (suc n)) → IsIn t (tasks_of n))
      → IsWithin (assignment_of (suc n)) (assignment_of n) → IsSettledAt n

  -- and so does one with no more tasks and no more entries than the one before
  abbrev pub IsSettledBySize : Type 0
  IsSettledBySize = (n : ℕ) → length (tasks_of (suc n)) ≤ length (tasks_of n)
      → length (entries_of (suc n)) ≤ length (entries_of n) → IsSettledAt n

  -- some round has more than N cells exactly where the meaning with limit N is full
  abbrev pub IsFullExactly : Type 0
  IsFullExactly = (N : ℕ) → ((n : ℕ) × (N < length (cells_of n))) ↔ IsFull program N

  -- more than N names, none of them twice and each that of a cell of some round: the meaning with limit N is full
  abbrev pub IsFullWhere : Type 0
  IsFullWhere = (N : ℕ) (names : List Name) → AreDistinct names
      → ((q : Name) → IsIn q names → (n : ℕ) × IsIn q (cells_of n))
      → N < length names → IsFull program N

  -- where the meaning isn't full, it has the tasks, the entries and the cells of every round; and its histories,
  -- which are under its own assignment, are those that it was made of, under the assignment before
  abbrev pub IsLast : Type 0
  IsLast = (N : ℕ) → ¬ IsFull program N → ((n : ℕ) → Has (last_round N) n)
      × (assignment_of (last_round N) ≡ assignment_of (2 * N))

  -- Points in rounds. A point under one round that reads an entry of another is a point under each later than both.
  abbrev pub ReadsOn : Type 0
  ReadsOn = (n m k : ℕ) (t : Task B) (p : Point B) (q : Name) (spare : Bool) (e : Entry) → n ≤ k → m ≤ k
      → IsPointOf program.rules (assignment_of n) t p → p.stage ≡ stage.Waits q spare → assignment_of m q ≡ Some e
      → IsPointOf program.rules (assignment_of k) t (after_read spare q e p)

  -- what a point of a task has written and made is in the round of its task, and what it forked in the next one
  abbrev pub IsKept : Type 0
  IsKept = (n : ℕ) (t : Task B) (p : Point B) → IsIn t (tasks_of (suc n))
      → IsPointOf program.rules (assignment_of n) t p
      → IsIn t.name (cells_of (suc n))
      × ((q : Name) (e : Entry) → IsIn (q, e) p.writes → assignment_of (suc n) q ≡ Some e)
      × ((q : Name) → IsIn q p.promises → IsIn q (cells_of (suc n)))
      × ((c : Task B) → IsIn c p.children → IsIn c (tasks_of (suc (suc n))))

  -- the cells of the tasks of a round before one of them, that task, and the promises that it has made at a point
  -- are not more than the cells of the round
  abbrev pub CountsInRound : Type 0
  CountsInRound = (n : ℕ) (earlier later : List (Task B)) (t : Task B) (p : Point B)
      → tasks_of (suc n) ≡ earlier ++ t ∷ later → IsPointOf program.rules (assignment_of n) t p
      → length (flat_map (cells_by program.rules (assignment_of n)) earlier) + suc (length p.promises)
      ≤ length (cells_of (suc n))

  -- a task and all that it has made at a point are not more than the cells of the next round
  abbrev pub CountsMade : Type 0
  CountsMade = (n : ℕ) (t : Task B) (p : Point B) → IsIn t (tasks_of (suc n))
      → IsPointOf program.rules (assignment_of n) t p → suc p.made ≤ length (cells_of (suc (suc n)))

  -- what stands at rest, with names for all its cells and at most N of them, is the meaning with limit N
  abbrev pub RestsAtMeaning : Type 0
  RestsAtMeaning = (E : Assignment) (points : ℕ → Option (Point B)) → IsAtRest program E points
      → (names : List Name) → ((c : ℕ) (p : Point B) → points c ≡ Some p → IsIn p.name names)
      → ((c : ℕ) (p : Point B) (q : Name) → points c ≡ Some p → IsIn q p.promises → IsIn q names)
      → (N : ℕ) → length names ≤ N
      → (¬ IsFull program N)
      × ((q : Name) → E q ≡ assignment_of (last_round N) q)
      × ((c : ℕ) (p : Point B) → points c ≡ Some p
      → (t : Task B) × IsIn t (tasks_of (last_round N)) × (p ≡ history_of (assignment_of (last_round N)) t))
      × ((t : Task B) → IsIn t (tasks_of (last_round N))
      → (c : ℕ) × (points c ≡ Some (history_of (assignment_of (last_round N)) t)))
      × ((q : Name) → IsIn q (cells_of (last_round N)) → IsIn q names)

  -- a task of a round is as forks make them, and each of its points is one from which it can go on
  abbrev pub IsAllGood : Type 0
  IsAllGood = (t : Task B) → IsSomeTask program t → IsProper program.rules t
      × ((p : Point B) → IsSomePoint program t p → IsGood program.rules p)
