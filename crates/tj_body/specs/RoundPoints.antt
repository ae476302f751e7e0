-- Points in rounds, without the numbers of the rounds.
use Rattle.std.specs.Prelude.{◌≡◌, ◌↔◌, ◌⊎◌, ℕ, suc, ◌<◌, ◌≤◌, Bool, ◌++◌, map, length, Some}
use Rattle.tj_base.specs.ForkOrder.{Name, child}
use Rattle.tj_base.specs.declared.cell.Sort.{Sort}
use Rattle.tj_base.specs.declared.cell.Sort.TheVariants as sort
use Rattle.tj_body.specs.Asks.{IsPlaced}
use Rattle.tj_body.specs.Programs.{Program, root_task}
use Rattle.tj_body.specs.History.{start, after_read, after_ask}
use Rattle.tj_body.specs.Rounds.{given, cells}
use Rattle.tj_body.specs.Points.{IsIn, IsGood, Extends, IsPointOf, IsSomeTask, IsSomePoint}
use Rattle.tj_body.specs.Laws.{AreDistinct}
use Rattle.tj_body.specs.declared.ask.Answer.{Answer}
use Rattle.tj_body.specs.declared.ask.Ask.{Ask}
use Rattle.tj_body.specs.declared.point.Reference.{Reference}
use Rattle.tj_body.specs.declared.point.Entry.{Entry}
use Rattle.tj_body.specs.declared.point.PointStage.TheVariants as stage
use Rattle.tj_body.specs.declared.point.Task.{Task}
use Rattle.tj_body.specs.declared.point.Point.{Point}

-- the point has made this, as a promise or as a child
abbrev pub HasMade : {B : Type 0} → Point B → Name → Type 0
HasMade {B} p q = IsIn q p.promises ⊎ ((c : Task B) × IsIn c p.children × (c.name ≡ q))

module _ {B : Type 0} (program : Program B) where
  -- the cell has this entry in some round
  abbrev pub Becomes : Name → Entry → Type 0
  Becomes q e = (n : ℕ) × (given program n q ≡ Some e)

  -- it is a cell of some round
  abbrev pub InRounds : Name → Type 0
  InRounds q = (n : ℕ) × IsIn q (cells program n)

  -- some task of some round has this point, under the assignment of some round
  abbrev pub IsOfRounds : Point B → Type 0
  IsOfRounds p = (t : Task B) × IsSomeTask program t × IsSomePoint program t p

  -- a task of some round has this name, or a point has made the promise
  abbrev pub IsNamed : Sort → Name → Type 0
  IsNamed sort.Task x = (t : Task B) × IsSomeTask program t × (t.name ≡ x)
  IsNamed sort.Promise x = (p : Point B) × IsOfRounds p × IsIn x p.promises

  -- a point under one round is one under each later round
  abbrev pub PointsStay : Type 0
  PointsStay = (n m : ℕ) (t : Task B) (p : Point B) → n ≤ m → IsPointOf program.rules (given program n) t p
      → IsPointOf program.rules (given program m) t p

  -- the root is a task of some round; the name of each such task is a cell, and its start is a point
  abbrev pub TasksStart : Type 0
  TasksStart = IsSomeTask program (root_task program.root)
      × ((t : Task B) → IsSomeTask program t → InRounds t.name × IsOfRounds (start t))

  -- one ask more of a point is a point
  abbrev pub PointsAsk : Type 0
  PointsAsk = (p : Point B) (a : Answer) → IsOfRounds p → p.stage ≡ stage.Answered a → IsOfRounds
      (after_ask program.rules.strict (program.rules.asks p.body a) (record p { body = program.rules.then p.body a }))

  -- what has become of the cell that a point waits for is its answer
  abbrev pub PointsRead : Type 0
  PointsRead = (p : Point B) (q : Name) (spare : Bool) (e : Entry) → IsOfRounds p → p.stage ≡ stage.Waits q spare
      → Becomes q e → IsOfRounds (after_read spare q e p)

  -- what a point has written becomes so
  abbrev pub WritesBecome : Type 0
  WritesBecome = (p : Point B) (q : Name) (e : Entry) → IsOfRounds p → IsIn (q, e) p.writes → Becomes q e

  -- the promises that a point has made are cells, and what it has forked are tasks
  abbrev pub ThingsInRounds : Type 0
  ThingsInRounds = (p : Point B) → IsOfRounds p → ((q : Name) → IsIn q p.promises → InRounds q)
      × ((c : Task B) → IsIn c p.children → IsSomeTask program c)

  -- no cell has two entries, and what has one is a cell
  abbrev pub EntriesAreOne : Type 0
  EntriesAreOne = (q : Name) (d e : Entry) → Becomes q d → Becomes q e → (d ≡ e) × InRounds q

  -- a point is one from which its task can go on
  abbrev pub PointsAreGood : Type 0
  PointsAreGood = (p : Point B) → IsOfRounds p → IsGood program.rules p

  -- each place of what a point asks is that of one of its references
  abbrev pub AsksArePlaced : Type 0
  AsksArePlaced = (p : Point B) (a : Answer) → IsOfRounds p → p.stage ≡ stage.Answered a
      → IsPlaced program.rules.places program.rules.awaits program.rules.left
      (length p.references) (program.rules.asks p.body a)

  -- each reference of a point is to a task or a promise, as its sort says
  abbrev pub ReferencesAreNamed : Type 0
  ReferencesAreNamed = (p : Point B) (r : Reference) → IsOfRounds p → IsIn r p.references → IsNamed r.sort r.name

  -- what a point has made are the things 1 to made of its task, each of them once
  abbrev pub ThingsAreMade : Type 0
  ThingsAreMade = (p : Point B) → IsOfRounds p
      → ((q : Name) → HasMade p q ↔ ((k : ℕ) × (k < p.made) × (q ≡ child p.name (suc k))))
      × AreDistinct (map (λ (c : Task B). c.name) p.children ++ p.promises)

  -- an ask and an answer only add to what a point has forked, written, made, printed and been given
  abbrev pub StepsExtend : Type 0
  StepsExtend = ((ask : Ask B) (p : Point B) → Extends p (after_ask program.rules.strict ask p))
      × ((p : Point B) (q : Name) (spare : Bool) (e : Entry) → Extends p (after_read spare q e p))
