-- Points of histories, which of them a body may be given an answer at, and a state at rest.
use Rattle.std.specs.Prelude.{◌≡◌, ◌⊎◌, ℕ, suc, ◌+◌, ◌*◌, ◌≤◌, Bool, true, false, List, [], ◌∷◌, ◌++◌, length}
use Rattle.std.specs.Prelude.{Option, Some, None}
use Rattle.tj_base.specs.ForkOrder.{Name}
use Rattle.tj_body.specs.Asks.{Await, cell, cell_or, Fits, new_places, most_passed, most_left, IsFresh}
use Rattle.tj_body.specs.Programs.{Rules, Program}
use Rattle.tj_body.specs.History.{Assignment, point_after}
use Rattle.tj_body.specs.Rounds.{given, tasks}
use Rattle.tj_body.specs.declared.ask.Answer.{Answer}
use Rattle.tj_body.specs.declared.point.Entry.{Entry}
use Rattle.tj_body.specs.declared.point.Close.{Close}
use Rattle.tj_body.specs.declared.point.PointStage.{PointStage}
use Rattle.tj_body.specs.declared.point.PointStage.TheVariants as stage
use Rattle.tj_body.specs.declared.point.Task.{Task}
use Rattle.tj_body.specs.declared.point.Point.{Point}

-- x is an element of the list
-- by the list and not by index, since the laws of rounds go by induction on lists
abbrev pub IsIn : {A : Type 0} → A → List A → Type 0
IsIn x [] = ⊥
IsIn x (y ∷ ys) = (x ≡ y) ⊎ IsIn x ys

-- xs is a beginning of ys
abbrev pub Begins : {A : Type 0} → List A → List A → Type 0
Begins {A} xs ys = (rest : List A) × (ys ≡ xs ++ rest)

-- W has the entries of V
abbrev pub IsWithin : Assignment → Assignment → Type 0
IsWithin V W = (q : Name) (e : Entry) → V q ≡ Some e → W q ≡ Some e

-- a task never has more places: those that it was passed, its own, and one for each ask
abbrev pub most_places : ℕ
most_places = most_left + most_passed + 1

-- what a body awaits whose task waits for a cell
abbrev pub cell_if : Bool → Await
cell_if true = cell_or
cell_if false = cell

module _ {B : Type 0} (rules : Rules B) where
  -- a task as a fork makes it: its body has asked nothing, and has a place for itself and each passed reference
  pub record IsProper (t : Task B) : Type 0 where
    pub fresh : IsFresh rules.places rules.awaits rules.left (suc (length t.passed)) t.body
    pub few : length t.passed ≤ most_passed

  -- a body that is to be given an answer may be given it, and there is room for the places that are still to come
  pub record MayAnswer (a : Answer) (p : Point B) : Type 0 where
    pub fits : Fits (rules.awaits p.body) (rules.places p.body) a
    pub all_places : rules.places p.body + new_places a ≡ length p.references
    pub room : length p.references + rules.left p.body ≤ most_places

  -- a body whose task waits for a cell awaits it, and there is room for the places that are still to come
  pub record MayWait (spare : Bool) (p : Point B) : Type 0 where
    pub awaits_cell : rules.awaits p.body ≡ cell_if spare
    pub all_places : rules.places p.body ≡ length p.references
    pub room : length p.references + rules.left p.body + 1 ≤ most_places

  -- the body is as the stage needs it
  abbrev pub IsGoodAt : PointStage → Point B → Type 0
  IsGoodAt (stage.Answered a) p = MayAnswer a p
  IsGoodAt (stage.Waits q spare) p = MayWait spare p
  IsGoodAt (stage.Closed e) p = Unit {0}

  -- a point from which a task can go on: its children are proper, and it has made fewer things than it has places
  pub record IsGood (p : Point B) : Type 0 where
    pub at_stage : IsGoodAt p.stage p
    pub children : (c : Task B) → IsIn c p.children → IsProper c
    pub made : suc p.made ≤ length p.references

-- how many steps a task with such a body makes at most from this stage
abbrev pub weight_at : {B : Type 0} → (B → ℕ) → B → PointStage → ℕ
weight_at left b (stage.Answered a) = 2 * left b + 2
weight_at left b (stage.Waits q spare) = 2 * left b + 3
weight_at left b (stage.Closed e) = 0

-- how many steps a task makes at most from this point
abbrev pub weight : {B : Type 0} → (B → ℕ) → Point B → ℕ
weight left p = weight_at left p.body p.stage

-- the task has ended
abbrev pub HasEnded : {B : Type 0} → Point B → Type 0
HasEnded p = (e : Close) × (p.stage ≡ stage.Closed e)

-- the task has ended, or waits for a cell without an entry
abbrev pub HasStopped : {B : Type 0} → Assignment → Point B → Type 0
HasStopped V p = HasEnded p ⊎ ((q : Name) × (spare : Bool) × (p.stage ≡ stage.Waits q spare) × (V q ≡ None))

-- what p' has forked, written, made, printed and been given begins with what p has
abbrev pub Extends : {B : Type 0} → Point B → Point B → Type 0
Extends p p' = Begins p.children p'.children × Begins p.writes p'.writes × Begins p.promises p'.promises
    × Begins p.prints p'.prints × Begins p.references p'.references

module _ {B : Type 0} (rules : Rules B) where
  -- p is what stands after some of the task's asks
  abbrev pub IsPointOf : Assignment → Task B → Point B → Type 0
  IsPointOf V t p = (k : ℕ) × (p ≡ point_after rules V k t)

module _ {B : Type 0} (program : Program B) where
  -- p is a point of the task under the assignment of some round
  abbrev pub IsSomePoint : Task B → Point B → Type 0
  IsSomePoint t p = (n : ℕ) × IsPointOf program.rules (given program n) t p

  -- the task is one of some round
  abbrev pub IsSomeTask : Task B → Type 0
  IsSomeTask t = (n : ℕ) × IsIn t (tasks program n)

  -- what stands where nothing goes on: E is all entries, and points gives what each task has come to
  pub record IsAtRest (E : Assignment) (points : ℕ → Option (Point B)) : Type 0 where
    pub root_there : (c : ℕ) × (p : Point B) × (points c ≡ Some p) × (p.name ≡ [])
    pub meant : (c : ℕ) (p : Point B) → points c ≡ Some p → (t : Task B) × IsSomeTask t × IsSomePoint t p
    pub stopped : (c : ℕ) (p : Point B) → points c ≡ Some p → HasStopped E p
    pub forked : (c : ℕ) (p : Point B) (k : Task B) → points c ≡ Some p → IsIn k p.children
        → (d : ℕ) × (r : Point B) × (points d ≡ Some r) × (r.name ≡ k.name)
    pub written : (c : ℕ) (p : Point B) (q : Name) (e : Entry) → points c ≡ Some p → IsIn (q, e) p.writes
        → (x : Entry) × (E q ≡ Some x)
    pub entered : (q : Name) (e : Entry) → E q ≡ Some e → (n : ℕ) × (given program n q ≡ Some e)
