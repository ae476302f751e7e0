-- The law of notes: they tell each promise and each task that the task made.
use Rattle.std.specs.Prelude.{◌≡◌, ℕ, suc, Bool, true, false, cond, List, [], ◌∷◌, map, length, Some}
use Rattle.tj_base.specs.ForkOrder.{Name, child}
use Rattle.tj_base.specs.declared.cell.Sort.{Sort}
use Rattle.tj_base.specs.declared.cell.Sort.TheVariants as sort
use Rattle.tj_body.specs.Points.{IsIn}
use Rattle.tj_body.specs.Rounds.{meaning}
use Rattle.tj_body.specs.declared.point.Point.{Point}
use Rattle.tj_body.specs.declared.point.Task.{Task}
use Rattle.tj_eval.specs.Stands.{PlacedState}
use Rattle.tj_trace.specs.Logs.{Logged, logged_program}
use Rattle.tj_trace.specs.Traces.{line_of}
use Rattle.tj_trace.specs.declared.line.Maker.{Maker}
use Rattle.tj_trace.specs.declared.line.TraceLine.{TraceLine}

-- whether two things are of one sort
abbrev pub is_sort : Sort → Sort → Bool
is_sort sort.Task sort.Task = true
is_sort sort.Task sort.Promise = false
is_sort sort.Promise sort.Task = false
is_sort sort.Promise sort.Promise = true

-- the names of the things of one sort that the task x made, by what made its things behind the first n
abbrev pub things : Sort → Name → ℕ → List Maker → List Name
things s x n [] = []
things s x n (m ∷ ms) = cond (is_sort s m.sort) (child x (suc n) ∷ things s x (suc n) ms) (things s x (suc n) ms)

-- what a task made is what its notes tell
pub record AreNoted (x : Name) (makers : List Maker) (made : ℕ) (promises : List Name) (children : List (Task Logged)) :
    Type 0 where
  pub each : length makers ≡ made
  pub all_promises : things sort.Promise x 0 makers ≡ promises
  pub all_children : things sort.Task x 0 makers ≡ map (λ t. t.name) children

-- so it is of each task of the meaning that has a line
abbrev pub NotesAreWhole : Bool → PlacedState → Type 0
NotesAreWhole strict root = (N : ℕ) (p : Point Logged) (l : TraceLine)
    → IsIn p (meaning (logged_program strict root) N) → line_of p ≡ Some l
    → AreNoted l.line.name l.makers p.made p.promises p.children
