-- What made the cells of a round, task by task.
use Rattle.std.specs.Prelude.{◌≡◌, ◌⊎◌, ℕ, zero, suc, Bool, List, [], ◌∷◌, ◌++◌, filter}
use Rattle.tj_base.specs.declared.cell.Sort.{Sort}
use Rattle.tj_base.specs.declared.cell.Sort.TheVariants as sort
use Rattle.tj_body.specs.History.{Assignment, history}
use Rattle.tj_body.specs.Points.{IsIn}
use Rattle.tj_body.specs.Programs.{Program, Rules, root_task}
use Rattle.tj_body.specs.Rounds.{given}
use Rattle.tj_body.specs.declared.point.Point.{Point}
use Rattle.tj_body.specs.declared.point.Task.{Task}
use Rattle.tj_trace.specs.NoteLaws.{is_sort}
use Rattle.tj_trace.specs.declared.found.Found.{Found}
use Rattle.tj_trace.specs.declared.line.Maker.{Maker}
use Rattle.tj_trace.specs.Logs.{Logged}

-- it made a thing of this sort
abbrev pub is_of : Sort → Maker → Bool
is_of s m = is_sort s m.sort

module _ {B : Type 0} where
  -- what forked each child, and then what made the cells below it
  abbrev pub with_below : (Task B → List Maker) → List Maker → List (Task B) → List Maker
  with_below below [] cs = []
  with_below below (m ∷ ms) [] = []
  with_below below (m ∷ ms) (c ∷ cs) = m ∷ below c ++ with_below below ms cs

  -- the same as far as so many forks after one another are followed
  abbrev pub forked_makers : (ℕ → Task B → List Maker) → ℕ → List Maker → List (Task B) → List Maker
  forked_makers below zero ms cs = []
  forked_makers below (suc d) ms cs = with_below (below d) ms cs

  -- what made the cells of the pending tasks and of those below; the last one is taken first
  abbrev pub still_makers : (ℕ → Task B → List Maker) → List (Found B) → List Maker
  still_makers below [] = []
  still_makers below (w ∷ ws) = still_makers below ws ++ w.maker ∷ below w.depth w.task

module _ (rules : Rules Logged) (V : Assignment) where
  -- what a task notes of the things of this sort that it made
  abbrev pub made_by : Sort → Task Logged → List Maker
  made_by s t = filter (is_of s) (history rules V t).body.makers

  -- what made the cells below a task: the promises that it made, and the results of its children, with what is below
  -- these, as far as so many forks after one another are followed
  abbrev pub made_below : ℕ → Task Logged → List Maker
  made_below zero t = made_by sort.Promise t
  made_below (suc d) t =
      made_by sort.Promise t ++ with_below (made_below d) (made_by sort.Task t) (history rules V t).children

-- a task with this history was taken, from which d forks after one another are followed: what made its promises is
-- noted, and its children are to be taken next
pub record IsTaken (p : Point Logged) (d : ℕ) (ws pending : List (Found Logged)) (ms makers : List Maker) : Type 0 where
  pub made : makers ≡ ms ++ filter (is_of sort.Promise) p.body.makers
  pub still : (below : ℕ → Task Logged → List Maker) → still_makers below pending
      ≡ forked_makers below d (filter (is_of sort.Task) p.body.makers) p.children ++ still_makers below ws
  pub from : (w : Found Logged) → IsIn w pending → IsIn w ws ⊎ ((suc w.depth ≡ d) × IsIn w.task p.children)

-- what made the cells of round n but the root's result
abbrev pub round_makers : Program Logged → ℕ → List Maker
round_makers program zero = []
round_makers program (suc n) = made_below program.rules (given program n) (suc n) (root_task program.root)
