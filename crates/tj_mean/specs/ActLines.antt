-- Tasks with their acts as lines: which act a task does when, and that acts can be worked off one after the other.
use Rattle.std.specs.Prelude.{◌≡◌, ℕ, zero, suc, ◌<◌, Bool, true, false, cond, List, [], ◌∷◌, map, length, Some}
use Rattle.std.specs.Prelude.{slice_get}
use Rattle.tj_base.specs.ForkOrder.{Name, child}
use Rattle.tj_body.specs.Names.{same}
use Rattle.tj_body.specs.Points.{IsIn}
use Rattle.tj_mean.specs.Outcomes.{Ascend}
use Rattle.tj_mean.specs.declared.act.Act.{Act}
use Rattle.tj_mean.specs.declared.act.Act.TheVariants as act
use Rattle.tj_mean.specs.declared.act.ActLine.{ActLine}

-- the acts of the task with this name
abbrev pub acts_of : List ActLine → Name → List Act
acts_of [] t = []
acts_of (l ∷ ls) t = cond (same t l.name) l.acts (acts_of ls t)

-- the names of the tasks
abbrev pub names_of : List ActLine → List Name
names_of lines = map (λ (l : ActLine). l.name) lines

module _ (lines : List ActLine) where
  -- the act that the task t does after n acts is this one
  abbrev pub HasAct : Name → ℕ → Act → Type 0
  HasAct t n a = slice_get (acts_of lines t) n ≡ Some a

  -- how many acts the task does
  abbrev pub act_count : Name → ℕ
  act_count t = length (acts_of lines t)

-- The first n acts of a task can be worked off, each after those that it follows from: the root begins at once, and a
-- child after the acts before its fork; a fork and a join that isn't answered wait for nothing; an answered join comes
-- after all acts of the joined task.
-- a relation and no list in that order, which a proof that goes by turns would have to walk
pub data CanReach (lines : List ActLine) : Name → ℕ → Type 0 where
  root_begins : CanReach lines [] zero
  child_begins : (t c : Name) (n : ℕ) → HasAct lines t n (act.Fork c) → CanReach lines t n → CanReach lines c zero
  forks : (t c : Name) (n : ℕ) → HasAct lines t n (act.Fork c) → CanReach lines t n → CanReach lines t (suc n)
  waits : (t u : Name) (n : ℕ) → HasAct lines t n (act.Join u false) → CanReach lines t n → CanReach lines t (suc n)
  answered : (t u : Name) (n : ℕ) → HasAct lines t n (act.Join u true) → CanReach lines t n
      → CanReach lines u (act_count lines u) → CanReach lines t (suc n)

-- What holds of the lines of the tasks of a meaning: they are in name order; a task forks its own children, each with
-- a greater number than those before; what is forked or joined has a line; and all acts can be worked off.
pub record AreActLines (lines : List ActLine) : Type 0 where
  pub in_order : Ascend (names_of lines)
  pub own_children : (t c : Name) (n : ℕ) → HasAct lines t n (act.Fork c) → (k : ℕ) × (c ≡ child t k)
  pub numbers_rise : (t : Name) (m n j k : ℕ) → m < n → HasAct lines t m (act.Fork (child t j))
      → HasAct lines t n (act.Fork (child t k)) → j < k
  pub forked_there : (t c : Name) (n : ℕ) → HasAct lines t n (act.Fork c) → IsIn c (names_of lines)
  pub joined_there : (t u : Name) (n : ℕ) (is_answered : Bool) → HasAct lines t n (act.Join u is_answered)
      → IsIn u (names_of lines)
  pub reached : (t : Name) → IsIn t (names_of lines) → CanReach lines t (act_count lines t)
