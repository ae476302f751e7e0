-- The tasks whose acts are worked off: what each knows by then, which of them have begun, and which can go on.
use Rattle.std.specs.Prelude.{◌≡◌, ◌↔◌, ◌⊎◌, ℕ, ◌+◌, ◌-◌, ◌<◌, ◌≤◌, Bool, true, false, cond, not}
use Rattle.std.specs.Prelude.{◌&&◌, ◌||◌, nat_eq, nat_lt, ◌++◌, ◌∷◌}
use Rattle.std.specs.Prelude.{List, [], length, Option, Some, None, slice_get, slice_index_or}
use Rattle.std.specs.List.{All, sum_by}
use Rattle.std.specs.Option.{option_map_or}
use Rattle.tj_base.specs.ForkOrder.{Name}
use Rattle.tj_mean.specs.ActLines.{HasAct}
use Rattle.tj_mean.specs.declared.act.Act.TheVariants as act
use Rattle.tj_mean.specs.declared.act.ActLine.{ActLine}
use Rattle.tj_known.specs.Knowledge.{Knows}
use Rattle.tj_known.specs.Inner.Steps.{HasName, AreSteps}
use Rattle.tj_known.specs.declared.learner.Learner.{Learner}
use Rattle.tj_known.specs.declared.step.Step.{Step}
use Rattle.tj_known.specs.declared.step.Step.TheVariants as step

-- how many of its acts are worked off
abbrev pub worked : Learner → ℕ
worked x = length x.marks.items

-- whether the row has the index
abbrev pub has_index : List Bool → ℕ → Bool
has_index row i = slice_index_or row i false

-- the next act of a task that has begun
abbrev pub next_of : Learner → Option Step
next_of x =
    cond (x.begun && nat_lt (worked x) (length x.steps.items)) (slice_get x.steps.items (worked x)) None

-- one act more of a task is worked off, with this mark
pub record IsWorkedOff (x y : Learner) (mark : Bool) : Type 0 where
  pub steps : y.steps.items ≡ x.steps.items
  pub begun : y.begun ≡ x.begun
  pub marks : y.marks.items ≡ x.marks.items ++ mark ∷ []

-- whether all its acts are worked off
abbrev pub is_done : Learner → Bool
is_done x = x.begun && nat_eq (worked x) (length x.steps.items)

module _ (learners : List Learner) where
  -- whether all acts of the task with this index are worked off
  abbrev pub is_done_at : ℕ → Bool
  is_done_at i = option_map_or is_done (slice_get learners i) false

  -- whether the task can do this: an answered join of a task that it knows comes after all acts of that one
  abbrev pub can_do : Learner → Option Step → Bool
  can_do x None = false
  can_do x (Some (step.Fork i)) = true
  can_do x (Some (step.Join i answered)) = not (has_index x.knows.items i && answered) || is_done_at i

  -- whether the task can go on
  abbrev pub can_go_on : Learner → Bool
  can_go_on x = can_do x (next_of x)

  -- whether the task with this index can go on
  abbrev pub can_go_on_at : ℕ → Bool
  can_go_on_at i = option_map_or can_go_on (slice_get learners i) false

  -- the task with this index has begun, and this is its next act
  abbrev pub NextAt : ℕ → Step → Type 0
  NextAt i s = option_map_or next_of (slice_get learners i) None ≡ Some s

  -- whether the task with this index knows the one with that
  abbrev pub knows_at : ℕ → ℕ → Bool
  knows_at i j = option_map_or (λ (x : Learner). has_index x.knows.items j) (slice_get learners i) false

  -- no task can go on
  abbrev pub AreStuck : Type 0
  AreStuck = (i : ℕ) → can_go_on_at i ≡ false

  -- the acts of all tasks are worked off
  abbrev pub AreDone : Type 0
  AreDone = All (λ x. is_done x ≡ true) learners

  -- how many acts are left
  abbrev pub acts_left : ℕ
  acts_left = sum_by (λ (x : Learner). length x.steps.items - worked x) learners

  -- the fork of the task c is worked off
  pub record IsForked (lines : List ActLine) (c : Name) : Type 0 where
    pub parent : Learner
    pub index : ℕ
    pub name : Name
    pub earlier : ℕ
    pub parent_there : slice_get learners index ≡ Some parent
    pub named : HasName lines index name
    pub forks : HasAct lines name earlier (act.Fork c)
    pub is_worked : earlier < worked parent

module _ (lines : List ActLine) where
  -- the task of a line, of which nothing is worked off, and which knows nothing
  pub record IsNew (l : ActLine) (x : Learner) : Type 0 where
    pub steps : AreSteps lines l.acts x.steps.items
    pub begun : (x.begun ≡ true) ↔ (l.name ≡ [])
    pub unmarked : x.marks.items ≡ []
    pub nothing : x.knows.items ≡ []

  -- What holds of the task of a line: its steps are its acts, what its row has is what it knows after the acts that
  -- are worked off, and each join among these is marked as the task knew the joined one or not.
  pub record IsLearner (l : ActLine) (x : Learner) : Type 0 where
    pub steps : AreSteps lines l.acts x.steps.items
    pub few : worked x ≤ length x.steps.items
    pub unbegun : x.begun ≡ false → x.marks.items ≡ []
    pub knowledge : x.begun ≡ true → (i : ℕ) (u : Name) → HasName lines i u
        → (has_index x.knows.items i ≡ true) ↔ Knows lines l.name (worked x) u
    pub marked : (n : ℕ) (u : Name) (answered : Bool) → n < worked x
        → HasAct lines l.name n (act.Join u answered)
        → (has_index x.marks.items n ≡ true) ↔ Knows lines l.name n u

  -- there is one for each line, and those have begun that are the root or whose fork is worked off
  pub record IsUnderWay (learners : List Learner) : Type 0 where
    pub count : length learners ≡ length lines
    pub each : (i : ℕ) (l : ActLine) (x : Learner) → slice_get lines i ≡ Some l → slice_get learners i ≡ Some x
        → IsLearner l x
    pub begun : (i : ℕ) (t : Name) (x : Learner) → HasName lines i t → slice_get learners i ≡ Some x
        → (x.begun ≡ true) ↔ ((t ≡ []) ⊎ IsForked learners lines t)

  -- The next act of the task with this index is worked off where it can be. Then one act less is left, and else nothing
  -- has changed.
  pub record IsTried (i : ℕ) (old new : List Learner) (moved : Bool) : Type 0 where
    pub under_way : IsUnderWay new
    pub answer : moved ≡ can_go_on_at old i
    pub fewer : moved ≡ true → acts_left new + 1 ≡ acts_left old
    pub still : moved ≡ false → new ≡ old

  -- The task with this index goes on as far as it can. Where it could, fewer acts are left, and else nothing has
  -- changed.
  pub record IsAdvanced (i : ℕ) (old new : List Learner) (moved : Bool) : Type 0 where
    pub under_way : IsUnderWay new
    pub fewer : moved ≡ true → acts_left new < acts_left old
    pub still : moved ≡ false → new ≡ old
    pub stuck : moved ≡ false → can_go_on_at old i ≡ false

  -- Each task goes on as far as it can. Where one could, fewer acts are left, and else no task can go on.
  pub record IsSweep (old new : List Learner) (moved : Bool) : Type 0 where
    pub under_way : IsUnderWay new
    pub fewer : moved ≡ true → acts_left new < acts_left old
    pub stuck : moved ≡ false → AreStuck new
