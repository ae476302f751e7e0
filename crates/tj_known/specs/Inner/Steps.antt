-- Acts by indexes: a task goes by its index among the lines.
use Rattle.std.specs.Prelude.{◌≡◌, ℕ, List, [], ◌∷◌, Some, slice_get}
use Rattle.std.specs.List.{AllByRecursion}
use Rattle.tj_base.specs.ForkOrder.{Name}
use Rattle.tj_body.specs.Points.{IsIn}
use Rattle.tj_mean.specs.ActLines.{names_of}
use Rattle.tj_mean.specs.declared.act.Act.{Act}
use Rattle.tj_mean.specs.declared.act.Act.TheVariants as act
use Rattle.tj_mean.specs.declared.act.ActLine.{ActLine}
use Rattle.tj_known.specs.declared.step.Step.{Step}
use Rattle.tj_known.specs.declared.step.Step.TheVariants as step

module _ (lines : List ActLine) where
  -- the task with this index has the name
  abbrev pub HasName : ℕ → Name → Type 0
  HasName i t = slice_get (names_of lines) i ≡ Some t

  -- the other task of the act has a line
  abbrev pub IsThere : Act → Type 0
  IsThere (act.Fork c) = IsIn c (names_of lines)
  IsThere (act.Join u answered) = IsIn u (names_of lines)

  -- so it is for each of the acts
  abbrev pub AreThere : List Act → Type 0
  AreThere acts = AllByRecursion IsThere acts

  -- the step is the act by indexes
  abbrev pub IsStep : Act → Step → Type 0
  IsStep (act.Fork c) (step.Fork i) = HasName i c
  IsStep (act.Fork c) (step.Join i b) = ⊥
  IsStep (act.Join u answered) (step.Fork i) = ⊥
  IsStep (act.Join u answered) (step.Join i b) = HasName i u × (answered ≡ b)

  -- the steps are the acts by indexes
  abbrev pub AreSteps : List Act → List Step → Type 0
  AreSteps [] [] = Unit {0}
  AreSteps [] (s ∷ ss) = ⊥
  AreSteps (a ∷ as_) [] = ⊥
  AreSteps (a ∷ as_) (s ∷ ss) = IsStep a s × AreSteps as_ ss
