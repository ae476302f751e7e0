-- Knowledge: which tasks a task knows after so many of its acts, and which joins are of a task that was known.
use Rattle.std.specs.Prelude.{ℕ, zero, suc, true, List}
use Rattle.tj_base.specs.ForkOrder.{Name}
use Rattle.tj_mean.specs.ActLines.{HasAct, act_count}
use Rattle.tj_mean.specs.declared.act.Act.{Act}
use Rattle.tj_mean.specs.declared.act.Act.TheVariants as act
use Rattle.tj_mean.specs.declared.act.ActLine.{ActLine}

-- The task t knows u after n acts: what it knew stays known; it knows the child that it forked; a child knows from the
-- start what its parent knew before the fork; and an answered join of a task that it knew tells it all that that task
-- knows after its last act. It knows nothing else.
pub data Knows (lines : List ActLine) : Name → ℕ → Name → Type 0 where
  stays : (t u : Name) (n : ℕ) (a : Act) → HasAct lines t n a → Knows lines t n u → Knows lines t (suc n) u
  forks : (t c : Name) (n : ℕ) → HasAct lines t n (act.Fork c) → Knows lines t (suc n) c
  inherits : (t c u : Name) (n : ℕ) → HasAct lines t n (act.Fork c) → Knows lines t n u → Knows lines c zero u
  learns : (t u v : Name) (n : ℕ) → HasAct lines t n (act.Join u true) → Knows lines t n u
      → Knows lines u (act_count lines u) v → Knows lines t (suc n) v
