-- What is told of joins: a line for each, in the order of tasks and acts.
use Rattle.std.specs.Prelude.{◌≡◌, ◌↔◌, ℕ, suc, Bool, cond, List, [], ◌∷◌}
use Rattle.std.specs.List.{flat_map}
use Rattle.tj_base.specs.ForkOrder.{Name, before, IsBefore}
use Rattle.tj_body.specs.Points.{IsIn}
use Rattle.tj_mean.specs.declared.act.Act.{Act}
use Rattle.tj_mean.specs.declared.act.Act.TheVariants as act
use Rattle.tj_mean.specs.declared.act.ActLine.{ActLine}
use Rattle.tj_known.specs.Knowledge.{Knows}
use Rattle.tj_known.specs.declared.known.How.{How}
use Rattle.tj_known.specs.declared.known.How.TheVariants as how
use Rattle.tj_known.specs.declared.known.KnownLine.{KnownLine}

-- a join: its task, how many acts that one did before, and the joined task
pub record Join : Type 0 where
  pub task : Name
  pub earlier : ℕ
  pub joined : Name

-- the joins among the acts that a task does after n acts
abbrev pub joins_from : Name → ℕ → List Act → List Join
joins_from t n [] = []
joins_from t n (act.Fork c ∷ acts) = joins_from t (suc n) acts
joins_from t n (act.Join u answered ∷ acts) =
    record { task = t; earlier = n; joined = u } ∷ joins_from t (suc n) acts

-- the joins of a task
abbrev pub joins_of : ActLine → List Join
joins_of l = joins_from l.name 0 l.acts

-- all joins, in the order of tasks and acts
abbrev pub joins_in : List ActLine → List Join
joins_in lines = flat_map joins_of lines

-- how a join is told that is known or not
abbrev pub how_of : Bool → Name → Name → How
how_of known t u = cond known how.Known (cond (before t u) how.Along how.Against)

-- the line tells of the join: it is known exactly where its task knew the joined one, and of the others along exactly
-- where its task is before that one
pub record IsTold (lines : List ActLine) (j : Join) (k : KnownLine) : Type 0 where
  pub by : k.by ≡ j.task
  pub of_joined : k.of ≡ j.joined
  pub known : (k.how ≡ how.Known) ↔ Knows lines j.task j.earlier j.joined
  pub along : (k.how ≡ how.Along) ↔ (¬ Knows lines j.task j.earlier j.joined × IsBefore j.task j.joined)

-- there is a line for each of the joins, in their order
abbrev pub AreTold : List ActLine → List Join → List KnownLine → Type 0
AreTold lines [] [] = Unit {0}
AreTold lines [] (k ∷ ks) = ⊥
AreTold lines (j ∷ js) [] = ⊥
AreTold lines (j ∷ js) (k ∷ ks) = IsTold lines j k × AreTold lines js ks

-- each known join is along the fork order
abbrev pub KnownAreAlong : List KnownLine → Type 0
KnownAreAlong ks = (k : KnownLine) → IsIn k ks → k.how ≡ how.Known → IsBefore k.by k.of
