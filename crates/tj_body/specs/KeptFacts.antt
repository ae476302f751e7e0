-- What each ask keeps of a body and gives to what it forks, it has at each point of each round.
use Rattle.tj_body.specs.Programs.{Rules, Program}
use Rattle.tj_body.specs.Points.{IsIn, IsSomeTask, IsSomePoint}
use Rattle.tj_body.specs.declared.ask.Answer.{Answer}
use Rattle.tj_body.specs.declared.ask.Ask.{Ask}
use Rattle.tj_body.specs.declared.ask.Ask.TheVariants as ask
use Rattle.tj_body.specs.declared.point.Task.{Task}
use Rattle.tj_body.specs.declared.point.Point.{Point}

module _ {B : Type 0} (P : B → Type 0) where
  -- it holds of the body of a fork
  abbrev pub HoldsOfFork : Ask B → Type 0
  HoldsOfFork ask.New = Unit {0}
  HoldsOfFork (ask.Fork b pass hand) = P b
  HoldsOfFork (ask.Set k v) = Unit {0}
  HoldsOfFork (ask.Get k) = Unit {0}
  HoldsOfFork (ask.Join k) = Unit {0}
  HoldsOfFork (ask.GetOr k) = Unit {0}
  HoldsOfFork (ask.JoinOr k) = Unit {0}
  HoldsOfFork (ask.Emit i) = Unit {0}
  HoldsOfFork (ask.End v) = Unit {0}
  HoldsOfFork (ask.Fail t) = Unit {0}

  -- each ask keeps it
  abbrev pub IsKeptByAsks : Rules B → Type 0
  IsKeptByAsks rules = (b : B) (a : Answer) → P b → P (rules.then b a) × HoldsOfFork (rules.asks b a)

  -- it holds of the point's body and of what it has forked
  abbrev pub HoldsAt : Point B → Type 0
  HoldsAt p = P p.body × ((c : Task B) → IsIn c p.children → P c.body)

  -- it holds of each task of each round, and at each of its points
  abbrev pub HoldsInRounds : Program B → Type 0
  HoldsInRounds program = (t : Task B) → IsSomeTask program t
      → P t.body × ((p : Point B) → IsSomePoint program t p → HoldsAt p)
