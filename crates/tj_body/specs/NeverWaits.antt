-- Meanings in which no task waits: where tasks wait in the fork order, and under the strict rule without gets.
use Rattle.std.specs.Prelude.{◌≡◌, ℕ, Bool, true, List}
use Rattle.tj_base.specs.ForkOrder.{Name, IsBefore}
use Rattle.tj_body.specs.Asks.{Fits}
use Rattle.tj_body.specs.Programs.{Rules, Program, strictly}
use Rattle.tj_body.specs.Rounds.{meaning, IsFull}
use Rattle.tj_body.specs.Points.{IsIn}
use Rattle.tj_body.specs.declared.ask.Answer.{Answer}
use Rattle.tj_body.specs.declared.ask.Ask.{Ask}
use Rattle.tj_body.specs.declared.ask.Ask.TheVariants as ask
use Rattle.tj_body.specs.declared.point.PointStage.TheVariants as stage
use Rattle.tj_body.specs.declared.point.Point.{Point}

module _ {B : Type 0} where
  -- none of these histories waits
  abbrev pub NoneWaits : List (Point B) → Type 0
  NoneWaits ps = (p : Point B) (q : Name) (spare : Bool) → IsIn p ps → ¬ (p.stage ≡ stage.Waits q spare)

  -- each of these histories that waits does so for the result of the task of one of them, which its own task is before
  abbrev pub WaitInOrder : List (Point B) → Type 0
  WaitInOrder ps = (p : Point B) (q : Name) (spare : Bool) → IsIn p ps → p.stage ≡ stage.Waits q spare
      → (u : Point B) × IsIn u ps × (u.name ≡ q) × IsBefore p.name u.name

  -- the ask is no get, and a fork's body passes the test
  abbrev pub IsNoGet : (B → Bool) → Ask B → Type 0
  IsNoGet calm ask.New = Unit {0}
  IsNoGet calm (ask.Fork b pass hand) = calm b ≡ true
  IsNoGet calm (ask.Set k v) = Unit {0}
  IsNoGet calm (ask.Get k) = ⊥
  IsNoGet calm (ask.Join k) = Unit {0}
  IsNoGet calm (ask.GetOr k) = ⊥
  IsNoGet calm (ask.JoinOr k) = Unit {0}
  IsNoGet calm (ask.Emit i) = Unit {0}
  IsNoGet calm (ask.End v) = Unit {0}
  IsNoGet calm (ask.Fail t) = Unit {0}

  -- a body that passes the test never asks for a get, nor does one that it forks: whatever it is answered, its ask is
  -- no get, a fork's body passes the test, and so does the body from then on
  abbrev pub IsWithoutGet : Rules B → (B → Bool) → Type 0
  IsWithoutGet rules calm = (b : B) (a : Answer) → calm b ≡ true → Fits (rules.awaits b) (rules.places b) a
      → IsNoGet calm (rules.asks b a) × (calm (rules.then b a) ≡ true)

module _ {B : Type 0} (program : Program B) where
  -- in a meaning that isn't full, where those tasks that wait do so in the fork order, none waits
  abbrev pub JoinsInOrderEnd : Type 0
  JoinsInOrderEnd = (N : ℕ) → ¬ IsFull program N → WaitInOrder (meaning program N) → NoneWaits (meaning program N)

  -- under the strict rule, in a meaning that isn't full, of a root that passes such a test, no task waits
  abbrev pub StrictWithoutGetEnds : Type 0
  StrictWithoutGetEnds = (calm : B → Bool) → IsWithoutGet program.rules calm → calm program.root ≡ true → (N : ℕ)
      → ¬ IsFull (strictly program) N → NoneWaits (meaning (strictly program) N)
