-- What a word can't be at a moment at which a seat has such a view.
use Rattle.std.specs.Prelude.{◌≡◌, ◌≢◌, ℕ, suc, ◌<◌, ◌≤◌, Bool, List, Some}
use mathlib.Core.Option.{some}
use lib.ListN.{get_elem?}
use Rattle.tj_body.specs.Points.{IsIn}
use Rattle.tj_body.specs.Programs.{Program}
use Rattle.tj_body.specs.RoundPoints.{InRounds}
use Rattle.tj_body.specs.declared.point.Reference.{Reference}
use Rattle.tj_words.specs.declared.table.Key.{Key}
use Rattle.tj_words.specs.declared.view.About.{About}
use Rattle.tj_words.specs.declared.view.Custody.{Custody}
use Rattle.tj_words.specs.declared.view.View.{View}
use Rattle.tj_words.specs.CallLaws.RestedRuns.{Ruled}
use Rattle.tj_words.specs.LawParts.Holding.{held_in, phase_of}
use Rattle.tj_words.specs.LawParts.TreeWords.{IsCell}
use Rattle.tj_words.specs.Words.Phases.{phase_in}
use Rattle.tj_words.specs.Words.Offsets.{count_at, live_at, others_at, own_at, phase_at, stop_at, word}

module _ (B : Type 0) where
  -- this is so of the words and the view of each seat, at each moment
  abbrev pub OfEachSeat : ((Bool → B → Program B) → List ℕ → View B → Type 0) → Type 0
  OfEachSeat P = (program : Bool → B → Program B) (key : Key B) (u : Ruled program key) (id : ℕ) (v : View B)
      → get_elem? u.now.views id ≡ some v → P program u.now.words v

  -- LIVE counts the seat's tokens
  abbrev pub LiveCountsTokens : Type 0
  LiveCountsTokens = OfEachSeat (λ program ws v. v.tokens ≤ word ws live_at)

  -- COUNT is above each cell that the seat knows
  abbrev pub CountIsAbove : Type 0
  CountIsAbove = OfEachSeat (λ program ws v. (c : ℕ) → IsIn c v.known → c < word ws count_at)

  -- OWN of a cell that stands in the list of a task that the seat holds is that task
  abbrev pub OwnerIsTheTask : Type 0
  OwnerIsTheTask = OfEachSeat (λ program ws v. (c t : ℕ) (k : Custody B) → held_in v.tasks t ≡ Some k
      → IsIn c k.owned → word ws (own_at c) ≡ suc t)

  -- PHASE of a task that the seat holds is what the task does
  abbrev pub PhaseIsDone : Type 0
  PhaseIsDone = OfEachSeat (λ program ws v. (t : ℕ) (k : Custody B) → held_in v.tasks t ≡ Some k
      → phase_in (word ws (phase_at t)) ≡ phase_of k.does)

  -- OTHERS counts the waits that the seat has cleared
  abbrev pub OthersCountsCleared : Type 0
  OthersCountsCleared = OfEachSeat (λ program ws v. v.cleared ≤ word ws others_at)

  -- STOP isn't 0 where the seat has stored something there
  abbrev pub StopStands : Type 0
  StopStands = OfEachSeat (λ program ws v. (k : ℕ) → IsIn k v.stored → word ws stop_at ≢ 0)

  -- the name of a cell that the seat knows is one of some round
  abbrev pub NamesAreOfRounds : Type 0
  NamesAreOfRounds = OfEachSeat (λ program ws v. (c : ℕ) (a : About B) (x : Reference) → v.about ≡ Some a
      → IsCell v.born c x → InRounds (program a.strict a.root) x.name)
