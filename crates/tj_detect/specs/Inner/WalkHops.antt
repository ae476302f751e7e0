-- The parts of a walk: what the reads of one owner come to, and what all reads from the count of the cells on.
use Rattle.std.specs.Prelude.{◌≡◌, ◌≢◌, ◌⊎◌, ℕ, ◌+◌, ◌*◌, ◌<◌, ◌≤◌, true, [], ◌∷◌, Option, Some, None}
use Rattle.tj_events.specs.declared.walk.Way.{Way}
use Rattle.tj_events.specs.declared.walk.Walker.{Walker}
use Rattle.tj_events.specs.Events.{owner_read, wait_found, owner_found, MayCount, MaySettle}
use Rattle.tj_words.specs.declared.view.Custody.{Custody}
use Rattle.tj_words.specs.declared.view.Does.TheVariants as does
use Rattle.tj_words.specs.declared.view.View.{View}
use Rattle.tj_words.specs.LawParts.Holding.{held_in}
use Rattle.tj_words.specs.Steps.StepEvents.{wait_in}
use Rattle.tj_words.specs.declared.phase.Phase.{Phase}
use Rattle.tj_detect.specs.BlockLogs.{EndsAtOwner, Makes, PassesOwner, Seat, owner_seen, phase_seen}
use Rattle.tj_detect.specs.Blocks.{IsLoad, IsWalkOf, EndsWith, does_after, tokens_given, doing}
use Rattle.tj_detect.specs.declared.blocking.Verdict.{Verdict}
use Rattle.tj_detect.specs.declared.blocking.Verdict.TheVariants.{Skipped}
use Rattle.tj_detect.specs.declared.blocking.Hop.{Hop}
use Rattle.tj_detect.specs.declared.blocking.Hop.TheVariants.{Next, Ended, Own}

-- the walker after it has passed the owner u that it has read, which waits for x
abbrev pub passed_on : ℕ → ℕ → Walker → Walker
passed_on u x w = owner_found true u x (wait_found u (Some x) w)

module _ {B : Type 0} where
  -- the seat holds t, which walks for its wait for q, with this walker
  abbrev pub WalksWith : ℕ → ℕ → Way → Walker → View B → Type 0
  WalksWith t q way w v = (k : Custody B) × (held_in v.tasks t ≡ Some k) × (k.does ≡ does.Walking q way w)

  -- by so many steps the walker w of t has become w', with the counts of steps before and after
  pub record WalksOn (t q : ℕ) (way : Way) (w w' : Walker) (n old new : ℕ) (v v' : View B) : Type 0 where
    pub walk : IsWalkOf t way w → IsWalkOf t way w'
    pub counted : new ≡ old + n
    pub view : v' ≡ doing t (does.Walking q way w') n 0 v

  -- by at most so many loads, each a step, the walker w has come to the end of its walk
  pub record EndsOn (t q : ℕ) (way : Way) (w : Walker) (most old new : ℕ) (v v' : View B) : Type 0 where
    pub walker : Walker
    pub loads : ℕ
    pub came : WalksOn t q way w walker loads old new v v'
    pub settles : MaySettle walker
    pub by_load : IsLoad walker.last
    pub bound : walker.bound ≡ w.bound
    pub loaded : walker.loads ≡ loads + w.loads
    pub few : loads ≤ most

  -- what the reads of one owner came to, by the walker before them, in a table of so many cells
  abbrev pub Hops : ℕ → Hop → ℕ → ℕ → Way → Walker → ℕ → ℕ → View B → View B → Type 0
  Hops cells (Next x) t q way w old new v v' = (x.0 < cells)
      × ((u : ℕ) × WalksOn t q way w (passed_on u x.0 (owner_read (Some u) w)) 3 old new v v')
  Hops cells Ended t q way w old new v v' = EndsOn t q way w 3 old new v v'
  Hops cells Own t q way w old new v v' = WalksOn t q way w (owner_read (Some t) w) 1 old new v v'

  -- the same of the reads after the first one, which has found u
  abbrev pub Passes : ℕ → Hop → ℕ → ℕ → ℕ → Way → Walker → ℕ → ℕ → View B → View B → Type 0
  Passes cells (Next x) u t q way w old new v v' = (x.0 < cells)
      × WalksOn t q way w (passed_on u x.0 w) 2 old new v v'
  Passes cells Ended u t q way w old new v v' = EndsOn t q way w 2 old new v v'
  Passes cells Own u t q way w old new v v' = ⊥

  -- t walks for its wait for q, and the number of cells is read next; nothing lies at home of it, and the seat has room
  -- for a token
  pub record IsAtCount (t q : ℕ) (way : Way) (v : View B) : Type 0 where
    pub custody : Custody B
    pub walker : Walker
    pub held : held_in v.tasks t ≡ Some custody
    pub walks : custody.does ≡ does.Walking q way walker
    pub out : custody.home ≡ None
    pub room : v.tokens < v.lot
    pub walk : IsWalkOf t way walker
    pub may : MayCount way walker
    pub trail : walker.trail ≡ []
    pub loads : walker.loads ≡ 0

  -- what a walk came to from the count of the cells on
  pub record Comes (verdict : Verdict) (t q : ℕ) (way : Way) (old new : ℕ) (v w : View B) : Type 0 where
    pub walker : Walker
    pub steps : ℕ
    pub walked : verdict ≢ Skipped
    pub walk : IsWalkOf t way walker
    pub ends : EndsWith verdict t way walker
    pub few_loads : walker.loads ≤ 3 * walker.bound
    pub few_steps : steps ≤ 3 * walker.bound + 1
    pub counted : new ≡ old + steps
    pub view : w ≡ doing t (does_after verdict q way walker) steps (tokens_given verdict) v

  -- the loads of OWN of p, of PHASE of its owner u and of OWN again, after OWN named u, came to this
  abbrev pub MakesSecondLook : ℕ → ℕ → Hop → Seat B → Seat B → Type 0
  MakesSecondLook p u (Next next) old new = (was : Phase) × (wait_in was ≡ Some next.0)
      × Makes (owner_seen p (Some u) ∷ phase_seen u was ∷ []) old new
  MakesSecondLook p u Ended old new = ((was : Phase) × (wait_in was ≡ None) × Makes (phase_seen u was ∷ []) old new)
      ⊎ ((next : ℕ) × (was : Phase) × (again : Option ℕ) × (wait_in was ≡ Some next) × (again ≢ Some u)
      × Makes (owner_seen p again ∷ phase_seen u was ∷ []) old new)
  MakesSecondLook p u Own old new = ⊥

  -- the loads of a walk of t at its cell p came to this
  abbrev pub MakesHop : ℕ → ℕ → Hop → Seat B → Seat B → Type 0
  MakesHop t p (Next next) old new = PassesOwner t p next.0 old new
  MakesHop t p Ended old new = EndsAtOwner t p old new
  MakesHop t p Own old new = Makes (owner_seen p (Some t) ∷ []) old new
