-- The facts of one task at its stage, how they stay over an event, and the facts of a state from those of its tasks.
use Rattle.std.proofs.Common.{◌≡◌, ℕ, ◌<◌, ◌≤◌, true, [], ◌∷◌, List, length, Some, None, refl, ap, ◌∙◌, subst}
use Rattle.std.proofs.Common.{lt_of_lt_of_le}
use Rattle.tj_base.specs.ForkOrder.{before}
use Rattle.tj_events.specs.declared.walk.Way.{Way}
use Rattle.tj_events.specs.declared.walk.Way.TheVariants.{Along}
use Rattle.tj_events.specs.declared.walk.LastRead.TheVariants.{SawOthers}
use Rattle.tj_events.specs.declared.walk.TrailLink.{TrailLink}
use Rattle.tj_events.specs.declared.walk.Walker.{Walker}
use Rattle.tj_events.specs.CoreState.{WaitStage, walks, parked, alarmed, CellStage, promise, fresh, running, raised}
use Rattle.tj_events.specs.CoreState.{waits, ended, CoreState, blank, name}
use Rattle.tj_events.specs.CoreState.{stage, wait, wait_of, IsTask, Lives, is_task}
use Rattle.tj_events.specs.CoreState.{present}
use Rattle.tj_events.specs.WaitGraph.{IsOnCycle}
use Rattle.tj_events.specs.Facts.{AreNextsThere, IsReadThere, IsTrail, IsLastRead, AreLoads, MakersFact, OwnersFact}
use Rattle.tj_events.specs.Facts.{OthersCountFact, LastCloserFact}
use Rattle.tj_events.specs.CoreFacts.{CoreFacts}
use Rattle.tj_events.proofs.OneCell.Frames.{Frame, nexts_stay, read_stays, trail_stays, last_read_stays}
use Rattle.tj_events.proofs.Graph.Chains.{on_cycle_on}
use Rattle.tj_events.proofs.Graph.ForkOrders.{waiter_there}

-- the facts of a walker of t, which waits for c
pub record IsSoundWalker (s : CoreState) (t c : ℕ) (way : Way) (w : Walker) : Type 0 where
  pub nexts_there : AreNextsThere s.count w.trail
  pub read_there : IsReadThere s.count w.last
  pub trail : IsTrail s.count s.cells t c w.trail
  pub last_read : IsLastRead s.count s.cells t (present c w.trail) w.trail w.last
  pub loads : AreLoads (length w.trail) w.bound w.loads w.last
  pub others_read : (n : ℕ) → w.last ≡ SawOthers n → way ≡ Along

-- the facts of what t does while it waits for c
abbrev pub IsSoundWalk : CoreState → ℕ → ℕ → Way → WaitStage → Type 0
IsSoundWalk s t c way (walks w) = IsSoundWalker s t c way w
IsSoundWalk s t c way parked = Unit {0}
IsSoundWalk s t c way alarmed = IsOnCycle s.cells t

-- the facts of a wait of t for c
pub record IsSoundWait (s : CoreState) (t c : ℕ) (way : Way) (w : WaitStage) : Type 0 where
  pub there : c < s.count
  pub for_task : way ≡ Along → IsTask s.cells c
  pub in_order : way ≡ Along → before (name s.cells t) (name s.cells c) ≡ true
  pub walk : IsSoundWalk s t c way w

-- the facts of a task at this stage
abbrev pub IsSound : CoreState → ℕ → CellStage → Type 0
IsSound s t promise = Unit {0}
IsSound s t fresh = Unit {0}
IsSound s t running = Unit {0}
IsSound s t raised = Unit {0}
IsSound s t (waits c way w) = IsSoundWait s t c way w
IsSound s t ended = Unit {0}

-- a stage that doesn't wait is sound
pub calm_sound : (s : CoreState) (t : ℕ) (st : CellStage) → wait_of st ≡ None → IsSound s t st
calm_sound s t promise e = tt
calm_sound s t fresh e = tt
calm_sound s t running e = tt
calm_sound s t raised e = tt
calm_sound s t (waits c way w) e = absurd (cc)
calm_sound s t ended e = tt

-- who lives is a task
pub lives_task : (st : CellStage) → Lives st → is_task st ≡ true
lives_task promise l = absurd l
lives_task fresh l = refl
lives_task running l = refl
lives_task raised l = refl
lives_task (waits c way w) l = refl
lives_task ended l = refl

-- the present cell of a walk is there
pub present_there : (n c : ℕ) (ls : List TrailLink) → c < n → AreNextsThere n ls → present c ls < n
present_there n c [] h ls = h
present_there n c (l ∷ ls) h r = r.0

-- what the facts say of one task
pub sound_of : (s : CoreState) → CoreFacts s → (t : ℕ) → IsSound s t (stage s.cells t)
sound_of s x t = at_stage (stage s.cells t) refl
  where
    walk_of : (c : ℕ) (way : Way) (w : WaitStage) → stage s.cells t ≡ waits c way w → IsSoundWalk s t c way w
    walk_of c way (walks w) e = record {
      nexts_there = x.places.nexts_there t c way w e;
      read_there = x.places.reads_there t c way w e;
      trail = x.trail t c way w e;
      last_read = x.last_reads t c way w e;
      loads = x.loads t c way w e;
      others_read = x.others_read t c way w e;
    }
    walk_of c way parked e = tt
    walk_of c way alarmed e = x.alarm t c way e

    at_way : (c : ℕ) (way : Way) (w : WaitStage)
        → stage s.cells t ≡ waits c way w → way ≡ Along → stage s.cells t ≡ waits c Along w
    at_way c way w e a = e ∙ ap (λ (v : Way). waits c v w) a

    at_stage : (st : CellStage) → stage s.cells t ≡ st → IsSound s t st
    at_stage promise e = tt
    at_stage fresh e = tt
    at_stage running e = tt
    at_stage raised e = tt
    at_stage (waits c way w) e = record {
      there = x.places.waits_there t c (ap wait_of e);
      for_task = λ a. x.along_waits.for_task t c w (at_way c way w e a);
      in_order = λ a. x.along_waits.in_order t c w (at_way c way w e a);
      walk = walk_of c way w e;
    }
    at_stage ended e = tt

module _ (s s' : CoreState) (f : Frame s s') (x : CoreFacts s) (t : ℕ) where
  walk_stays : (c : ℕ) (way : Way) (w : WaitStage)
      → c < s.count → wait s.cells t ≡ Some c → IsSoundWalk s t c way w → IsSoundWalk s' t c way w
  walk_stays c way (walks w) l e h = record {
    nexts_there = nexts_stay s s' f w.trail h.nexts_there;
    read_there = read_stays s s' f w.last h.read_there;
    trail = trail_stays s s' f t c w.trail h.trail;
    last_read = last_read_stays s s' f t c (present c w.trail) w.trail w.last
        (present_there s.count c w.trail l h.nexts_there) e h.last_read;
    loads = h.loads;
    others_read = h.others_read;
  }
  walk_stays c way parked l e h = tt
  walk_stays c way alarmed l e h = on_cycle_on s s' f t h

  -- a task that waits for the same cell before an event stays sound over it
  pub sound_stays : (st : CellStage) → wait s.cells t ≡ wait_of st → IsSound s t st → IsSound s' t st
  sound_stays promise e h = tt
  sound_stays fresh e h = tt
  sound_stays running e h = tt
  sound_stays raised e h = tt
  sound_stays (waits c way w) e h = record {
    there = lt_of_lt_of_le h.there f.grows;
    for_task = λ a. f.tasks c (h.for_task a);
    in_order = λ a. (λ i. before (f.names t (waiter_there s x t c e) i) (f.names c h.there i)) ∙ h.in_order a;
    walk = walk_stays c way w h.there e h.walk;
  }
  sound_stays ended e h = tt

-- what makes the facts of a state
pub record IsMade (s : CoreState) : Type 0 where
  pub blanks : (c : ℕ) → s.count ≤ c → s.cells c ≡ blank
  pub makers : MakersFact s.count s.cells
  pub owners : OwnersFact s.cells
  pub others_count : OthersCountFact s.count s.cells s.others s.cleared
  pub sound : (t : ℕ) → IsSound s t (stage s.cells t)
  pub last_closer : LastCloserFact s.cells

-- the facts of a state from those of its tasks
pub all_facts : (s : CoreState) → IsMade s → CoreFacts s
all_facts s h = record {
  places = record {
    blanks = h.blanks;
    waits_there = λ t c e. waited_there t c (stage s.cells t) (h.sound t) e;
    nexts_there = λ t c way w e. (wait_at t c way (walks w) e).walk.nexts_there;
    reads_there = λ t c way w e. (wait_at t c way (walks w) e).walk.read_there;
  };
  makers = h.makers;
  owners = h.owners;
  along_waits = record {
    for_task = λ t c w e. (wait_at t c Along w e).for_task refl;
    in_order = λ t c w e. (wait_at t c Along w e).in_order refl;
  };
  others_count = h.others_count;
  trail = λ t c way w e. (wait_at t c way (walks w) e).walk.trail;
  last_reads = λ t c way w e. (wait_at t c way (walks w) e).walk.last_read;
  loads = λ t c way w e. (wait_at t c way (walks w) e).walk.loads;
  others_read = λ t c way w e. (wait_at t c way (walks w) e).walk.others_read;
  last_closer = h.last_closer;
  alarm = λ t c way e. (wait_at t c way alarmed e).walk;
}
  where
    wait_at : (t c : ℕ) (way : Way) (w : WaitStage) → stage s.cells t ≡ waits c way w → IsSoundWait s t c way w
    wait_at t c way w e = subst (IsSound s t) e (h.sound t)

    waited_there : (t c : ℕ) (st : CellStage) → IsSound s t st → wait_of st ≡ Some c → c < s.count
    waited_there t c promise k e = absurd (cc)
    waited_there t c fresh k e = absurd (cc)
    waited_there t c running k e = absurd (cc)
    waited_there t c raised k e = absurd (cc)
    waited_there t c (waits d way w) k e = let q : d ≡ c = cc in subst (λ j. j < s.count) q k.there
    waited_there t c ended k e = absurd (cc)
