-- The ends of a walk, by an alarm or without, keep the facts.
use Rattle.std.proofs.Common.{◌≡◌, ℕ, suc, List, [], ◌∷◌, length, Some, refl, ap, ⊎_elim, arith}
use Rattle.tj_base.specs.declared.cell.CellId.{CellId}
use Rattle.tj_events.specs.declared.event.Event.TheVariants.{Alarm, Settle}
use Rattle.tj_events.specs.declared.walk.TrailLink.{TrailLink}
use Rattle.tj_events.specs.declared.walk.Walker.{Walker}
use Rattle.tj_events.specs.declared.walk.LastRead.{LastRead}
use Rattle.tj_events.specs.declared.walk.LastRead.TheVariants.{Published, SawOthers, Counted, SawOwner, SawWait, Passed}
use Rattle.tj_events.specs.declared.walk.LastRead.TheVariants.{Changed}
use Rattle.tj_events.specs.CoreState.{walks, parked, alarmed, Cells, CoreState, owner, wait, wait_of, IsClosed, present}
use Rattle.tj_events.specs.Events.{Allowed, after, EndsWalk, walk_ended}
use Rattle.tj_events.specs.WaitGraph.{Reaches, IsOnCycle}
use Rattle.tj_events.specs.Facts.{IsLinked, IsTrail, IsOnCourse}
use Rattle.tj_events.specs.CoreFacts.{CoreFacts}
use Rattle.tj_events.proofs.OneCell.Frames.{some_none}
use Rattle.tj_events.proofs.Graph.WaitSteps.{round_least}
use Rattle.tj_events.proofs.Graph.Watches.{IsKept}
use Rattle.tj_events.proofs.OneCell.WaitChanges.{walker_of, last_read_is, restaged}

-- a walk that ends is off course
pub off_course : (cells : Cells) (n c : ℕ) (w : Walker) (a : LastRead)
    → EndsWalk (length w.trail) w.bound a → IsOnCourse cells n c w a → ⊥
off_course cells n c w (SawOthers j) o k = omega arith
off_course cells n c w (SawOwner q) o k = some_none k.1.1 o
off_course cells n c w (SawWait u q) o k = some_none k.2.1 o
off_course cells n c w Passed o k = let a = k.0 in let b = k.1 in omega arith
off_course cells n c w Changed o k = k
off_course cells n c w a o k = o

module _ (s : CoreState) (x : CoreFacts s) (task : CellId) where
  abbrev t : ℕ
  t = task.0

  -- a trail to an owned cell is unbroken
  unbroken : (c y : ℕ) (ls : List TrailLink)
      → wait s.cells t ≡ Some c
      → IsTrail s.count s.cells t c ls
      → owner s.cells (present c ls) ≡ Some y
      → Reaches s.cells t (suc (length ls)) y
  unbroken c y [] w h o = (t, refl, (c, w, o))
  unbroken c y (l ∷ ls) w h o = ⊎_elim
      (λ (k : IsLinked s.cells (present c ls) l.owner l.next).
      (l.owner, unbroken c l.owner ls w h.2 k.0, (l.next, k.1, o)))
      (λ (k : IsClosed s.count s.cells l.next). some_none o k.1)
      h.1

  -- a walker that may alarm owns its present cell, so its trail is a cycle
  pub alarm_on_cycle : (N : ℕ) → Allowed N s (Alarm task) → IsOnCycle s.cells t
  alarm_on_cycle N (c, way, w, is, at) =
      let h = walker_of s x t c way w is in
      let r = last_read_is s t c way w (SawOwner (Some t)) h at in
      let len = length w.trail in
      round_least s.cells t (suc len) (omega arith) (unbroken c t w.trail (ap wait_of is) h.trail (r.1 refl))

  -- Alarm keeps the facts
  pub keeps_alarm : (N : ℕ) → Allowed N s (Alarm task) → IsKept s (after s (Alarm task))
  keeps_alarm N (c, way, w, is, at) =
      restaged s x t c way (walks w) alarmed (walk_ended alarmed) is refl
      (alarm_on_cycle N (c, way, w, is, at))
      (λ n cycle q. tt)

  -- Settle keeps the facts: who settles is off course
  pub keeps_settle : (N : ℕ) → Allowed N s (Settle task) → IsKept s (after s (Settle task))
  keeps_settle N (c, way, w, is, ends) =
      restaged s x t c way (walks w) parked (walk_ended parked) is refl tt
      (λ n cycle q. off_course s.cells n c w w.last ends q)
