-- The laws of the detector in each state that meets the facts.
use Rattle.std.proofs.Common.{◌≡◌, ◌⊎◌, ℕ, zero, nat_eq, ◌*◌, ◌≤◌, [], ◌∷◌, length, refl, inl, inr, arith}
use Rattle.tj_events.specs.declared.walk.LastRead.{LastRead}
use Rattle.tj_events.specs.declared.walk.LastRead.TheVariants.{Published, SawOthers, Counted, SawOwner, SawWait, Passed}
use Rattle.tj_events.specs.declared.walk.LastRead.TheVariants.{Changed}
use Rattle.tj_events.specs.CoreState.{walks, parked, alarmed, CellStage, promise, fresh, running, raised, waits, ended}
use Rattle.tj_events.specs.CoreState.{CoreState, stage}
use Rattle.tj_events.specs.WaitGraph.{Leads}
use Rattle.tj_events.specs.Facts.{Watches, AreLoads}
use Rattle.tj_events.specs.StateLaws.{HasAlarmed, HasOpenWalk, AlarmsAreOnCycles, CyclesAreWatched, LoadsAreBounded}
use Rattle.tj_base.proofs.CycleLists.{reached_contained}
use Rattle.tj_events.proofs.Graph.WaitSteps.{leads_one, same_numbers}
use Rattle.tj_events.proofs.Graph.CycleLists.{cycles_return, returns_are_cycles}
use Rattle.tj_events.proofs.Events.LegalRuns.{on_course_open}

-- who watches a cycle has alarmed or has an open walk
watcher : (s : CoreState) (n u : ℕ) (st : CellStage)
    → stage s.cells u ≡ st → Watches s.cells n st → HasAlarmed s u ⊎ HasOpenWalk s u
watcher s n u promise e h = absurd h
watcher s n u fresh e h = absurd h
watcher s n u running e h = absurd h
watcher s n u raised e h = absurd h
watcher s n u (waits c way (walks w)) e h = inr (c, way, w, e, on_course_open s.cells n c w h)
watcher s n u (waits c way parked) e h = absurd h
watcher s n u (waits c way alarmed) e h = inl (c, way, e)
watcher s n u ended e h = absurd h

-- a task that has alarmed is the first of a standing cycle
pub alarms_on_cycles : AlarmsAreOnCycles
alarms_on_cycles s t x (c, way, is) =
    let on_cycle = x.alarm t c way is in
    let list = returns_are_cycles s.cells t on_cycle.0 on_cycle.1 in (list.0, list.1)

-- each standing cycle has a member that has alarmed or has an open walk
pub cycles_watched : CyclesAreWatched
cycles_watched s [] x c = absurd c
cycles_watched s (t ∷ ts) x c =
    let on_cycle = cycles_return s.cells (t ∷ ts) t c (zero, omega arith, refl) in
    let w = x.last_closer t (length (t ∷ ts)) on_cycle in (
      w.1,
      reached_contained (Leads s.cells) (leads_one s.cells) nat_eq same_numbers t ts c w.0 w.1 w.2,
      watcher s (length (t ∷ ts)) w.1 (stage s.cells w.1) refl w.3,
    )

-- a walk with bound n has made at most 3n loads
pub loads_bounded : LoadsAreBounded
loads_bounded s t x c way w is = by_read (length w.trail) w.bound w.loads w.last (x.loads t c way w is)
  where
    by_read : (len bound loads : ℕ) (a : LastRead) → AreLoads len bound loads a → loads ≤ 3 * bound
    by_read len bound loads Published h = omega arith
    by_read len bound loads (SawOthers n) h = omega arith
    by_read len bound loads Counted h = let a = h.0 in omega arith
    by_read len bound loads (SawOwner o) h = let a = h.0 in let b = h.1 in omega arith
    by_read len bound loads (SawWait u o) h = let a = h.0 in let b = h.1 in omega arith
    by_read len bound loads Passed h = let a = h.0 in let b = h.1 in omega arith
    by_read len bound loads Changed h = let a = h.0 in let b = h.1 in omega arith
