-- The laws of the detector over legal runs.
use Rattle.std.proofs.Common.{◌≡◌, ℕ, List, [], ◌∷◌, ◌++◌, refl, sym, subst}
use Rattle.tj_events.specs.declared.event.Event.{Event}
use Rattle.tj_events.specs.declared.event.Event.TheVariants.{Publish, Settle}
use Rattle.tj_events.specs.CoreState.{CoreState, root_alone}
use Rattle.tj_events.specs.Events.{after}
use Rattle.tj_events.specs.Runs.{AreAllowed, after_all}
use Rattle.tj_events.specs.WaitGraph.{IsCycle, IsOnCycle}
use Rattle.tj_events.specs.RunLaws.{run_to, LegalSettlesAreOffCycles, LegalCyclesStand, LegalAlarmsAreOnCycles}
use Rattle.tj_events.specs.RunLaws.{LegalCyclesAreWatched, LegalLoadsAreBounded}
use Rattle.tj_events.proofs.Events.EventEffects.{event_keeps_cycles}
use Rattle.tj_events.proofs.Events.LegalRuns.{kept_by_run, legal_facts, settles_off_cycles}
use Rattle.tj_events.proofs.Graph.WatchedCycles.{alarms_on_cycles, cycles_watched, loads_bounded}

-- a run in two parts
allowed_parts : (N : ℕ) (s : CoreState) (es fs : List Event)
    → AreAllowed N s (es ++ fs) → AreAllowed N s es × AreAllowed N (after_all s es) fs
allowed_parts N s [] fs a = (tt, a)
allowed_parts N s (e ∷ es) fs a = let r = allowed_parts N (after s e) es fs a.1 in ((a.0, r.0), r.1)

after_parts : (s : CoreState) (es fs : List Event) → after_all s (es ++ fs) ≡ after_all (after_all s es) fs
after_parts s [] fs = refl
after_parts s (e ∷ es) fs = after_parts (after s e) es fs

-- in every legal run a task settles only where no cycle through it stood just after it had published
pub legal_settles : LegalSettlesAreOffCycles
legal_settles N before between t p legal =
    let s = run_to before in
    let a = allowed_parts N root_alone before (Publish t p ∷ (between ++ Settle t ∷ [])) legal in
    let b = allowed_parts N (after s (Publish t p)) between (Settle t ∷ []) a.1.1 in
    subst (λ (z : CoreState). ¬ IsOnCycle z.cells t.0) (sym (after_parts root_alone before (Publish t p ∷ [])))
    (settles_off_cycles N s t p between (legal_facts N before a.0) (a.1.0, b.0) b.1.0)

-- in every legal run a standing cycle stands ever after
pub legal_cycles_stand : LegalCyclesStand
legal_cycles_stand N es later tasks legal c =
    let a = allowed_parts N root_alone es later legal in
    subst (λ (z : CoreState). IsCycle z.cells tasks) (sym (after_parts root_alone es later))
    (kept_by_run N (λ z. IsCycle z.cells tasks) (λ s e. event_keeps_cycles N s e tasks) (run_to es) later
    (legal_facts N es a.0) a.1 c)

-- in every legal run a task that has alarmed is the first of a standing cycle, then and ever after
pub legal_alarms : LegalAlarmsAreOnCycles
legal_alarms N es later t legal has_alarmed =
    let a = allowed_parts N root_alone es later legal in
    let list = alarms_on_cycles (run_to es) t (legal_facts N es a.0) has_alarmed in
    (list.0, list.1, legal_cycles_stand N es later (t ∷ list.0) legal list.1)

-- in every legal run each standing cycle has a member that has alarmed or has an open walk
pub legal_watched : LegalCyclesAreWatched
legal_watched N es tasks legal = cycles_watched (run_to es) tasks (legal_facts N es legal)

-- in every legal run a walk with bound n has made at most 3n loads
pub legal_loads : LegalLoadsAreBounded
legal_loads N es t legal = loads_bounded (run_to es) t (legal_facts N es legal)
