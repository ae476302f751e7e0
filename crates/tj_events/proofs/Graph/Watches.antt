-- Who watches a cycle goes on to watch it.
use Rattle.std.proofs.Common.{◌≡◌, ℕ, length, Some, refl, subst, le_refl, inl}
use Rattle.tj_base.proofs.CyclesOn.{reach_moves, cycle_moves}
use Rattle.tj_events.specs.CoreState.{walks, parked, alarmed, CellStage, promise, fresh, running, raised, waits, ended}
use Rattle.tj_events.specs.CoreState.{CoreState, owner, stage, wait, wait_of, present}
use Rattle.tj_events.specs.declared.walk.LastRead.{LastRead}
use Rattle.tj_events.specs.declared.walk.LastRead.TheVariants.{Published, SawOthers, Counted, SawOwner, SawWait, Passed}
use Rattle.tj_events.specs.declared.walk.LastRead.TheVariants.{Changed}
use Rattle.tj_events.specs.declared.walk.Walker.{Walker}
use Rattle.tj_events.specs.WaitGraph.{Leads, IsOnCycleOf}
use Rattle.tj_events.specs.Facts.{IsPresentChain, IsOnCourse, Watches, LastCloserFact}
use Rattle.tj_events.specs.CoreFacts.{CoreFacts}
use Rattle.tj_events.proofs.Graph.WaitSteps.{some_same, leads_one, cycle_at, cycle_next, cycle_leads}
use Rattle.tj_events.proofs.OneCell.Frames.{Frame, leads_stays, course_stays}
use Rattle.tj_events.proofs.Graph.Chains.{chain_end}

module _ (s s' : CoreState) (f : Frame s s') where
  course_by : (n p u : ℕ) (w : Walker) (a : LastRead)
      → wait s.cells u ≡ Some p
      → IsOnCycleOf s.cells u n
      → IsPresentChain s.cells p w.trail
      → IsOnCourse s.cells n p w a
      → IsOnCourse s'.cells n p w a
  course_by n p u w a is c chain h =
      let x = chain_end s.cells u p w.trail is chain in
      let cx = cycle_at s.cells u n (length w.trail) x.0 c x.1 in
      let v = cycle_leads s.cells x.0 n cx in
      let e : v.1.0 ≡ present p w.trail = some_same v.1.0 (present p w.trail) (wait s.cells x.0) v.1.1 x.2 in
      let y = cycle_leads s.cells v.0 n (cycle_next s.cells x.0 n v.0 cx v.1) in
      course_stays s s' f n p v.0 w a
      (subst (λ z. owner s.cells z ≡ Some v.0) e v.1.2, (y.1.0, y.1.1, (y.0, y.1.2))) h

  course_keeps : (n p u : ℕ) (w : Walker) (a : LastRead)
      → wait s.cells u ≡ Some p
      → IsOnCycleOf s.cells u n
      → IsOnCourse s.cells n p w a
      → IsOnCourse s'.cells n p w a
  course_keeps n p u w Published is c h = tt
  course_keeps n p u w Counted is c h = course_by n p u w Counted is c h.2 h
  course_keeps n p u w (SawOwner o) is c h = course_by n p u w (SawOwner o) is c h.0.2 h
  course_keeps n p u w (SawWait x o) is c h = course_by n p u w (SawWait x o) is c h.0.2 h
  course_keeps n p u w Passed is c h = course_by n p u w Passed is c h.2 h
  course_keeps n p u w a is c h = h

  -- a task on a cycle that takes no part in the event goes on to watch it
  pub watch_keeps : (n u : ℕ) (st : CellStage)
      → wait s.cells u ≡ wait_of st
      → IsOnCycleOf s.cells u n
      → Watches s.cells n st
      → Watches s'.cells n st
  watch_keeps n u (waits p way (walks w)) is c h = course_keeps n p u w w.last is c h
  watch_keeps n u (waits p way parked) is c h = h
  watch_keeps n u (waits p way alarmed) is c h = h
  watch_keeps n u promise is c h = h
  watch_keeps n u fresh is c h = h
  watch_keeps n u running is c h = h
  watch_keeps n u raised is c h = h
  watch_keeps n u ended is c h = h

  -- where no new way goes on, and each watcher goes on, each cycle has one
  pub closer_keeps :
      ((t u v : ℕ) → Leads s'.cells t u → Leads s'.cells u v → Leads s.cells t u)
      → ((u n : ℕ) → IsOnCycleOf s.cells u n
      → Watches s.cells n (stage s.cells u) → Watches s'.cells n (stage s'.cells u))
      → LastCloserFact s.cells
      → LastCloserFact s'.cells
  closer_keeps from own h t n c =
      let two = leads_stays s s' f in
      let c' = cycle_moves (Leads s'.cells) (Leads s.cells) from (leads_one s'.cells) (leads_one s.cells) t n c in
      let r = h t n c' in
      let cu = cycle_at s.cells t n r.0 r.1 c' r.2 in
      let l = cycle_leads s.cells r.1 n cu in
      (r.0, r.1, reach_moves (Leads s.cells) (Leads s'.cells) two t r.0 r.1 l.0 r.2 l.1, own r.1 n cu r.3)

-- what goes on over an event
pub record GoesOn (s s' : CoreState) : Type 0 where
  pub frame : Frame s s'
  pub own : (u n : ℕ)
      → IsOnCycleOf s.cells u n → Watches s.cells n (stage s.cells u) → Watches s'.cells n (stage s'.cells u)

-- where only OTHERS and the waits cleared differ, nothing has changed for those that take no part
pub same_frame : (s : CoreState) (o k : ℕ)
    → Frame s (record { count = s.count; cells = s.cells; others = o; cleared = k })
same_frame s o k = record {
  grows = le_refl s.count;
  closes = λ c h. h;
  owns = λ c u w a b. a;
  waited = λ u w e. inl e;
  back = λ c u _ _ e. e;
  begins = λ u b. b;
  gives = λ c u e. inl e;
  names = λ c l. refl;
  makers = λ c l. refl;
  makes = λ c l. le_refl (s.cells c).made;
  tasks = λ c e. e;
}

-- and all goes on
pub same_goes_on : (s : CoreState) (o k : ℕ)
    → GoesOn s (record { count = s.count; cells = s.cells; others = o; cleared = k })
same_goes_on s o k = record { frame = same_frame s o k; own = λ u n c h. h }

-- the facts hold after, and what went on went on in two parts
abbrev pub IsKept : CoreState → CoreState → Type 0
IsKept s s' = CoreFacts s' × ((mid : CoreState) × GoesOn s mid × GoesOn mid s')
