-- Publish keeps the facts: a new cycle goes through the task that has just published.
use Rattle.std.proofs.Common.{◌≡◌, ◌≢◌, ◌⊎◌, ℕ, zero, suc, Bool, true, false, ◌&&◌, Some, None, refl, sym, ap, ◌∙◌}
use Rattle.std.proofs.Common.{subst, inl, inr, ⊎_elim, le_refl, arith}
use mathlib.Core.Logic.{dite}
use native.Mathlib.Decide.{ℕ_discrete}
use Rattle.tj_base.specs.ForkOrder.{before}
use Rattle.tj_base.specs.declared.cell.CellId.{CellId}
use Rattle.tj_events.specs.declared.event.Event.TheVariants.{Publish}
use Rattle.tj_events.specs.declared.walk.Way.{Way}
use Rattle.tj_events.specs.declared.walk.Way.TheVariants.{Along, Other}
use Rattle.tj_base.proofs.CyclesOn.{reach_moves, return_moves}
use Rattle.tj_events.specs.CoreState.{walks, CellStage, promise, fresh, running, raised, waits, ended, CoreState, name}
use Rattle.tj_events.specs.CoreState.{stage, wait, wait_of, is_task, IsTask, Lives}
use Rattle.tj_events.specs.Events.{Allowed, after, MayPublish, way_if}
use Rattle.tj_events.specs.Events.{way_of_wait, start_walk, raised_by, raised_by_way}
use Rattle.tj_events.specs.WaitGraph.{Leads, Reaches, IsOnCycleOf}
use Rattle.tj_events.specs.Facts.{Watches, LastCloserFact}
use Rattle.tj_events.specs.CoreFacts.{CoreFacts}
use Rattle.tj_events.proofs.Puts.{re_owner, re_here, re_else}
use Rattle.tj_events.proofs.OneCell.Frames.{Frame, some_none, leads_stays}
use Rattle.tj_events.proofs.Graph.WaitSteps.{cycle_at, cycle_leads}
use Rattle.tj_events.proofs.Graph.Watches.{watch_keeps, IsKept}
use Rattle.tj_events.proofs.OneCell.SoundTasks.{IsSoundWait}
use Rattle.tj_events.proofs.OneCell.CellChanges.{Fits, cell_frame, facts_by, sound_by, goes_by, kept_once}
use Rattle.tj_events.proofs.OneCell.RunChanges.{at_stage, stage_fits}

-- who may publish lives, doesn't wait, and has raised OTHERS by as much as its wait does
publishes_calmly : (way : Way) (st : CellStage)
    → MayPublish way st → Lives st × (wait_of st ≡ None) × (raised_by st ≡ raised_by_way way)
publishes_calmly Along promise h = absurd h
publishes_calmly Along fresh h = (tt, refl, refl)
publishes_calmly Along running h = (tt, refl, refl)
publishes_calmly Along raised h = absurd h
publishes_calmly Along (waits c way w) h = absurd h
publishes_calmly Along ended h = absurd h
publishes_calmly Other st h = (subst Lives (sym h) tt, ap wait_of h, ap raised_by h)

along_if : (task is_before : Bool) → way_if (task && is_before) ≡ Along → (task ≡ true) × (is_before ≡ true)
along_if true true e = (refl, refl)
along_if true false e = absurd (cc)
along_if false is_before e = absurd (cc)

module _ (s : CoreState) (x : CoreFacts s) (task cell : CellId) (N : ℕ) (may : Allowed N s (Publish task cell)) where
  abbrev t : ℕ
  t = task.0

  abbrev p : ℕ
  p = cell.0

  abbrev way : Way
  way = way_of_wait s t p

  -- the stage that is published
  abbrev new : CellStage
  new = waits p way (walks start_walk)

  abbrev z : CoreState
  z = after s (Publish task cell)

  calm : Lives (stage s.cells t) × (wait s.cells t ≡ None) × (raised_by (stage s.cells t) ≡ raised_by_way way)
  calm = publishes_calmly way (stage s.cells t) may.1

  fits : Fits s t (at_stage s x t (s.cells t).made new) s.count s.others s.cleared
  fits = stage_fits s x t (s.cells t).made new s.others s.cleared (le_refl (s.cells t).made) calm.0 tt tt
      (λ w e. some_none e calm.1) (let same = calm.2 in omega arith)

  frame : Frame s z
  frame = cell_frame s x t (at_stage s x t (s.cells t).made new) s.count s.others s.cleared fits

  here : stage z.cells t ≡ new
  here = re_here s t (λ _. new)

  stage_else : (u : ℕ) → u ≢ t → stage z.cells u ≡ stage s.cells u
  stage_else u d = re_else s t (λ _. new) u d

  -- who waited before is not the publisher
  waited_else : (u w : ℕ) → wait s.cells u ≡ Some w → u ≢ t
  waited_else u w e d = some_none e (ap (wait s.cells) d ∙ calm.1)

  -- a way of the state after either meets the publisher or was one before
  meets : (u k v : ℕ) → Reaches z.cells u k v → ((j : ℕ) × Reaches z.cells u j t) ⊎ Reaches s.cells u k v
  meets u zero v r = inr r
  meets u (suc k) v r = ⊎_elim
      (λ (m : (j : ℕ) × Reaches z.cells u j t). inl m)
      (λ (m : Reaches s.cells u k r.0). dite (ℕ_discrete r.0 t)
      (λ d. inl (k, subst (Reaches z.cells u k) d r.1))
      (λ d. inr (
        r.0,
        m,
        (
          r.2.0,
          sym (ap wait_of (stage_else r.0 d)) ∙ r.2.1,
          sym (re_owner s t (λ _. new) r.2.0) ∙ r.2.2,
        ),
      )))
      (meets u k r.0 r.1)

  -- a cycle that was there before still has its watcher
  old_closer : (u n : ℕ) → IsOnCycleOf z.cells u n → Reaches s.cells u n u
      → (k v : ℕ) × Reaches z.cells u k v × Watches z.cells n (stage z.cells v)
  old_closer u n c m =
      let two = leads_stays s z frame in
      let before_too : IsOnCycleOf s.cells u n = record {
        some = c.some;
        round = m;
        least = λ k a b r. c.least k a b (return_moves (Leads s.cells) (Leads z.cells) two u k a r);
      } in
      let w = x.last_closer u n before_too in
      let on_cycle = cycle_at s.cells u n w.0 w.1 before_too w.2 in
      let l = cycle_leads s.cells w.1 n on_cycle in (
        w.0,
        w.1,
        reach_moves (Leads s.cells) (Leads z.cells) two u w.0 w.1 l.0 w.2 l.1,
        subst (Watches z.cells n) (sym (stage_else w.1 (waited_else w.1 l.1.0 l.1.1)))
            (watch_keeps s z frame n w.1 (stage s.cells w.1) refl on_cycle w.3),
      )

  closer : LastCloserFact z.cells
  closer u n c = ⊎_elim
      (λ (m : (j : ℕ) × Reaches z.cells u j t). (m.0, t, m.1, subst (Watches z.cells n) (sym here) tt))
      (λ (m : Reaches s.cells u n u). old_closer u n c m)
      (meets u n u c.round)

  along : way ≡ Along → IsTask s.cells p × (before (name s.cells t) (name s.cells p) ≡ true)
  along e = along_if (is_task (stage s.cells p)) (before (name s.cells t) (name s.cells p)) e

  sound : IsSoundWait z t p way (walks start_walk)
  sound = record {
    there = may.0;
    for_task = λ e. frame.tasks p (along e).0;
    in_order = λ e. (λ i. before (frame.names t fits.inside i) (frame.names p may.0 i)) ∙ (along e).1;
    walk = record {
      nexts_there = tt;
      read_there = tt;
      trail = tt;
      last_read = refl;
      loads = refl;
      others_read = λ n e. absurd (cc);
    };
  }

  -- Publish keeps the facts
  pub keeps_publish : IsKept s z
  keeps_publish =
      let a = at_stage s x t (s.cells t).made new in
      kept_once s z (
        facts_by s x t a s.count s.others s.cleared fits
            (sound_by s x t a s.count s.others s.cleared fits sound) closer,
        goes_by s x t a s.count s.others s.cleared fits
            (λ m c q. let l = cycle_leads s.cells t m c in some_none l.1.1 calm.1),
      )
