-- A waiting task changes what it does, and keeps the facts.
use Rattle.std.proofs.Common.{◌≡◌, ℕ, length, Some, sym, ap, ◌∙◌, subst, inl, le_refl, arith}
use Rattle.tj_events.specs.declared.walk.LastRead.{LastRead}
use Rattle.tj_events.specs.declared.walk.Walker.{Walker}
use Rattle.tj_events.specs.declared.walk.Way.{Way}
use Rattle.tj_events.specs.CoreState.{WaitStage, walks, CellStage, waits, CoreState, stage, wait, wait_of, Lives}
use Rattle.tj_events.specs.CoreState.{HasBegun, present}
use Rattle.tj_events.specs.Events.{restage, raised_by}
use Rattle.tj_events.specs.WaitGraph.{IsOnCycleOf}
use Rattle.tj_events.specs.Facts.{IsLastRead, AreLoads, Watches}
use Rattle.tj_events.specs.CoreFacts.{CoreFacts}
use Rattle.tj_events.proofs.Graph.Watches.{watch_keeps, IsKept}
use Rattle.tj_events.proofs.OneCell.SoundTasks.{IsSoundWalker, IsSoundWalk, IsSoundWait, IsSound, sound_of, sound_stays}
use Rattle.tj_events.proofs.OneCell.CellChanges.{with_cell, Fits, cell_frame, kept_by, kept_once}
use Rattle.tj_events.proofs.OneCell.RunChanges.{at_stage, stage_fits}

-- what the facts say of a task that waits
pub wait_of_task : (s : CoreState) → CoreFacts s → (t c : ℕ) (way : Way) (w : WaitStage)
    → stage s.cells t ≡ waits c way w → IsSoundWait s t c way w
wait_of_task s x t c way w is = subst (IsSound s t) is (sound_of s x t)

-- what the facts say of a walker
pub walker_of : (s : CoreState) → CoreFacts s → (t c : ℕ) (way : Way) (w : Walker)
    → stage s.cells t ≡ waits c way (walks w) → IsSoundWalker s t c way w
walker_of s x t c way w is = (wait_of_task s x t c way (walks w) is).walk

-- what they say of its last read
pub last_read_is : (s : CoreState) (t c : ℕ) (way : Way) (w : Walker) (a : LastRead)
    → IsSoundWalker s t c way w → w.last ≡ a → IsLastRead s.count s.cells t (present c w.trail) w.trail a
last_read_is s t c way w a h e = subst (IsLastRead s.count s.cells t (present c w.trail) w.trail) e h.last_read

-- and of its loads
pub loads_are : (s : CoreState) (t c : ℕ) (way : Way) (w : Walker) (a : LastRead)
    → IsSoundWalker s t c way w → w.last ≡ a → AreLoads (length w.trail) w.bound w.loads a
loads_are s t c way w a h e = subst (AreLoads (length w.trail) w.bound w.loads) e h.loads

module _ (s : CoreState) (x : CoreFacts s) (t c : ℕ) (way : Way) (w w' : WaitStage) (g : CellStage → CellStage)
    (is : stage s.cells t ≡ waits c way w) (to : g (waits c way w) ≡ waits c way w') where
  -- what the new stage owes, it owes in the state before
  pub restaged : IsSoundWalk s t c way w'
      → ((n : ℕ) → IsOnCycleOf s.cells t n
      → Watches s.cells n (waits c way w) → Watches s.cells n (waits c way w'))
      → IsKept s (restage s t g)
  restaged walk watches =
      let st = g (stage s.cells t) in
      let a = at_stage s x t (s.cells t).made st in
      let z = with_cell s t a s.count s.others s.cleared in
      let e : st ≡ waits c way w' = ap g is ∙ to in
      let waits_so : wait s.cells t ≡ Some c = ap wait_of is in
      let fits : Fits s t a s.count s.others s.cleared =
      stage_fits s x t (s.cells t).made st s.others s.cleared (le_refl (s.cells t).made)
      (subst Lives (sym is) tt) (subst Lives (sym e) tt) (subst HasBegun (sym e) tt)
      (λ v q. inl (ap wait_of e ∙ (sym waits_so ∙ q)))
      (let r : raised_by st ≡ raised_by (stage s.cells t) = ap raised_by e ∙ sym (ap raised_by is) in omega arith) in
      let frame = cell_frame s x t a s.count s.others s.cleared fits in
      let was = wait_of_task s x t c way w is in
      let now : IsSoundWait s t c way w' = record {
        there = was.there;
        for_task = was.for_task;
        in_order = was.in_order;
        walk = walk;
      } in
      kept_once s z (kept_by s x t a s.count s.others s.cleared fits
      (λ v q. waits_so ∙ (sym (ap wait_of e) ∙ q))
      (subst (IsSound z t) (sym e) (sound_stays s z frame x t (waits c way w') waits_so now))
      (λ n cycle q. subst (Watches z.cells n) (sym e) (watch_keeps s z frame n t (waits c way w') waits_so cycle
      (watches n cycle (subst (Watches s.cells n) is q)))))
