-- The reads of a walker keep the facts.
use Rattle.std.proofs.Common.{◌*◌, ◌≡◌, ◌≢◌, ℕ, suc, ◌<◌, Bool, true, false, List, [], length, Option, Some, None}
use Rattle.std.proofs.Common.{refl, sym, ap, ◌∙◌, subst, inl, inr, ⊎_elim, arith, eq-eqb, eqb-true}
use native.Mathlib.Decide.{ℕ_discrete}
use mathlib.Core.Logic.{dite}
use Rattle.tj_base.specs.declared.cell.CellId.{CellId}
use Rattle.tj_events.specs.declared.event.Event.TheVariants.{LoadOthers, LoadCount, ReadOwner, ReadWait, ReadOwnerAgain}
use Rattle.tj_events.specs.declared.walk.Way.{Way}
use Rattle.tj_events.specs.declared.walk.Way.TheVariants.{Along, Other}
use Rattle.tj_events.specs.declared.walk.TrailLink.{TrailLink}
use Rattle.tj_events.specs.declared.walk.Walker.{Walker}
use Rattle.tj_events.specs.declared.walk.LastRead.TheVariants.{Published, SawOthers, Counted, SawOwner}
use Rattle.tj_events.specs.declared.walk.LastRead.TheVariants.{SawWait, Passed, Changed}
use Rattle.tj_events.specs.declared.walk.LastRead.{LastRead}
use Rattle.tj_events.specs.CoreState.{walks, CellStage, promise, fresh, running, raised, waits, ended}
use Rattle.tj_events.specs.CoreState.{CoreState, owner, stage, wait, wait_of, HasBegun, IsClosed, present}
use Rattle.tj_events.specs.Events.{Allowed, after, MayCount, MayReadOwner, walked, others_read}
use Rattle.tj_events.specs.Events.{count_read, owner_read, wait_read, wait_found, is_owner, owner_found, owner_again}
use Rattle.tj_events.specs.WaitGraph.{Reaches, IsOnCycleOf}
use Rattle.tj_events.specs.Facts.{IsReadThere, IsLastRead, AreLoads, IsPresentChain, Follows, IsOnCourse}
use Rattle.tj_events.specs.CoreFacts.{CoreFacts}
use Rattle.tj_events.proofs.Graph.WaitSteps.{some_same, cycle_at, cycle_leads, reach_one}
use Rattle.tj_events.proofs.Graph.Chains.{chain_owner}
use Rattle.tj_events.proofs.Graph.Watches.{IsKept}
use Rattle.tj_events.proofs.Graph.ForkOrders.{waiter_there, no_return}
use Rattle.tj_events.proofs.Graph.CycleLists.{cycle_fits}
use Rattle.tj_events.proofs.OneCell.SoundTasks.{IsSoundWalker}
use Rattle.tj_events.proofs.OneCell.WaitChanges.{walker_of, last_read_is, loads_are, restaged}

module _ (s : CoreState) (x : CoreFacts s) (task : CellId) where
  abbrev t : ℕ
  t = task.0

  -- a walker that has read more, and passed nobody by it, is sound as far as this read is
  read_more : {c : ℕ} {way : Way} {w : Walker} → IsSoundWalker s t c way w → (bound loads : ℕ) (last : LastRead)
      → IsReadThere s.count last → IsLastRead s.count s.cells t (present c w.trail) w.trail last
      → AreLoads (length w.trail) bound loads last → ((n : ℕ) → last ≡ SawOthers n → way ≡ Along)
      → IsSoundWalker s t c way (record { trail = w.trail; bound = bound; loads = loads; last = last })
  read_more h bound loads last there read load along = record {
    nexts_there = h.nexts_there;
    read_there = there;
    trail = h.trail;
    last_read = read;
    loads = load;
    others_read = along;
  }

  -- LoadOthers keeps the facts: where OTHERS is 0 no cycle stands
  pub keeps_load_others : (N : ℕ) → Allowed N s (LoadOthers task) → IsKept s (after s (LoadOthers task))
  keeps_load_others N (c, way, w, is, (is_along, at)) = let h = walker_of s x t c way w is in
      restaged s x t c way (walks w) (walks (others_read s.others w)) (walked (λ _ v. others_read s.others v)) is refl
      (read_more h w.bound w.loads (SawOthers s.others) tt (last_read_is s t c way w Published h at)
      (loads_are s t c way w Published h at) (λ _ _. is_along))
      (λ n cycle q. dite (ℕ_discrete s.others 0)
      (λ e. absurd (no_return s x e t n cycle.some cycle.round))
      (λ e. omega arith))

  nothing_read : (c : ℕ) (way : Way) (w : Walker)
      → IsSoundWalker s t c way w → MayCount way w → (w.trail ≡ []) × (w.loads ≡ 0)
  nothing_read c way w h may = ⊎_elim
      (λ (e : (way ≡ Other) × (w.last ≡ Published)).
      (last_read_is s t c way w Published h e.1, loads_are s t c way w Published h e.1))
      (λ (e : (n : ℕ) × (w.last ≡ SawOthers n) × (0 < n)).
      (last_read_is s t c way w (SawOthers e.0) h e.1, loads_are s t c way w (SawOthers e.0) h e.1))
      may

  -- LoadCount keeps the facts: a cycle's tasks are there, so the bound allows for them
  pub keeps_load_count : (N : ℕ) → Allowed N s (LoadCount task) → IsKept s (after s (LoadCount task))
  keeps_load_count N (c, way, w, is, may) =
      let h = walker_of s x t c way w is in
      let none = nothing_read c way w h may in
      restaged s x t c way (walks w) (walks (count_read s.count w)) (walked (λ _ v. count_read s.count v)) is refl
      (read_more h s.count w.loads Counted tt none.0 (
        none.1,
        (let l = waiter_there s x t c (ap wait_of is) in
            subst (λ (k : List TrailLink). length k < s.count) (sym none.0) (omega arith)),
      ) (λ n e. absurd (cc)))
      (λ n cycle q. (
        cycle_fits s t n cycle x,
        subst (λ (l : List TrailLink). length l < n) (sym none.0) cycle.some,
        subst (IsPresentChain s.cells c) (sym none.0) tt,
      ))

  ready_loads : (c : ℕ) (way : Way) (w : Walker)
      → IsSoundWalker s t c way w
      → MayReadOwner w
      → (w.loads ≡ 3 * length w.trail) × (length w.trail < w.bound)
  ready_loads c way w h may = ⊎_elim
      (λ (e : w.last ≡ Counted).
      let q = loads_are s t c way w Counted h e in
      let none = last_read_is s t c way w Counted h e in
      (q.0 ∙ sym (ap (λ (l : List TrailLink). 3 * length l) none), q.1))
      (λ (e : (w.last ≡ Passed) × (length w.trail < w.bound)).
      let q = loads_are s t c way w Passed h e.0 in (q.0, e.1))
      may

  ready_follows : (n c : ℕ) (w : Walker) → MayReadOwner w → IsOnCourse s.cells n c w w.last → Follows s.cells n c w
  ready_follows n c w may k = ⊎_elim
      (λ (e : w.last ≡ Counted). subst (IsOnCourse s.cells n c w) e k)
      (λ (e : (w.last ≡ Passed) × (length w.trail < w.bound)). subst (IsOnCourse s.cells n c w) e.0 k)
      may

  owner_now : (c : ℕ) (trail : List TrailLink) (o : Option ℕ)
      → owner s.cells c ≡ o → IsLastRead s.count s.cells t c trail (SawOwner o)
  owner_now c trail None e = tt
  owner_now c trail (Some u) e = (inl e, λ q. e ∙ ap (λ (k : ℕ). Some k) q)

  -- ReadOwner keeps the facts
  pub keeps_read_owner : (N : ℕ) → Allowed N s (ReadOwner task) → IsKept s (after s (ReadOwner task))
  keeps_read_owner N (c, way, w, is, may) =
      let h = walker_of s x t c way w is in
      let o = owner s.cells (present c w.trail) in
      restaged s x t c way (walks w) (walks (owner_read o w))
      (walked (λ k v. owner_read (owner s.cells (present k v.trail)) v)) is refl
      (read_more h w.bound (suc w.loads) (SawOwner o) tt (owner_now (present c w.trail) w.trail o refl)
      (let q = ready_loads c way w h may in (ap suc q.0 ∙ omega arith, q.1)) (λ n e. absurd (cc)))
      (λ n cycle q.
      let k = ready_follows n c w may q in
      let v = chain_owner s.cells t n c w.trail cycle (ap wait_of is) k.2 in
      (k, (v.0, v.1, refl)))

  waits_begun : (st : CellStage) (v : ℕ) → wait_of st ≡ Some v → HasBegun st
  waits_begun promise v e = absurd (cc)
  waits_begun fresh v e = absurd (cc)
  waits_begun running v e = tt
  waits_begun raised v e = tt
  waits_begun (waits c way w) v e = tt
  waits_begun ended v e = tt

  wait_now : (c u : ℕ) (trail : List TrailLink) (o : Option ℕ)
      → u ≢ t
      → wait s.cells u ≡ o
      → IsReadThere s.count (SawWait u o) × IsLastRead s.count s.cells t c trail (SawWait u o)
  wait_now c u trail None n e = (tt, n)
  wait_now c u trail (Some v) n e =
      (x.places.waits_there u v e, (n, waits_begun (stage s.cells u) v e, λ _. inl e))

  -- ReadWait keeps the facts
  pub keeps_read_wait : (N : ℕ) → Allowed N s (ReadWait task) → IsKept s (after s (ReadWait task))
  keeps_read_wait N (c, way, w, is, (u, at, n)) =
      let h = walker_of s x t c way w is in
      let now = wait_now (present c w.trail) u w.trail (wait s.cells u) n refl in
      restaged s x t c way (walks w) (walks (wait_found u (wait s.cells u) w))
      (walked (λ _ v. wait_read s.cells v v.last)) is (λ j. waits c way (walks (wait_read s.cells w (at j))))
      (read_more h w.bound (suc w.loads) (SawWait u (wait s.cells u)) now.0 now.1
      (let q = loads_are s t c way w (SawOwner (Some u)) h at in (ap suc q.0 ∙ omega arith, q.1)) (λ k e. absurd (cc)))
      (λ k cycle q.
      let g : IsOnCourse s.cells k c w (SawOwner (Some u)) = subst (IsOnCourse s.cells k c w) at q in
      let v = chain_owner s.cells t k c w.trail cycle (ap wait_of is) g.0.2 in
      let same : v.0 ≡ u = some_same v.0 u (owner s.cells (present c w.trail)) v.1 g.1.2 in
      let there : Reaches s.cells t (suc (length w.trail)) u =
      subst (Reaches s.cells t (suc (length w.trail))) same v.2 in
      let l = cycle_leads s.cells u k (cycle_at s.cells t k (suc (length w.trail)) u cycle there) in
      (g.0, g.1.2, (l.1.0, l.1.1, refl)))

  is_owner_test : (o : Option ℕ) (u : ℕ) → (is_owner o u ≡ true → o ≡ Some u) × (o ≡ Some u → is_owner o u ≡ true)
  is_owner_test (Some o) u =
      (λ e. ap (λ (k : ℕ). Some k) (eqb-true o u e), λ q. let same : o ≡ u = cc in eq-eqb o u same)
  is_owner_test None u = (λ e. absurd (cc), λ q. absurd (cc))

  -- the walker that has read the owner again, unchanged where b is true
  found_sound : (c : ℕ) (way : Way) (w : Walker) (u v : ℕ) (b : Bool)
      → IsSoundWalker s t c way w
      → w.last ≡ SawWait u (Some v)
      → (b ≡ true → owner s.cells (present c w.trail) ≡ Some u)
      → IsSoundWalker s t c way (owner_found b u v w)
  found_sound c way w u v true h at same =
      let r = last_read_is s t c way w (SawWait u (Some v)) h at in
      let q = loads_are s t c way w (SawWait u (Some v)) h at in record {
        nexts_there = (subst (IsReadThere s.count) at h.read_there, h.nexts_there);
        read_there = tt;
        trail = (
          r.0,
          ⊎_elim (λ (e : wait s.cells u ≡ Some v). inl (same refl, e))
              (λ (k : IsClosed s.count s.cells v). inr k) (r.2 (same refl)),
          h.trail,
        );
        last_read = tt;
        loads = let a = q.0 in let z = q.1 in (omega arith, omega arith);
        others_read = λ n e. absurd (cc);
      }
  found_sound c way w u v false h at same =
      let q = loads_are s t c way w (SawWait u (Some v)) h at in let a = q.0 in
      read_more h w.bound (suc w.loads) Changed tt tt (omega arith, q.1) (λ n e. absurd (cc))

  -- on a cycle the owner is found unchanged, and isn't the last of the cycle, which is the walker itself
  found_on_course : (n c u v : ℕ) (w : Walker) (b : Bool)
      → IsOnCycleOf s.cells t n
      → wait s.cells t ≡ Some c
      → u ≢ t
      → (owner s.cells (present c w.trail) ≡ Some u → b ≡ true)
      → IsOnCourse s.cells n c w (SawWait u (Some v))
      → IsOnCourse s.cells n c (owner_found b u v w) (owner_found b u v w).last
  found_on_course n c u v w true cycle is d same h = (
    h.0.0,
    (let y = chain_owner s.cells t n c w.trail cycle is h.0.2 in
        let q : y.0 ≡ u = some_same y.0 u (owner s.cells (present c w.trail)) y.1 h.1 in
        let l = h.0.1 in
        dite (ℕ_discrete (suc (length w.trail)) n)
        (λ e. absurd (d (sym q
        ∙ reach_one s.cells t n y.0 t (subst (λ z. Reaches s.cells t z y.0) e y.2) cycle.round)))
        (λ e. omega arith)),
    ((h.1, h.2.2), h.0.2),
  )
  found_on_course n c u v w false cycle is d same h = let q : false ≡ true = same h.1 in absurd (cc)

  -- ReadOwnerAgain keeps the facts
  pub keeps_read_again : (N : ℕ) → Allowed N s (ReadOwnerAgain task) → IsKept s (after s (ReadOwnerAgain task))
  keeps_read_again N (c, way, w, is, (u, v, at)) =
      let h = walker_of s x t c way w is in
      let o = owner s.cells (present c w.trail) in
      let test = is_owner_test o u in
      restaged s x t c way (walks w) (walks (owner_found (is_owner o u) u v w))
      (walked (λ k y. owner_again (owner s.cells (present k y.trail)) y y.last)) is
      (λ j. waits c way (walks (owner_again o w (at j))))
      (found_sound c way w u v (is_owner o u) h at test.0)
      (λ n cycle q. found_on_course n c u v w (is_owner o u) cycle (ap wait_of is)
      (last_read_is s t c way w (SawWait u (Some v)) h at).0 test.1 (subst (IsOnCourse s.cells n c w) at q))
