-- What a walking task does next.
use Rattle.std.proofs.Common.{◌≡◌, ◌≢◌, ◌⊎◌, ℕ, ◌<◌, cond, nat_eq, length, Some, None, refl, sym, ap, ◌∙◌, subst, inl, inr, ⊎_elim, arith, eq-eqb, ne_eqb}
use native.Mathlib.Decide.{ℕ_discrete}
use mathlib.Core.Logic.{dite}
use Rattle.tj_base.specs.declared.cell.CellId.{CellId}
use Rattle.tj_events.specs.declared.event.Event.{Event}
use Rattle.tj_events.specs.declared.event.Event.TheVariants.{Make, Fork, Hand, Close, Raise, Publish, LoadOthers, LoadCount, ReadOwner, ReadWait, ReadOwnerAgain, Alarm, Settle, Unwait, Lower}
use Rattle.tj_events.specs.declared.walk.Way.{Way}
use Rattle.tj_events.specs.declared.walk.Way.TheVariants.{Along, Other}
use Rattle.tj_events.specs.declared.walk.Walker.{Walker}
use Rattle.tj_events.specs.declared.walk.LastRead.{LastRead}
use Rattle.tj_events.specs.declared.walk.LastRead.TheVariants.{Published, SawOthers, Counted, SawOwner, SawWait, Passed, Changed}
use Rattle.tj_events.specs.CoreState.{walks, parked, raised, waits, CoreState, stage, Runs}
use Rattle.tj_events.specs.Events.{Allowed, Walks, MayPublish, EndsWalk, IsRunning, way_of_wait}
use Rattle.tj_events.specs.Facts.{AreLoads}
use Rattle.tj_events.specs.Laws.{actor, HasOneEvent, WalkersHaveOneEvent}

abbrev cell : ℕ → CellId
cell t = record { 0 = t }

-- the next event of a walker, by its way, the length of its trail, its bound and its last read
abbrev next : ℕ → Way → ℕ → ℕ → LastRead → Event
next t Along len bound Published = LoadOthers (cell t)
next t Other len bound Published = LoadCount (cell t)
next t way len bound (SawOthers n) = cond (nat_eq n 0) (Settle (cell t)) (LoadCount (cell t))
next t way len bound Counted = ReadOwner (cell t)
next t way len bound (SawOwner None) = Settle (cell t)
next t way len bound (SawOwner (Some u)) = cond (nat_eq u t) (Alarm (cell t)) (ReadWait (cell t))
next t way len bound (SawWait u None) = Settle (cell t)
next t way len bound (SawWait u (Some v)) = ReadOwnerAgain (cell t)
next t way len bound Passed = cond (nat_eq len bound) (Settle (cell t)) (ReadOwner (cell t))
next t way len bound Changed = Settle (cell t)

next_actor : (t : ℕ) (way : Way) (len bound : ℕ) (a : LastRead) → actor (next t way len bound a) ≡ Some t
next_actor t Along len bound Published = refl
next_actor t Other len bound Published = refl
next_actor t way len bound (SawOthers n) = dite (ℕ_discrete n 0) (λ e. rw (eq-eqb n 0 e) refl)
    (λ e. rw (ne_eqb n 0 e) refl)
next_actor t way len bound Counted = refl
next_actor t way len bound (SawOwner None) = refl
next_actor t way len bound (SawOwner (Some u)) = dite (ℕ_discrete u t) (λ e. rw (eq-eqb u t e) refl)
    (λ e. rw (ne_eqb u t e) refl)
next_actor t way len bound (SawWait u None) = refl
next_actor t way len bound (SawWait u (Some v)) = refl
next_actor t way len bound Passed = dite (ℕ_discrete len bound) (λ e. rw (eq-eqb len bound e) refl)
    (λ e. rw (ne_eqb len bound e) refl)
next_actor t way len bound Changed = refl

-- a walk that is at its end settles
next_settles : (t : ℕ) (way : Way) (len bound : ℕ) (a : LastRead) → EndsWalk len bound a → Settle (cell t) ≡ next t way
    len bound a
next_settles t way len bound (SawOthers n) h = rw (eq-eqb n 0 h) refl
next_settles t way len bound (SawOwner None) h = refl
next_settles t way len bound (SawOwner (Some u)) h = absurd (cc)
next_settles t way len bound (SawWait u None) h = refl
next_settles t way len bound (SawWait u (Some v)) h = absurd (cc)
next_settles t way len bound Passed h = rw (eq-eqb len bound h) refl
next_settles t way len bound Changed h = refl
next_settles t way len bound a h = absurd h

module _ (N : ℕ) (s : CoreState) (t c : ℕ) (way : Way) (w : Walker) (is : stage s.cells t ≡ waits c way (walks w)) where
  abbrev turn : Event
  turn = next t way (length w.trail) w.bound w.last

  -- what is so of a walk of t is so of this one
  same_walk : (F : ℕ → Way → Walker → Type 0) (u : ℕ) → u ≡ t → Walks s u F → F c way w
  same_walk F u e k =
      let q : waits c way (walks w) ≡ waits k.0 k.1 (walks k.2) = sym is ∙ (ap (stage s.cells) (sym e) ∙ k.3) in
      let a : c ≡ k.0 = cc in let b : way ≡ k.1 = cc in let d : w ≡ k.2 = cc in
      let p : F k.0 k.1 k.2 ≡ F c way w = sym (λ i. F (a i) (b i) (d i)) in subst (λ (Z : Type 0). Z) p k.4

  not_running : (u : ℕ) → u ≡ t → IsRunning s u → ⊥
  not_running u e r = subst Runs (ap (stage s.cells) e ∙ is) r

  not_publishing : (u : ℕ) (to : Way) → u ≡ t → MayPublish to (stage s.cells u) → ⊥
  not_publishing u Along e r = not_running u e r
  not_publishing u Other e r = let q : waits c way (walks w) ≡ raised = sym is ∙ (ap (stage s.cells) (sym e) ∙ r) in
      absurd (cc)

  -- the event of a walker is the next one
  only_next : (e : Event) → actor e ≡ Some t → Allowed N s e → e ≡ turn
  only_next (Make u) h a = let e : u.0 ≡ t = cc in absurd (not_running u.0 e a.0)
  only_next (Fork u) h a = let e : u.0 ≡ t = cc in absurd (not_running u.0 e a.0)
  only_next (Hand u p k) h a = let e : u.0 ≡ t = cc in absurd (not_running u.0 e a.0)
  only_next (Close u p) h a = let e : u.0 ≡ t = cc in absurd (not_running u.0 e a.0)
  only_next (Raise u) h a = let e : u.0 ≡ t = cc in absurd (not_running u.0 e a)
  only_next (Publish u p) h a = let e : u.0 ≡ t = cc in absurd (not_publishing u.0 (way_of_wait s u.0 p.0) e a.1)
  only_next (LoadOthers u) h a =
      let e : u.0 ≡ t = cc in let k = same_walk (λ c way w. (way ≡ Along) × (w.last ≡ Published)) u.0 e a in
      (λ i. LoadOthers (cell (e i))) ∙ (λ i. next t (sym k.0 i) (length w.trail) w.bound (sym k.1 i))
  only_next (LoadCount u) h a = let e : u.0 ≡ t = cc in
      (λ i. LoadCount (cell (e i))) ∙ ⊎_elim
      (λ (k : (way ≡ Other) × (w.last ≡ Published)). λ i. next t (sym k.0 i) (length w.trail) w.bound (sym k.1 i))
      (λ (k : (n : ℕ) × (w.last ≡ SawOthers n) × (0 < n)).
      sym (ap (next t way (length w.trail) w.bound) k.1
      ∙ (let d : k.0 ≢ 0 = (λ q. let g = k.2 in omega arith) in rw (ne_eqb k.0 0 d) refl)))
      (same_walk (λ c way w. ((way ≡ Other) × (w.last ≡ Published)) ⊎ ((n : ℕ) × (w.last ≡ SawOthers n) × (0 < n))) u.0
      e a)
  only_next (ReadOwner u) h a = let e : u.0 ≡ t = cc in
      (λ i. ReadOwner (cell (e i))) ∙ ⊎_elim
      (λ (k : w.last ≡ Counted). ap (next t way (length w.trail) w.bound) (sym k))
      (λ (k : (w.last ≡ Passed) × (length w.trail < w.bound)).
      sym (ap (next t way (length w.trail) w.bound) k.0
      ∙ (let d : length w.trail ≢ w.bound = (λ q. let g = k.1 in omega arith) in rw
      (ne_eqb (length w.trail) w.bound d) refl)))
      (same_walk (λ c way w. (w.last ≡ Counted) ⊎ ((w.last ≡ Passed) × (length w.trail < w.bound))) u.0 e a)
  only_next (ReadWait u) h a =
      let e : u.0 ≡ t = cc in let k = same_walk (λ c way w. (v : ℕ) × (w.last ≡ SawOwner (Some v)) × (v ≢ u.0)) u.0 e a
      in
      let d : k.0 ≢ t = (λ q. k.2 (q ∙ sym e)) in
      (λ i. ReadWait (cell (e i))) ∙ sym (ap (next t way (length w.trail) w.bound) k.1 ∙ rw (ne_eqb k.0 t d) refl)
  only_next (ReadOwnerAgain u) h a =
      let e : u.0 ≡ t = cc in let k = same_walk (λ c way w. (v x : ℕ) × (w.last ≡ SawWait v (Some x))) u.0 e a in
      (λ i. ReadOwnerAgain (cell (e i))) ∙ ap (next t way (length w.trail) w.bound) (sym k.2)
  only_next (Alarm u) h a =
      let e : u.0 ≡ t = cc in let k = same_walk (λ c way w. w.last ≡ SawOwner (Some u.0)) u.0 e a in
      (λ i. Alarm (cell (e i))) ∙ sym (ap (next t way (length w.trail) w.bound) k ∙ rw (eq-eqb u.0 t e) refl)
  only_next (Settle u) h a =
      let e : u.0 ≡ t = cc in let k = same_walk (λ c way w. EndsWalk (length w.trail) w.bound w.last) u.0 e a in
      (λ i. Settle (cell (e i))) ∙ next_settles t way (length w.trail) w.bound w.last k
  only_next (Unwait u) h a =
      let e : u.0 ≡ t = cc in
      let q : waits c way (walks w) ≡ waits a.0 a.1 parked = sym is ∙ (ap (stage s.cells) (sym e) ∙ a.2) in absurd (cc)
  only_next Lower h a = absurd (cc)

  -- the next event is allowed
  allowed_next : (to : Way) → way ≡ to → (a : LastRead) → w.last ≡ a → AreLoads (length w.trail) w.bound w.loads a
      → Allowed N s (next t to (length w.trail) w.bound a)
  allowed_next Along h Published e l = (c, way, w, is, (h, e))
  allowed_next Other h Published e l = (c, way, w, is, inl (h, e))
  allowed_next to h (SawOthers n) e l = dite (ℕ_discrete n 0)
      (λ z. rw (eq-eqb n 0 z) (c, way, w, is, subst (EndsWalk (length w.trail) w.bound) (sym e) z))
      (λ z. rw (ne_eqb n 0 z) (c, way, w, is, inr (n, e, omega arith)))
  allowed_next to h Counted e l = (c, way, w, is, inl e)
  allowed_next to h (SawOwner None) e l = (c, way, w, is, subst (EndsWalk (length w.trail) w.bound) (sym e) refl)
  allowed_next to h (SawOwner (Some u)) e l = dite (ℕ_discrete u t)
      (λ z. rw (eq-eqb u t z) (c, way, w, is, e ∙ (λ i. SawOwner (Some (z i)))))
      (λ z. rw (ne_eqb u t z) (c, way, w, is, (u, e, z)))
  allowed_next to h (SawWait u None) e l = (c, way, w, is, subst (EndsWalk (length w.trail) w.bound) (sym e) refl)
  allowed_next to h (SawWait u (Some v)) e l = (c, way, w, is, (u, v, e))
  allowed_next to h Passed e l = dite (ℕ_discrete (length w.trail) w.bound)
      (λ z. rw (eq-eqb (length w.trail) w.bound z) (c, way, w, is, subst (EndsWalk (length w.trail) w.bound) (sym e) z))
      (λ z. rw (ne_eqb (length w.trail) w.bound z) (c, way, w, is, inr (e, (let g = l.1 in omega arith))))
  allowed_next to h Changed e l = (c, way, w, is, subst (EndsWalk (length w.trail) w.bound) (sym e) tt)

  pub one_event : AreLoads (length w.trail) w.bound w.loads w.last → HasOneEvent N s t
  one_event l = record {
    event = turn;
    its_own = next_actor t way (length w.trail) w.bound w.last;
    is_allowed = allowed_next way refl w.last refl l;
    only = only_next;
  }

pub walkers_have_one_event : WalkersHaveOneEvent
walkers_have_one_event N s t x (c, way, w, is, _) = one_event N s t c way w is (x.loads t c way w is)
