-- What happens once in a legal run.
use Rattle.std.proofs.Common.{◌≡◌, ◌≢◌, ◌⊎◌, ℕ, ◌<◌, ◌≤◌, nat_eq, Bool, true, false, List, [], ◌∷◌, ◌++◌, Option, Some}
use Rattle.std.proofs.Common.{None, refl, sym, ap, ◌∙◌, subst, arith, inl, inr, ⊎_elim}
use native.Mathlib.Decide.{dec_le, ℕ_discrete}
use mathlib.Core.Logic.{dite}
use Rattle.tj_base.specs.declared.cell.CellId.{CellId}
use Rattle.tj_base.specs.Puts.{put}
use Rattle.tj_base.proofs.Puts.{at_put, put_else, put_here}
use Rattle.tj_events.specs.declared.event.Event.{Event}
use Rattle.tj_events.specs.declared.event.Event.TheVariants.{Make, Fork, Hand, Close, Raise, Publish, LoadOthers}
use Rattle.tj_events.specs.declared.event.Event.TheVariants.{LoadCount, ReadOwner, ReadWait, ReadOwnerAgain, Alarm}
use Rattle.tj_events.specs.declared.event.Event.TheVariants.{Settle, Unwait, Lower}
use Rattle.tj_events.specs.declared.walk.Way.{Way}
use Rattle.tj_events.specs.declared.walk.Way.TheVariants.{Along, Other}
use Rattle.tj_events.specs.declared.walk.Walker.{Walker}
use Rattle.tj_events.specs.CoreState.{parked, alarmed, walks, waits, promise, fresh, running, raised, ended, CellStage}
use Rattle.tj_events.specs.CoreState.{CoreState, CellState, IsClosed, Runs, blank, is_task, owner, present, root}
use Rattle.tj_events.specs.CoreState.{root_alone, stage, wait_of}
use Rattle.tj_events.specs.Events.{Allowed, MayPublish, MaySettle, Walks, WalksAt, after, alter, count_read, new_cell}
use Rattle.tj_events.specs.Events.{one_made, others_read, owned_by, owner_again, owner_read, restage, stage_after_close}
use Rattle.tj_events.specs.Events.{start_walk, wait_read, walk_ended, walked, way_of_wait, with_new}
use Rattle.tj_events.specs.Laws.{actor}
use Rattle.tj_events.specs.RunLaws.{run_to}
use Rattle.tj_events.specs.Runs.{AreAllowed, after_all}
use Rattle.tj_events.specs.CoreFacts.{CoreFacts}
use Rattle.tj_events.proofs.Puts.{re_here}
use Rattle.tj_events.proofs.Graph.ForkOrders.{owned_there, task_there, waiter_there}
use Rattle.tj_events.proofs.Events.EachEvent.{facts_after_event, kept_by_event}
use Rattle.tj_events.proofs.Events.EventEffects.{event_keeps_alarms, event_leaves_others}
use Rattle.tj_events.proofs.Events.LegalRuns.{kept_by_run, legal_facts, start_facts}
use Rattle.tj_laws.specs.Closes.{AreOfOthers, ClosersOwn, ClosesAreOnce, UnwaitsHaveSettled, AlarmsAreLast}

-- a run in two parts
pub two_parts : (N : ℕ) (s : CoreState) (es fs : List Event) → AreAllowed N s (es ++ fs)
    → AreAllowed N s es × AreAllowed N (after_all s es) fs
two_parts N s [] fs a = (tt, a)
two_parts N s (e ∷ es) fs a = let r = two_parts N (after s e) es fs a.1 in ((a.0, r.0), r.1)

pub closers_own : ClosersOwn
closers_own N before t p legal = (two_parts N root_alone before (Close t p ∷ []) legal).1.0.1

-- a cell that is closed is nobody's from then on
stays_closed : (N : ℕ) (c : ℕ) (s : CoreState) (e : Event) → CoreFacts s → Allowed N s e
    → IsClosed s.count s.cells c → IsClosed (after s e).count (after s e).cells c
stays_closed N c s e x a k = let m = kept_by_event N s e x a in m.1.2.frame.closes c (m.1.1.frame.closes c k)

pub closes_once : ClosesAreOnce
closes_once N before between t u p legal = let e = both in absurd (cc)
  where
    a : AreAllowed N root_alone before × AreAllowed N (run_to before) (Close t p ∷ (between ++ Close u p ∷ []))
    a = two_parts N root_alone before (Close t p ∷ (between ++ Close u p ∷ [])) legal

    s : CoreState
    s = run_to before

    x : CoreFacts s
    x = legal_facts N before a.0

    z : CoreState
    z = after s (Close t p)

    b : AreAllowed N z between × AreAllowed N (after_all z between) (Close u p ∷ [])
    b = two_parts N z between (Close u p ∷ []) a.1.1

    free : owner z.cells p.0 ≡ None
    free = ap (λ (y : CellState). y.owner)
        (put_here (restage s t.0 (λ _. stage_after_close (nat_eq p.0 t.0))).cells p.0
        (owned_by None ((restage s t.0 (λ _. stage_after_close (nat_eq p.0 t.0))).cells p.0)))

    closed : IsClosed (after_all z between).count (after_all z between).cells p.0
    closed = kept_by_run N (λ y. IsClosed y.count y.cells p.0) (stays_closed N p.0) z between
        (facts_after_event N s (Close t p) x a.1.0) b.0 (owned_there s x p.0 t.0 a.1.0.1, free)

    both : Some u.0 ≡ None
    both = sym b.1.0.1 ∙ closed.1

-- Alarms.
module _ (s : CoreState) (t c : ℕ) (way : Way) (is : stage s.cells t ≡ waits c way alarmed) where
  at_actor : (u : ℕ) → Some u ≡ Some t → stage s.cells u ≡ waits c way alarmed
  at_actor u e = let q : u ≡ t = cc in ap (stage s.cells) q ∙ is

  no_run : (u : ℕ) → Some u ≡ Some t → Runs (stage s.cells u) → ⊥
  no_run u e r = subst Runs (at_actor u e) r

  no_publish : (u : ℕ) → Some u ≡ Some t → (to : Way) → MayPublish to (stage s.cells u) → ⊥
  no_publish u e Along r = no_run u e r
  no_publish u e Other r = let q : waits c way alarmed ≡ raised = sym (at_actor u e) ∙ r in absurd (cc)

  no_walk : (u : ℕ) → Some u ≡ Some t → (F : ℕ → Way → Walker → Type 0) → Walks s u F → ⊥
  no_walk u e F k = let q : waits c way alarmed ≡ waits k.0 k.1 (walks k.2) = sym (at_actor u e) ∙ k.3 in absurd (cc)

  no_unwait : (u : ℕ) → Some u ≡ Some t → (p : ℕ) (to : Way) → stage s.cells u ≡ waits p to parked → ⊥
  no_unwait u e p to k = let q : waits c way alarmed ≡ waits p to parked = sym (at_actor u e) ∙ k in absurd (cc)

  -- a task that has alarmed has no event
  no_event : (N : ℕ) (e : Event) → Allowed N s e → actor e ≢ Some t
  no_event N (Make u) a e = no_run u.0 e a.0
  no_event N (Fork u) a e = no_run u.0 e a.0
  no_event N (Hand u p h) a e = no_run u.0 e a.0
  no_event N (Close u p) a e = no_run u.0 e a.0
  no_event N (Raise u) a e = no_run u.0 e a
  no_event N (Publish u p) a e = no_publish u.0 e (way_of_wait s u.0 p.0) a.1
  no_event N (LoadOthers u) a e = no_walk u.0 e _ a
  no_event N (LoadCount u) a e = no_walk u.0 e _ a
  no_event N (ReadOwner u) a e = no_walk u.0 e _ a
  no_event N (ReadWait u) a e = no_walk u.0 e _ a
  no_event N (ReadOwnerAgain u) a e = no_walk u.0 e _ a
  no_event N (Alarm u) a e = no_walk u.0 e _ a
  no_event N (Settle u) a e = no_walk u.0 e _ a
  no_event N (Unwait u) a e = no_unwait u.0 e a.0 a.1 a.2
  no_event N Lower a e = absurd (cc)

-- what a walker's alarm makes of its stage
alarmed_now : (st : CellStage) → WalksAt st (λ c way w. Unit {0})
    → (c : ℕ) × (way : Way) × (walk_ended alarmed st ≡ waits c way alarmed)
alarmed_now st (c, way, w, is, h) = (c, way, ap (walk_ended alarmed) is)

pub alarms_last : AlarmsAreLast
alarms_last N before between t e legal = no_event end.0 t.0 end.1 end.2 end.3 N e b.1.0
  where
    a : AreAllowed N root_alone before × AreAllowed N (run_to before) (Alarm t ∷ (between ++ e ∷ []))
    a = two_parts N root_alone before (Alarm t ∷ (between ++ e ∷ [])) legal

    s : CoreState
    s = run_to before

    z : CoreState
    z = after s (Alarm t)

    b : AreAllowed N z between × AreAllowed N (after_all z between) (e ∷ [])
    b = two_parts N z between (e ∷ []) a.1.1

    now : (c : ℕ) × (way : Way) × (walk_ended alarmed (stage s.cells t.0) ≡ waits c way alarmed)
    now = let w = a.1.0 in alarmed_now (stage s.cells t.0) (w.0, w.1, w.2, w.3, tt)

    here : stage z.cells t.0 ≡ waits now.0 now.1 alarmed
    here = re_here s t.0 (walk_ended alarmed) ∙ now.2

    end : (y : CoreState) × (c : ℕ) × (way : Way) × (stage y.cells t.0 ≡ waits c way alarmed)
    end = (
      after_all z between,
      now.0,
      now.1,
      kept_by_run N (λ y. stage y.cells t.0 ≡ waits now.0 now.1 alarmed)
          (λ y f x f_allowed. event_keeps_alarms N y f t.0 now.0 now.1 x f_allowed) z between
          (facts_after_event N s (Alarm t) (legal_facts N before a.0) a.1.0) b.0 here,
    )

-- Waits that are cleared.
-- whether a task at this stage is parked
abbrev is_parked : CellStage → Bool
is_parked (waits c way parked) = true
is_parked st = false

parked_is : {c : ℕ} {way : Way} (st : CellStage) → st ≡ waits c way parked → is_parked st ≡ true
parked_is st e = ap is_parked e

unparked : {c : ℕ} {way : Way} (st : CellStage) → is_parked st ≡ false → st ≡ waits c way parked → ⊥
unparked st n e = let q : false ≡ true = sym n ∙ ap is_parked e in absurd (cc)

module _ (s : CoreState) where
  -- what the actor of an event does after it, where that is no walk's event
  maker_runs : (u o : ℕ) (st : CellStage) → u < s.count → stage (with_new s u o st).cells u ≡ running
  maker_runs u o st there = ap (λ (z : CellState). z.stage)
      (put_else (put s.cells u (one_made (s.cells u))) s.count (new_cell u (s.cells u) o st) u (λ e. omega arith)
      ∙ put_here s.cells u (one_made (s.cells u)))

  owner_alone : (p t : ℕ) (o : Option ℕ) → stage (alter s p (owned_by o)).cells t ≡ stage s.cells t
  owner_alone p t o = at_put s.cells p (owned_by o (s.cells p)) (λ j y. y.stage ≡ stage s.cells j) t refl (λ d. refl)

closed_unparked : (b : Bool) → is_parked (stage_after_close b) ≡ false
closed_unparked true = refl
closed_unparked false = refl

runs_there : (s : CoreState) (x : CoreFacts s) (t : ℕ) → Runs (stage s.cells t) → t < s.count
runs_there s x t r = task_there s x t (by (stage s.cells t) r) where
  by : (st : CellStage) → Runs st → is_task st ≡ true
  by fresh r = refl
  by running r = refl
  by promise r = absurd r
  by raised r = absurd r
  by (waits c way w) r = absurd r
  by ended r = absurd r

-- a walk that goes on is none that is parked
walked_on : (f : ℕ → Walker → Walker) (st : CellStage) {F : ℕ → Way → Walker → Type 0} → WalksAt st F
    → is_parked (walked f st) ≡ false
walked_on f st (c, way, w, is, h) = ap (λ z. is_parked (walked f z)) is

alarm_unparked : (st : CellStage) {F : ℕ → Way → Walker → Type 0} → WalksAt st F
    → is_parked (walk_ended alarmed st) ≡ false
alarm_unparked st (c, way, w, is, h) = ap (λ z. is_parked (walk_ended alarmed z)) is

module _ (N : ℕ) (s : CoreState) (x : CoreFacts s) where
  -- who acts isn't parked after it, but by a Settle
  acted : (e : Event) (u : CellId) → Allowed N s e → actor e ≡ Some u.0 → (e ≡ Settle u)
      ⊎ (is_parked (stage (after s e).cells u.0) ≡ false)
  acted e u a q = by e a q where
    at : (t : CellId) → Some t.0 ≡ Some u.0 → t ≡ u
    at t q = let k : t.0 ≡ u.0 = cc in λ j. record { 0 = k j }

    on : (z : CoreState) (t : CellId) → Some t.0 ≡ Some u.0 → is_parked (stage z.cells t.0) ≡ false
        → is_parked (stage z.cells u.0) ≡ false
    on z t q h = subst (λ (k : CellId). is_parked (stage z.cells k.0) ≡ false) (at t q) h

    re : (t : CellId) → Some t.0 ≡ Some u.0 → (f : CellStage → CellStage) → is_parked (f (stage s.cells t.0)) ≡ false
        → is_parked (stage (restage s t.0 f).cells u.0) ≡ false
    re t q f h = on (restage s t.0 f) t q (ap is_parked (re_here s t.0 f) ∙ h)

    by : (e : Event) → Allowed N s e → actor e ≡ Some u.0 → (e ≡ Settle u)
        ⊎ (is_parked (stage (after s e).cells u.0) ≡ false)
    by (Make t) a q = inr (on (after s (Make t)) t q
        (ap is_parked (maker_runs s t.0 t.0 promise (runs_there s x t.0 a.0))))
    by (Fork t) a q = inr (on (after s (Fork t)) t q
        (ap is_parked (maker_runs s t.0 s.count fresh (runs_there s x t.0 a.0))))
    by (Hand t p c) a q = inr (ap is_parked (owner_alone (restage s t.0 (λ _. running)) p.0 u.0 (Some c.0))
        ∙ re t q (λ _. running) refl)
    by (Close t p) a q = inr (
        ap is_parked (owner_alone (restage s t.0 (λ _. stage_after_close (nat_eq p.0 t.0))) p.0 u.0 None)
        ∙ re t q (λ _. stage_after_close (nat_eq p.0 t.0)) (closed_unparked (nat_eq p.0 t.0)))
    by (Raise t) a q = inr (re t q (λ _. raised) refl)
    by (Publish t p) a q = inr (re t q (λ _. waits p.0 (way_of_wait s t.0 p.0) (walks start_walk)) refl)
    by (LoadOthers t) a q = inr (re t q (walked (λ c w. others_read s.others w))
        (walked_on (λ c w. others_read s.others w) (stage s.cells t.0) a))
    by (LoadCount t) a q = inr (re t q (walked (λ c w. count_read s.count w))
        (walked_on (λ c w. count_read s.count w) (stage s.cells t.0) a))
    by (ReadOwner t) a q = inr (re t q (walked (λ c w. owner_read (owner s.cells (present c w.trail)) w))
        (walked_on (λ c w. owner_read (owner s.cells (present c w.trail)) w) (stage s.cells t.0) a))
    by (ReadWait t) a q = inr (re t q (walked (λ c w. wait_read s.cells w w.last))
        (walked_on (λ c w. wait_read s.cells w w.last) (stage s.cells t.0) a))
    by (ReadOwnerAgain t) a q = inr (re t q (walked (λ c w. owner_again (owner s.cells (present c w.trail)) w w.last))
        (walked_on (λ c w. owner_again (owner s.cells (present c w.trail)) w w.last) (stage s.cells t.0) a))
    by (Alarm t) a q = inr (re t q (walk_ended alarmed) (alarm_unparked (stage s.cells t.0) a))
    by (Settle t) a q = inl (ap (λ (k : CellId). Settle k) (at t q))
    by (Unwait t) a q = inr (re t q (λ _. running) refl)
    by Lower a q = absurd (cc)

  -- a cell that is new after an event isn't parked
  new_unparked : (e : Event) (t : ℕ) → s.count ≤ t → t < (after s e).count
      → is_parked (stage (after s e).cells t) ≡ false
  new_unparked (Make u) t l m = let q : t ≡ s.count = omega arith in
      ap (λ k. is_parked (stage (after s (Make u)).cells k)) q
      ∙ ap (λ (z : CellState). is_parked z.stage)
      (put_here (put s.cells u.0 (one_made (s.cells u.0))) s.count (new_cell u.0 (s.cells u.0) u.0 promise))
  new_unparked (Fork u) t l m = let q : t ≡ s.count = omega arith in
      ap (λ k. is_parked (stage (after s (Fork u)).cells k)) q
      ∙ ap (λ (z : CellState). is_parked z.stage)
      (put_here (put s.cells u.0 (one_made (s.cells u.0))) s.count (new_cell u.0 (s.cells u.0) s.count fresh))
  new_unparked (Hand u p c) t l m = absurd (omega (arith, l, m))
  new_unparked (Close u p) t l m = absurd (omega (arith, l, m))
  new_unparked (Raise u) t l m = absurd (omega (arith, l, m))
  new_unparked (Publish u p) t l m = absurd (omega (arith, l, m))
  new_unparked (LoadOthers u) t l m = absurd (omega (arith, l, m))
  new_unparked (LoadCount u) t l m = absurd (omega (arith, l, m))
  new_unparked (ReadOwner u) t l m = absurd (omega (arith, l, m))
  new_unparked (ReadWait u) t l m = absurd (omega (arith, l, m))
  new_unparked (ReadOwnerAgain u) t l m = absurd (omega (arith, l, m))
  new_unparked (Alarm u) t l m = absurd (omega (arith, l, m))
  new_unparked (Settle u) t l m = absurd (omega (arith, l, m))
  new_unparked (Unwait u) t l m = absurd (omega (arith, l, m))
  new_unparked Lower t l m = absurd (omega (arith, l, m))

  -- who is parked after an event of another task was before it
  was_parked : (e : Event) (t c : ℕ) (way : Way) → Allowed N s e → actor e ≢ Some t
      → stage (after s e).cells t ≡ waits c way parked → stage s.cells t ≡ waits c way parked
  was_parked e t c way a other is = dite (dec_le s.count t)
      (λ l. absurd (unparked (stage (after s e).cells t)
      (new_unparked e t l (waiter_there (after s e) (facts_after_event N s e x a) t c (ap wait_of is))) is))
      (λ l. sym (event_leaves_others N s e t x a (omega arith) other) ∙ is)

-- who settles is parked then, and walked before
settled_walk : (s : CoreState) (t : CellId) (c : ℕ) (way : Way) → Walks s t.0 (λ d to w. MaySettle w)
    → stage (after s (Settle t)).cells t.0 ≡ waits c way parked
    → WalksAt (stage s.cells t.0) (λ d to w. (d ≡ c) × (to ≡ way) × MaySettle w)
settled_walk s t c way (d, to, w, is, may) e =
    let q : waits d to parked ≡ waits c way parked
    = sym (re_here s t.0 (walk_ended parked) ∙ ap (walk_ended parked) is) ∙ e in
    let same_cell : d ≡ c = cc in let same_way : to ≡ way = cc in (d, to, w, is, (same_cell, same_way, may))

-- the last event of t in a list from s on is a Settle
record SettledSince (s : CoreState) (t : CellId) (c : ℕ) (way : Way) (es : List Event) : Type 0 where
  before : List Event
  since : List Event
  is : es ≡ before ++ Settle t ∷ since
  walked : WalksAt (stage (after_all s before).cells t.0) (λ d to w. (d ≡ c) × (to ≡ way) × MaySettle w)
  others : AreOfOthers t.0 since

tells_actor : (o : Option ℕ) (t : ℕ) → (o ≡ Some t) ⊎ (o ≢ Some t)
tells_actor None t = inr (λ e. absurd (cc))
tells_actor (Some u) t = dite (ℕ_discrete u t) (λ e. inl (ap (λ (k : ℕ). Some k) e))
    (λ n. inr (λ e. let q : u ≡ t = cc in n q))

-- who is parked after some events was before them, with no event of its own between, or has settled by one of them
since_settled : (N : ℕ) (s : CoreState) (es : List Event) → CoreFacts s → AreAllowed N s es
    → (t : CellId) (c : ℕ) (way : Way) → stage (after_all s es).cells t.0 ≡ waits c way parked
    → (AreOfOthers t.0 es × (stage s.cells t.0 ≡ waits c way parked)) ⊎ SettledSince s t c way es
since_settled N s [] x a t c way is = inl (tt, is)
since_settled N s (e ∷ es) x a t c way is = ⊎_elim
    (λ p. ⊎_elim
    (λ q. ⊎_elim
    (λ same. inr (record {
      before = [];
      since = es;
      is = ap (λ k. k ∷ es) same;
      walked = settled_walk s t c way (subst (Allowed N s) same a.0)
          (ap (λ k. stage (after s k).cells t.0) (sym same) ∙ p.1);
      others = p.0;
    }))
    (λ n. absurd (unparked (stage (after s e).cells t.0) n p.1)) (acted N s x e t a.0 q))
    (λ q. inl ((q, p.0), was_parked N s x e t.0 c way a.0 q p.1)) (tells_actor (actor e) t.0))
    (λ r. inr (record {
      before = e ∷ r.before;
      since = r.since;
      is = ap (λ k. e ∷ k) r.is;
      walked = r.walked;
      others = r.others;
    })) (since_settled N (after s e) es (facts_after_event N s e x a.0) a.1 t c way is)

root_unparked : (t : ℕ) → is_parked (stage root_alone.cells t) ≡ false
root_unparked t = at_put (λ (k : ℕ). blank) 0 root (λ j y. is_parked y.stage ≡ false) t refl (λ d. refl)

pub unwaits_settled : UnwaitsHaveSettled
unwaits_settled N es t legal =
    let a = two_parts N root_alone es (Unwait t ∷ []) legal in
    let w = a.1.0 in (
      w.0,
      w.1,
      w.2,
      ⊎_elim
          (λ p. absurd (unparked (stage root_alone.cells t.0) (root_unparked t.0) p.1))
          (λ r. record { before = r.before; since = r.since; is = r.is; walked = r.walked; others = r.others })
          (since_settled N root_alone es start_facts a.0 t w.0 w.1 w.2),
    )
