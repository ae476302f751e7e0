-- A change of one cell that keeps the facts.
use Rattle.std.proofs.Common.{◌≡◌, ◌≢◌, ◌⊎◌, ℕ, ◌+◌, ◌<◌, ◌≤◌, true, Some, None, refl, sym, ap, ◌∙◌, subst, inl}
use Rattle.std.proofs.Common.{arith, le_refl}
use mathlib.Core.Logic.{dite}
use native.Mathlib.Decide.{ℕ_discrete}
use Rattle.tj_base.specs.Puts.{put}
use Rattle.tj_events.specs.CoreState.{promise, CellState, CoreState, owner, name, maker, stage}
use Rattle.tj_events.specs.CoreState.{wait, wait_of, is_task, Lives, HasBegun, IsClosed}
use Rattle.tj_events.specs.WaitGraph.{Leads, IsOnCycleOf}
use Rattle.tj_events.specs.Facts.{Watches, raised_by_all, OwnersFact, LastCloserFact}
use Rattle.tj_events.specs.CoreFacts.{CoreFacts}
use Rattle.tj_base.proofs.Puts.{at_put, put_here, put_else}
use Rattle.tj_events.proofs.OneCell.Frames.{Frame, some_none}
use Rattle.tj_events.proofs.Graph.WaitSteps.{cycle_leads}
use Rattle.tj_events.proofs.Graph.Watches.{watch_keeps, closer_keeps, GoesOn, same_goes_on, IsKept}
use Rattle.tj_events.proofs.Graph.ForkOrders.{task_there, owned_there}
use Rattle.tj_events.proofs.OneCell.SoundTasks.{IsSound, sound_of, sound_stays, calm_sound, lives_task, all_facts}
use Rattle.tj_events.proofs.OneCell.Makers.{IsFromMaker, IsMadeBefore, makers_stay, from_maker_stays, owners_fact}

-- the state with the cell a at i, n cells, o as OTHERS, and k waits cleared and not yet lowered
abbrev pub with_cell : CoreState → ℕ → CellState → ℕ → ℕ → ℕ → CoreState
with_cell s i a n o k = record { count = n; cells = put s.cells i a; others = o; cleared = k }

-- what the new cell a at i owes
pub record Fits (s : CoreState) (i : ℕ) (a : CellState) (n o k : ℕ) : Type 0 where
  pub inside : i < n
  pub grows : s.count ≤ n
  pub only_new : (c : ℕ) → c < n → c ≢ i → c < s.count
  pub waited : (w : ℕ) → wait s.cells i ≡ Some w → (wait_of a.stage ≡ Some w) ⊎ IsClosed s.count s.cells w
  pub begins : HasBegun (stage s.cells i) → HasBegun a.stage
  pub stays_task : is_task (stage s.cells i) ≡ true → is_task a.stage ≡ true
  pub same_name : i < s.count → a.name ≡ name s.cells i
  pub same_maker : i < s.count → a.maker ≡ maker s.cells i
  pub more_made : i < s.count → (s.cells i).made ≤ a.made
  pub owned_by_waiting : (u w : ℕ) → owner s.cells i ≡ Some u → wait s.cells u ≡ Some w → a.owner ≡ Some u
  pub stays_closed : i < s.count → owner s.cells i ≡ None → a.owner ≡ None
  pub old_owner : (u : ℕ) → i < s.count → HasBegun (stage s.cells u) → a.owner ≡ Some u → owner s.cells i ≡ Some u
  pub no_waiter : (u w : ℕ)
      → wait (put s.cells i a) u ≡ Some w → a.owner ≡ Some u → owner s.cells i ≡ Some u
  pub gives_up : (u : ℕ)
      → owner s.cells i ≡ Some u → (a.owner ≡ Some u) ⊎ HasBegun (stage (put s.cells i a) u)
  pub owns_still : (c : ℕ) → c ≢ i → owner s.cells c ≡ Some i → Lives a.stage
  pub owner_lives : (u : ℕ) → a.owner ≡ Some u → (u ≡ i → Lives a.stage) × (u ≢ i → Lives (stage s.cells u))
  pub own_result : is_task a.stage ≡ true → (u : ℕ) → a.owner ≡ Some u → u ≡ i
  pub live_result : Lives a.stage → a.owner ≡ Some i
  pub from_maker : (u : ℕ) → a.stage ≡ promise → a.owner ≡ Some u → IsFromMaker (put s.cells i a) i u
  pub made_before : s.count ≤ i → IsMadeBefore (put s.cells i a) i
  pub sum : o ≡ raised_by_all n (put s.cells i a) + k

module _ (s : CoreState) (x : CoreFacts s) (i : ℕ) (a : CellState) (n o k : ℕ) (h : Fits s i a n o k) where
  abbrev z : CoreState
  z = with_cell s i a n o k

  here : z.cells i ≡ a
  here = put_here s.cells i a

  stage_else : (j : ℕ) → j ≢ i → stage z.cells j ≡ stage s.cells j
  stage_else j d = ap (λ (c : CellState). c.stage) (put_else s.cells i a j d)

  -- what the change keeps for those that take no part in it
  pub cell_frame : Frame s z
  cell_frame = record {
    grows = h.grows;
    closes = λ c q. let l = q.0 in let g = h.grows in (
      omega arith,
      at_put s.cells i a (λ j y. j < s.count → owner s.cells j ≡ None → y.owner ≡ None) c h.stays_closed
          (λ d l' e. e) q.0 q.1,
    );
    owns = λ c u w p q. at_put s.cells i a (λ j y. owner s.cells j ≡ Some u → y.owner ≡ Some u) c
        (λ e. h.owned_by_waiting u w e q) (λ d e. e) p;
    waited = λ u w e. at_put s.cells i a
        (λ j y. wait s.cells j ≡ Some w → (wait_of y.stage ≡ Some w) ⊎ IsClosed s.count s.cells w) u
        (h.waited w) (λ d e'. inl e') e;
    back = λ c u l b e. at_put s.cells i a
        (λ j y. j < s.count → y.owner ≡ Some u → owner s.cells j ≡ Some u) c
        (λ l' e'. h.old_owner u l' b e') (λ d l' e'. e') l e;
    begins = λ u b. at_put s.cells i a (λ j y. HasBegun (stage s.cells j) → HasBegun y.stage) u
        h.begins (λ d b'. b') b;
    gives = λ c u e. at_put s.cells i a
        (λ j y. owner s.cells j ≡ Some u → (y.owner ≡ Some u) ⊎ HasBegun (stage z.cells u)) c
        (h.gives_up u) (λ d e'. inl e') e;
    names = λ c l. at_put s.cells i a (λ j y. j < s.count → y.name ≡ name s.cells j) c h.same_name (λ d l'. refl) l;
    makers = λ c l. at_put s.cells i a (λ j y. j < s.count → y.maker ≡ maker s.cells j) c h.same_maker
        (λ d l'. refl) l;
    makes = λ c l. at_put s.cells i a (λ j y. j < s.count → (s.cells j).made ≤ y.made) c h.more_made
        (λ d l'. le_refl (s.cells c).made) l;
    tasks = λ c e. at_put s.cells i a (λ j y. is_task (stage s.cells j) ≡ true → is_task y.stage ≡ true) c
        h.stays_task (λ d e'. e') e;
  }

  owner_lives_on : (c u : ℕ) → owner z.cells c ≡ Some u → Lives (stage z.cells u)
  owner_lives_on c u e = at_put s.cells i a (λ j y. j ≡ u → Lives y.stage) u
      (λ d. at_put s.cells i a (λ j y. y.owner ≡ Some u → Lives a.stage) c
      (λ e'. (h.owner_lives u e').0 (sym d))
      (λ d' e'. h.owns_still c d' (e' ∙ ap (λ (j : ℕ). Some j) (sym d))) e)
      (λ d _. at_put s.cells i a (λ j y. y.owner ≡ Some u → Lives (stage s.cells u)) c
      (λ e'. (h.owner_lives u e').1 d) (λ d' e'. x.owners.owners_live c u e') e)
      refl

  owners : OwnersFact z.cells
  owners = owners_fact z.cells owner_lives_on
      (λ c u t e. at_put s.cells i a (λ j y. is_task y.stage ≡ true → y.owner ≡ Some u → u ≡ j) c
      (λ t' e'. h.own_result t' u e') (λ d t' e'. x.owners.results_own c u t' e') t e)
      (λ c l. at_put s.cells i a (λ j y. Lives y.stage → y.owner ≡ Some j) c
      h.live_result (λ d l'. x.owners.live_results c l') l)
      (λ p u e q. at_put s.cells i a (λ j y. y.stage ≡ promise → y.owner ≡ Some u → IsFromMaker z.cells j u) p
      (h.from_maker u)
      (λ d e' q'. from_maker_stays s z cell_frame p u x.makers (owned_there s x p u q')
      (task_there s x u (lives_task (stage s.cells u) (x.owners.owners_live p u q'))) e'
      (x.owners.promises p u e' q')) e q)

  -- all but the sound tasks and the watched cycles
  pub facts_by : ((u : ℕ) → IsSound z u (stage z.cells u)) → LastCloserFact z.cells → CoreFacts z
  facts_by sound closer = all_facts z (record {
    blanks = λ c l. let a' = h.inside in let g = h.grows in
        let d : c ≢ i = λ e. omega arith in put_else s.cells i a c d ∙ x.places.blanks c (omega arith);
    makers = makers_stay s z cell_frame x.makers (λ c l m. dite (ℕ_discrete c i)
        (λ d. subst (IsMadeBefore z.cells) (sym d) (h.made_before (subst (λ j. s.count ≤ j) d l)))
        (λ d. let b = h.only_new c m d in absurd (omega arith)));
    owners = owners;
    others_count = h.sum;
    sound = sound;
    last_closer = closer;
  })

  -- the tasks are sound where the changed one is
  pub sound_by : IsSound z i a.stage → (u : ℕ) → IsSound z u (stage z.cells u)
  sound_by mine u = at_put s.cells i a (λ j y. IsSound z j y.stage) u mine
      (λ d. sound_stays s z cell_frame x u (stage s.cells u) refl (sound_of s x u))

  -- the change goes on where its cell's task does
  pub goes_by : ((m : ℕ) → IsOnCycleOf s.cells i m → Watches s.cells m (stage s.cells i) → Watches z.cells m a.stage)
      → GoesOn s z
  goes_by mine = record {
    frame = cell_frame;
    own = λ u m c q. at_put s.cells i a
        (λ j y. IsOnCycleOf s.cells j m → Watches s.cells m (stage s.cells j) → Watches z.cells m y.stage) u
        (mine m) (λ d c' q'. watch_keeps s z cell_frame m u (stage s.cells u) refl c' q') c q;
  }

  leads_back : ((c : ℕ) → wait_of a.stage ≡ Some c → wait s.cells i ≡ Some c)
      → (t u v : ℕ) → Leads z.cells t u → Leads z.cells u v → Leads s.cells t u
  leads_back old t u v l m = (
    l.0,
    at_put s.cells i a (λ j y. wait_of y.stage ≡ Some l.0 → wait s.cells j ≡ Some l.0) t (old l.0) (λ d e. e) l.1,
    at_put s.cells i a (λ j y. y.owner ≡ Some u → owner s.cells j ≡ Some u) l.0
        (λ e. h.no_waiter u m.0 m.1 e) (λ d e. e) l.2,
  )

  -- a change that brings no new wait, after which the changed task is sound and goes on to watch
  pub kept_by : ((c : ℕ) → wait_of a.stage ≡ Some c → wait s.cells i ≡ Some c)
      → IsSound z i a.stage
      → ((m : ℕ) → IsOnCycleOf s.cells i m → Watches s.cells m (stage s.cells i) → Watches z.cells m a.stage)
      → CoreFacts z × GoesOn s z
  kept_by old sound mine = let goes = goes_by mine in
      (facts_by (sound_by sound) (closer_keeps s z cell_frame (leads_back old) goes.own x.last_closer), goes)

  -- a change to a stage that doesn't wait, from one that waits for no cell that somebody owns
  pub calmly_kept : wait_of a.stage ≡ None
      → ((w : ℕ) → wait s.cells i ≡ Some w → IsClosed s.count s.cells w)
      → CoreFacts z × GoesOn s z
  calmly_kept calm free = kept_by
      (λ c e. some_none e calm)
      (calm_sound z i a.stage calm)
      (λ m c q. let l = cycle_leads s.cells i m c in some_none l.1.2 (free l.1.0 l.1.1).1)

-- what is kept by one change is kept by an event
pub kept_once : (s z : CoreState) → CoreFacts z × GoesOn s z → IsKept s z
kept_once s z h = (h.0, (z, h.1, same_goes_on z z.others z.cleared))
