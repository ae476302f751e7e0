-- The changes of one cell that running tasks make.
use Rattle.std.proofs.Common.{◌≡◌, ◌⊎◌, ℕ, ◌+◌, ◌<◌, true, false, Option, Some, None, refl, sym, ap, ◌∙◌, subst, inl}
use Rattle.std.proofs.Common.{inr, le_refl, arith, ◌≤◌}
use Rattle.tj_base.specs.Puts.{put}
use Rattle.tj_events.specs.CoreState.{CellStage, promise, fresh, running, raised, waits, ended, CellState, CoreState}
use Rattle.tj_events.specs.CoreState.{owner, name, maker, stage, wait}
use Rattle.tj_events.specs.CoreState.{wait_of, is_task, Runs, Lives, HasBegun, IsClosed}
use Rattle.tj_events.specs.Events.{owned_by, raised_by}
use Rattle.tj_events.specs.CoreFacts.{CoreFacts}
use Rattle.tj_base.proofs.Puts.{at_put, put_here}
use Rattle.tj_events.proofs.Puts.{raised-put}
use Rattle.tj_events.proofs.OneCell.Frames.{some_none}
use Rattle.tj_events.proofs.Graph.ForkOrders.{task_there, owned_there}
use Rattle.tj_events.proofs.OneCell.SoundTasks.{lives_task}
use Rattle.tj_events.proofs.OneCell.Makers.{IsFromMaker, from_maker_alike}
use Rattle.tj_events.proofs.OneCell.CellChanges.{Fits}

-- a task that runs lives, doesn't wait and has not raised OTHERS
pub runs_calmly : (st : CellStage) → Runs st → Lives st × (wait_of st ≡ None) × (raised_by st ≡ 0)
runs_calmly promise r = absurd r
runs_calmly fresh r = (tt, refl, refl)
runs_calmly running r = (tt, refl, refl)
runs_calmly raised r = absurd r
runs_calmly (waits c way w) r = absurd r
runs_calmly ended r = absurd r

module _ (s : CoreState) (x : CoreFacts s) where
  -- the cell of t at another stage, after it has made m things
  abbrev pub at_stage : ℕ → ℕ → CellStage → CellState
  at_stage t m st = record {
    maker = maker s.cells t;
    name = name s.cells t;
    made = m;
    owner = owner s.cells t;
    stage = st;
  }

  -- a living task goes to a stage at which it lives
  pub stage_fits : (t m : ℕ) (st : CellStage) (o k : ℕ)
      → (s.cells t).made ≤ m
      → Lives (stage s.cells t)
      → Lives st
      → HasBegun st
      → ((w : ℕ) → wait s.cells t ≡ Some w → (wait_of st ≡ Some w) ⊎ IsClosed s.count s.cells w)
      → o + raised_by (stage s.cells t) + s.cleared ≡ s.others + raised_by st + k
      → Fits s t (at_stage t m st) s.count o k
  stage_fits t m st o k more lives lives_on begun waited sum =
      let task = lives_task (stage s.cells t) lives in
      let there = task_there s x t task in
      record {
        inside = there;
        grows = le_refl s.count;
        only_new = λ c l _. l;
        waited = waited;
        begins = λ _. begun;
        stays_task = λ _. lives_task st lives_on;
        same_name = λ _. refl;
        same_maker = λ _. refl;
        more_made = λ _. more;
        owned_by_waiting = λ u w e _. e;
        stays_closed = λ _ e. e;
        old_owner = λ u _ _ e. e;
        no_waiter = λ u w _ e. e;
        gives_up = λ u e. inl e;
        owns_still = λ c _ _. lives_on;
        owner_lives = λ u e. (λ _. lives_on, λ _. x.owners.owners_live t u e);
        own_result = λ _ u e. x.owners.results_own t u task e;
        live_result = λ _. x.owners.live_results t lives;
        from_maker = λ u e _. absurd (subst Lives e lives_on);
        made_before = λ l. absurd (omega arith);
        sum = let p = raised-put s.count s.cells t (at_stage t m st) there in let q = x.others_count in omega arith;
      }

  -- the owner of a promise p changes from t, which runs, to nobody or to a fresh task that may have it
  pub owner_fits : (t p : ℕ) (to : Option ℕ)
      → stage s.cells t ≡ running
      → stage s.cells p ≡ promise
      → owner s.cells p ≡ Some t
      → ((u : ℕ) → to ≡ Some u → (stage s.cells u ≡ fresh) × IsFromMaker s.cells p u)
      → Fits s p (owned_by to (s.cells p)) s.count s.others s.cleared
  owner_fits t p to runs is_promise own new = record {
    inside = there;
    grows = le_refl s.count;
    only_new = λ c l _. l;
    waited = λ w e. inl e;
    begins = λ q. q;
    stays_task = λ q. q;
    same_name = λ _. refl;
    same_maker = λ _. refl;
    more_made = λ _. le_refl (s.cells p).made;
    owned_by_waiting = λ u w e e'. let q : t ≡ u = owned_once u e in
        some_none e' (ap wait_of (ap (stage s.cells) (sym q) ∙ runs));
    stays_closed = λ _ e. some_none own e;
    old_owner = λ u _ b e. let q = subst HasBegun (new u e).0 b in absurd q;
    no_waiter = λ u w e e'. some_none e (ap wait_of (same_stage u ∙ (new u e').0));
    gives_up = λ u e. let q : t ≡ u = owned_once u e in
        inr (subst HasBegun (sym (same_stage u ∙ (ap (stage s.cells) (sym q) ∙ runs))) tt);
    owns_still = λ c _ e. let q = subst Lives is_promise (x.owners.owners_live c p e) in absurd q;
    owner_lives = λ u e. (
      λ d. let q : promise ≡ fresh = sym is_promise ∙ (ap (stage s.cells) (sym d) ∙ (new u e).0) in absurd (cc),
      λ _. subst Lives (sym (new u e).0) tt,
    );
    own_result = λ e. let q : false ≡ true = sym (ap is_task is_promise) ∙ e in absurd (cc);
    live_result = λ e. let q = subst Lives is_promise e in absurd q;
    from_maker = λ u _ e. from_maker_alike s.cells cells p u (same_maker p)
        (ap (name cells) (same_maker p) ∙ same_name (maker s.cells p)) (same_name u) (new u e).1;
    made_before = λ l. let b = there in absurd (omega arith);
    sum = let e = raised-put s.count s.cells p a there in let q = x.others_count in omega arith;
  }
    where
      there : p < s.count
      there = owned_there s x p t own

      a : CellState
      a = owned_by to (s.cells p)

      cells : ℕ → CellState
      cells = put s.cells p a

      owned_once : (u : ℕ) → owner s.cells p ≡ Some u → t ≡ u
      owned_once u e = let e' : Some t ≡ Some u = sym own ∙ e in cc

      same_stage : (j : ℕ) → stage cells j ≡ stage s.cells j
      same_stage j = at_put s.cells p a (λ i y. y.stage ≡ stage s.cells i) j refl (λ d. refl)

      same_maker : (j : ℕ) → maker cells j ≡ maker s.cells j
      same_maker j = at_put s.cells p a (λ i y. y.maker ≡ maker s.cells i) j refl (λ d. refl)

      same_name : (j : ℕ) → name cells j ≡ name s.cells j
      same_name j = at_put s.cells p a (λ i y. y.name ≡ name s.cells i) j refl (λ d. refl)

  -- the cell of t, which has ended
  abbrev pub ended_cell : ℕ → CellState
  ended_cell t = record {
    maker = maker s.cells t;
    name = name s.cells t;
    made = (s.cells t).made;
    owner = None;
    stage = ended;
  }

  -- a task that runs and owns nothing else ends
  pub end_fits : (t : ℕ)
      → Runs (stage s.cells t)
      → ((q : ℕ) → owner s.cells q ≡ Some t → q ≡ t)
      → Fits s t (ended_cell t) s.count s.others s.cleared
  end_fits t r alone =
      let k = runs_calmly (stage s.cells t) r in
      let there = task_there s x t (lives_task (stage s.cells t) k.0) in
      let mine : owner s.cells t ≡ Some t = x.owners.live_results t k.0 in
      record {
        inside = there;
        grows = le_refl s.count;
        only_new = λ c l _. l;
        waited = λ w e. some_none e k.1;
        begins = λ _. tt;
        stays_task = λ _. refl;
        same_name = λ _. refl;
        same_maker = λ _. refl;
        more_made = λ _. le_refl (s.cells t).made;
        owned_by_waiting = λ u w e e'. let q : t ≡ u = (let e'' : Some t ≡ Some u = sym mine ∙ e in cc) in
            some_none e' (ap wait_of (ap (stage s.cells) (sym q)) ∙ k.1);
        stays_closed = λ _ e. refl;
        old_owner = λ u _ _ e. absurd (cc);
        no_waiter = λ u w _ e. absurd (cc);
        gives_up = λ u e. let q : t ≡ u = (let e'' : Some t ≡ Some u = sym mine ∙ e in cc) in
            inr (subst (λ j. HasBegun (stage (put s.cells t (ended_cell t)) j)) q
            (subst (λ (y : CellState). HasBegun y.stage) (sym (put_here s.cells t (ended_cell t))) tt));
        owns_still = λ c d e. absurd (d (alone c e));
        owner_lives = λ u e. absurd (cc);
        own_result = λ _ u e. absurd (cc);
        live_result = λ e. absurd e;
        from_maker = λ u e _. absurd (cc);
        made_before = λ l. absurd (omega arith);
        sum =
            let p = raised-put s.count s.cells t (ended_cell t) there in
            let q = x.others_count in let none = k.2 in omega arith;
      }
