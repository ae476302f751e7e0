-- The events of a running task keep the facts.
use Rattle.std.proofs.Common.{◌≡◌, ◌≢◌, ℕ, suc, ◌<◌, Bool, true, false, Option, Some, None, refl, sym, ap}
use Rattle.std.proofs.Common.{◌∙◌, subst, arith, eq-eqb, ne_eqb, ◌≤◌, le_refl}
use mathlib.Core.Logic.{dite}
use native.Mathlib.Decide.{ℕ_discrete}
use Rattle.tj_base.specs.ForkOrder.{child}
use Rattle.tj_base.specs.declared.cell.CellId.{CellId}
use Rattle.tj_events.specs.declared.event.Event.TheVariants.{Make, Fork, Hand, Close, Raise}
use Rattle.tj_events.specs.CoreState.{CellStage, promise, fresh, running, raised, waits, ended, CellState, Cells}
use Rattle.tj_events.specs.CoreState.{CoreState, owner, name, maker, stage, wait_of, is_task, Runs, Lives}
use Rattle.tj_base.specs.Puts.{put}
use Rattle.tj_events.specs.Events.{Allowed, after, new_cell, staged, owned_by, stage_after_close, raised_by}
use Rattle.tj_events.specs.CoreFacts.{CoreFacts}
use Rattle.tj_base.proofs.Puts.{at_put, put_here, put_else}
use Rattle.tj_events.proofs.OneCell.Frames.{some_none}
use Rattle.tj_events.proofs.Graph.Watches.{GoesOn, IsKept}
use Rattle.tj_events.proofs.Graph.ForkOrders.{task_there}
use Rattle.tj_events.proofs.OneCell.SoundTasks.{lives_task}
use Rattle.tj_events.proofs.OneCell.Makers.{IsFromMaker, from_maker_child, next_name_new, thing_made, thing_before}
use Rattle.tj_events.proofs.OneCell.CellChanges.{with_cell, Fits, calmly_kept, kept_once}
use Rattle.tj_events.proofs.OneCell.RunChanges.{runs_calmly, at_stage, stage_fits, owner_fits, ended_cell, end_fits}
use Rattle.tj_events.proofs.OneCell.NewCells.{IsNewName, new_fits}

-- what is kept by two changes is kept by an event
kept_twice : (s m z : CoreState) → GoesOn s m → CoreFacts z × GoesOn m z → IsKept s z
kept_twice s m z g h = (h.0, (m, g, h.1))

module _ (s : CoreState) (x : CoreFacts s) (task : CellId) (runs : Runs (stage s.cells task.0)) where
  abbrev t : ℕ
  t = task.0

  calm : Lives (stage s.cells t) × (wait_of (stage s.cells t) ≡ None) × (raised_by (stage s.cells t) ≡ 0)
  calm = runs_calmly (stage s.cells t) runs

  begin_fits : (m : ℕ) → (s.cells t).made ≤ m → Fits s t (at_stage s x t m running) s.count s.others s.cleared
  begin_fits m more = stage_fits s x t m running s.others s.cleared more calm.0 tt tt (λ w e. some_none e calm.1)
      (let none = calm.2 in omega arith)

  -- the state with t running, when it has made m things
  abbrev begun : ℕ → CoreState
  begun m = with_cell s t (at_stage s x t m running) s.count s.others s.cleared

  -- the first event of a task makes it running
  begins : (m : ℕ) → (s.cells t).made ≤ m → CoreFacts (begun m) × GoesOn s (begun m)
  begins m more = calmly_kept s x t (at_stage s x t m running) s.count s.others s.cleared (begin_fits m more) refl
      (λ w e. some_none e calm.1)

  runs_there : t < s.count
  runs_there = task_there s x t (lives_task (stage s.cells t) calm.0)

  begun_cell : (m : ℕ) → (begun m).cells t ≡ at_stage s x t m running
  begun_cell m = put_here s.cells t (at_stage s x t m running)

  runs_now : (m : ℕ) → stage (begun m).cells t ≡ running
  runs_now m = ap (λ (c : CellState). c.stage) (begun_cell m)

  -- t makes a cell that u owns
  makes : (u : ℕ) (st : CellStage)
      → (let z = begun (suc (s.cells t).made) in
      Fits z s.count (new_cell t (s.cells t) u st) (suc s.count) s.others s.cleared)
      → wait_of st ≡ None
      → (let z = begun (suc (s.cells t).made) in
      IsKept s (with_cell z s.count (new_cell t (s.cells t) u st) (suc s.count) s.others s.cleared))
  makes u st fits calm_new =
      let m = suc (s.cells t).made in
      let z = begun m in
      let y = (begins m (omega arith)).0 in
      let a = new_cell t (s.cells t) u st in
      kept_twice s z (with_cell z s.count a (suc s.count) s.others s.cleared) (begins m (omega arith)).1
      (calmly_kept z y s.count a (suc s.count) s.others s.cleared fits calm_new
      (λ w e. some_none e (ap (λ (c : CellState). wait_of c.stage) (y.places.blanks s.count (omega arith)))))

  its_name : name (begun (suc (s.cells t).made)).cells t ≡ name s.cells t
  its_name = ap (λ (c : CellState). c.name) (begun_cell (suc (s.cells t).made))

  -- the name of the next thing that t makes
  next_name : IsNewName (begun (suc (s.cells t).made)) t (suc (s.cells t).made)
      (child (name s.cells t) (suc (s.cells t).made))
  next_name =
      let m = suc (s.cells t).made in
      let f = (begins m (omega arith)).1.frame in record {
        some = omega arith;
        made = subst (λ (c : CellState). m ≤ c.made) (sym (begun_cell m)) (le_refl m);
        name_is = ap (λ q. child q m) (sym its_name);
        new = λ d l e. next_name_new s.count s.cells x.makers t d runs_there l (sym (f.names d l) ∙ e);
        latest = λ d j l of_t thing.
            let its_maker : maker s.cells d ≡ t = sym (f.makers d l) ∙ of_t in
            let made : j ≤ (s.cells t).made = subst (λ i. j ≤ (s.cells i).made) its_maker
            (thing_made s.count s.cells x.makers d j l (thing_before s (begun m) f x.makers d j l thing)) in
            omega arith;
      }

  -- Make keeps the facts
  pub keeps_make : IsKept s (after s (Make task))
  keeps_make =
      let m = suc (s.cells t).made in
      let z = begun m in
      makes t promise
      (new_fits z (begins m (omega arith)).0 t t (child (name s.cells t) m) m promise (runs_now m)
      next_name (refl, refl) (ap wait_of (runs_now m))
      (λ d. let l = runs_there in absurd (omega arith), λ _. subst Lives (sym (runs_now m)) tt)
      (λ e. absurd (cc)) (λ e. absurd e) (λ _. refl))
      refl

  -- Fork keeps the facts
  pub keeps_fork : IsKept s (after s (Fork task))
  keeps_fork =
      let m = suc (s.cells t).made in
      let z = begun m in
      let y = (begins m (omega arith)).0 in
      makes s.count fresh
      (new_fits z y t s.count (child (name s.cells t) m) m fresh (runs_now m)
      next_name (refl, refl)
      (ap (λ (c : CellState). wait_of c.stage) (y.places.blanks s.count (omega arith)))
      (λ _. tt, λ d. absurd (d refl)) (λ _. refl) (λ _. refl) (λ e. absurd (cc)))
      refl

  -- the owner of a promise of t changes
  gives : (p : ℕ) (to : Option ℕ)
      → p ≢ t
      → stage s.cells p ≡ promise
      → owner s.cells p ≡ Some t
      → (let z = begun (s.cells t).made in
      (u : ℕ) → to ≡ Some u → (stage z.cells u ≡ fresh) × IsFromMaker z.cells p u)
      → (let z = begun (s.cells t).made in
      IsKept s (with_cell z p (owned_by to (z.cells p)) s.count s.others s.cleared))
  gives p to d is_promise own new =
      let m = (s.cells t).made in
      let z = begun m in
      let same : z.cells p ≡ s.cells p = put_else s.cells t (at_stage s x t m running) p d in
      let promise_now : stage z.cells p ≡ promise = ap (λ (c : CellState). c.stage) same ∙ is_promise in
      kept_twice s z (with_cell z p (owned_by to (z.cells p)) s.count s.others s.cleared) (begins m (le_refl m)).1
      (calmly_kept z (begins m (le_refl m)).0 p (owned_by to (z.cells p)) s.count s.others s.cleared
      (owner_fits z (begins m (le_refl m)).0 t p to (runs_now m) promise_now
      (ap (λ (c : CellState). c.owner) same ∙ own) new)
      (ap wait_of promise_now) (λ w e. some_none e (ap wait_of promise_now)))

  promise_else : (p : ℕ) → stage s.cells p ≡ promise → p ≢ t
  promise_else p e d =
      let q : false ≡ true = sym (ap is_task e) ∙ (ap (λ (j : ℕ). is_task (stage s.cells j)) d
      ∙ lives_task (stage s.cells t) calm.0) in
      absurd (cc)

  -- Hand keeps the facts: a child of an owner may own
  pub keeps_hand : (N : ℕ) (promised heir : CellId)
      → Allowed N s (Hand task promised heir) → IsKept s (after s (Hand task promised heir))
  keeps_hand N promised heir (_, is_promise, own, (is_fresh, its_maker, d)) =
      let p = promised.0 in
      let c = heir.0 in
      let m = (s.cells t).made in
      let z = begun m in
      let y = (begins m (le_refl m)).0 in
      let p-t = promise_else p is_promise in
      let a = at_stage s x t m running in
      let same : z.cells p ≡ s.cells p = put_else s.cells t a p p-t in
      let child_same : z.cells c ≡ s.cells c = put_else s.cells t a c d in
      let fresh_now : stage z.cells c ≡ fresh = ap (λ (j : CellState). j.stage) child_same ∙ is_fresh in
      let maker_now : maker z.cells c ≡ t = ap (λ (j : CellState). j.maker) child_same ∙ its_maker in
      let there : c < s.count = task_there z y c (ap is_task fresh_now) in
      let not_root : c ≢ 0 = λ e. d (e ∙ (sym y.makers.root_maker ∙ (ap (maker z.cells) (sym e) ∙ maker_now))) in
      let k = y.makers.makers_name c there not_root in
      let from : IsFromMaker z.cells p c = from_maker_child z.cells p t c k.number
      (k.name_is ∙ ap (λ (j : ℕ). child (name z.cells j) k.number) maker_now)
      (y.owners.promises p t (ap (λ (j : CellState). j.stage) same ∙ is_promise)
      (ap (λ (j : CellState). j.owner) same ∙ own)) in
      gives p (Some c) p-t is_promise own
      (λ u e. let q : c ≡ u = cc in
      subst (λ j. (stage z.cells j ≡ fresh) × IsFromMaker z.cells p j) q (fresh_now, from))

  owned_promise : (p : ℕ) → p ≢ t → owner s.cells p ≡ Some t → stage s.cells p ≡ promise
  owned_promise p d own = by_stage (stage s.cells p) refl
    where
      no_task : is_task (stage s.cells p) ≡ true → ⊥
      no_task e = d (sym (x.owners.results_own p t e own))

      by_stage : (st : CellStage) → stage s.cells p ≡ st → st ≡ promise
      by_stage promise e = refl
      by_stage fresh e = absurd (no_task (ap is_task e))
      by_stage running e = absurd (no_task (ap is_task e))
      by_stage raised e = absurd (no_task (ap is_task e))
      by_stage (waits c way w) e = absurd (no_task (ap is_task e))
      by_stage ended e = absurd (no_task (ap is_task e))

  twice : {A : Type 0} (f : ℕ → A) (i : ℕ) (a b : A) → put (put f i a) i b ≡ put f i b
  twice f i a b = λ k j. at_put (put f i a) i b (λ m x. x ≡ put f i b m) j (sym (put_here f i b))
      (λ n. put_else f i a j n ∙ sym (put_else f i b j n)) k

  -- the state after t has closed p, by whether p is t
  abbrev closed : ℕ → Bool → CoreState
  closed p b =
      let z = with_cell s t (staged (stage_after_close b) (s.cells t)) s.count s.others s.cleared in
      with_cell z p (owned_by None (z.cells p)) s.count s.others s.cleared

  ends : ((q : ℕ) → owner s.cells q ≡ Some t → q ≡ t) → IsKept s (closed t true)
  ends alone =
      let a = staged ended (s.cells t) in
      let once : IsKept s (with_cell s t (ended_cell s x t) s.count s.others s.cleared) =
      kept_once s (with_cell s t (ended_cell s x t) s.count s.others s.cleared)
      (calmly_kept s x t (ended_cell s x t) s.count s.others s.cleared (end_fits s x t runs alone) refl
      (λ w e. some_none e calm.1)) in
      subst (λ (f : Cells). IsKept s (record { count = s.count; cells = f; others = s.others; cleared = s.cleared }))
      (sym (twice s.cells t a (owned_by None (put s.cells t a t))))
      (subst (λ (c : CellState). IsKept s (with_cell s t (owned_by None c) s.count s.others s.cleared))
      (sym (put_here s.cells t a)) once)

  -- Close keeps the facts
  pub keeps_close : (N : ℕ) (cell : CellId) → Allowed N s (Close task cell) → IsKept s (after s (Close task cell))
  keeps_close N cell (_, own, alone) =
      let p = cell.0 in
      dite (ℕ_discrete p t)
      (λ d. subst (λ b. IsKept s (closed p b)) (sym (eq-eqb p t d))
      (subst (λ q. IsKept s (closed q true)) (sym d) (ends (alone d))))
      (λ d. subst (λ b. IsKept s (closed p b)) (sym (ne_eqb p t d))
      (gives p None d (owned_promise p d own) own (λ u e. absurd (cc))))

  -- Raise keeps the facts
  pub keeps_raise : IsKept s (after s (Raise task))
  keeps_raise =
      let a = at_stage s x t (s.cells t).made raised in
      kept_once s (with_cell s t a s.count (suc s.others) s.cleared)
      (calmly_kept s x t a s.count (suc s.others) s.cleared
      (stage_fits s x t (s.cells t).made raised (suc s.others) s.cleared (le_refl (s.cells t).made) calm.0 tt tt
      (λ w e. some_none e calm.1)
      (let none = calm.2 in omega arith))
      refl (λ w e. some_none e calm.1))
