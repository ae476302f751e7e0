-- A new cell that a running task makes.
use Rattle.std.proofs.Common.{◌≡◌, ◌≢◌, ℕ, suc, ◌<◌, true, false, Some, None, sym, ap, ◌∙◌, subst, inl, le_refl, arith}
use Rattle.std.proofs.Common.{◌≤◌}
use Rattle.tj_base.specs.ForkOrder.{Name, child}
use Rattle.tj_base.specs.Puts.{put}
use Rattle.tj_events.specs.CoreState.{CellStage, promise, running, CellState, CoreState}
use Rattle.tj_events.specs.CoreState.{owner, name, maker, stage, wait}
use Rattle.tj_events.specs.CoreState.{wait_of, is_task, IsTask, Lives, HasBegun}
use Rattle.tj_events.specs.Events.{raised_by}
use Rattle.tj_events.specs.Facts.{IsThing}
use Rattle.tj_events.specs.CoreFacts.{CoreFacts}
use Rattle.tj_base.proofs.Puts.{at_put, put_here, put_else}
use Rattle.tj_events.proofs.Puts.{raised-put_from}
use Rattle.tj_events.proofs.OneCell.Frames.{some_none}
use Rattle.tj_events.proofs.Graph.ForkOrders.{task_there}
use Rattle.tj_base.proofs.ChildNames.{child_same}
use Rattle.tj_events.proofs.OneCell.CellChanges.{Fits}

-- nm is the name of the k-th thing that t made, no cell has it yet, and all that t made is earlier
pub record IsNewName (s : CoreState) (t k : ℕ) (nm : Name) : Type 0 where
  pub some : 0 < k
  pub made : k ≤ (s.cells t).made
  pub name_is : nm ≡ child (name s.cells t) k
  pub new : (d : ℕ) → d < s.count → name s.cells d ≢ nm
  pub latest : (d j : ℕ) → d < s.count → maker s.cells d ≡ t → IsThing s.cells d j → j < k

module _ (s : CoreState) (x : CoreFacts s) where
  -- a new cell of t, a task that runs: a promise that t owns, or a task that owns itself
  pub new_fits : (t u : ℕ) (nm : Name) (k : ℕ) (st : CellStage)
      → stage s.cells t ≡ running
      → IsNewName s t k nm
      → (wait_of st ≡ None) × (raised_by st ≡ 0)
      → wait s.cells u ≡ None
      → (u ≡ s.count → Lives st) × (u ≢ s.count → Lives (stage s.cells u))
      → (is_task st ≡ true → u ≡ s.count)
      → (Lives st → u ≡ s.count)
      → (st ≡ promise → u ≡ t)
      → Fits s s.count (record { maker = t; name = nm; made = 0; owner = Some u; stage = st })
      (suc s.count) s.others s.cleared
  new_fits t u nm k st runs named calm no_wait lives own_result live_result from = record {
    inside = omega arith;
    grows = omega arith;
    only_new = λ c l d. omega arith;
    waited = λ w e. some_none e (ap wait_of old);
    begins = λ q. let e = subst HasBegun old q in absurd e;
    stays_task = λ q. let e : false ≡ true = sym (ap is_task old) ∙ q in absurd (cc);
    same_name = λ l. absurd (omega arith);
    same_maker = λ l. absurd (omega arith);
    more_made = λ l. absurd (omega arith);
    owned_by_waiting = λ v w e _. some_none e free;
    stays_closed = λ l _. absurd (omega arith);
    old_owner = λ v l _ _. absurd (omega arith);
    no_waiter = λ v w e e'. let q : u ≡ v = cc in some_none e (ap (wait cells) (sym q) ∙ wait_none u no_wait);
    gives_up = λ v e. some_none e free;
    owns_still = λ c _ e. let l = x.owners.owners_live c s.count e in absurd (subst Lives old l);
    owner_lives = λ v e. let q : u ≡ v = cc in (
      λ d. lives.0 (q ∙ d),
      λ d. subst (λ j. Lives (stage s.cells j)) q
          (lives.1 (λ d'. d (sym q ∙ d'))),
    );
    own_result = λ e v o. let q : u ≡ v = cc in sym q ∙ own_result e;
    live_result = λ e. ap (λ (j : ℕ). Some j) (live_result e);
    from_maker = λ v e o. let q : u ≡ v = cc in inl (sym q ∙ (from e ∙ sym its_maker));
    made_before = λ _. record {
      earlier = subst (λ j. j < s.count) (sym its_maker) t_there;
      task = subst (IsTask cells) (sym its_maker) (ap is_task t_same ∙ ap is_task runs);
      named = record {
        number = k;
        some = named.some;
        made = subst (λ j. k ≤ (cells j).made) (sym its_maker)
            (subst (λ (c : CellState). k ≤ c.made) (sym (put_else s.cells s.count a t t_else)) named.made);
        name_is = its_name ∙ (named.name_is
            ∙ ap (λ (q : Name). child q k) (sym (ap (name cells) its_maker ∙ t_name)));
      };
      new_name = λ d below e. named.new d below
          (sym (old_name d (else d below)) ∙ (e ∙ its_name));
      latest = λ d j k' below same thing thing'.
          let of_t : maker s.cells d ≡ t = sym (old_maker d (else d below)) ∙ (same ∙ its_maker) in
          let was : IsThing s.cells d j = sym (old_name d (else d below)) ∙ (thing
          ∙ ap (λ (q : Name). child q j) (ap (name cells) (same ∙ its_maker)
          ∙ (t_name ∙ ap (name s.cells) (sym of_t)))) in
          let number : k ≡ k' = (child_same (name s.cells t) (name cells (maker cells s.count)) k k'
          (sym (its_name ∙ named.name_is) ∙ thing')).1 in
          let small = named.latest d j below of_t was in omega arith;
    };
    sum =
        let here : raised_by (stage cells s.count) ≡ raised_by st =
        λ j. raised_by (put_here s.cells s.count a j).stage in
        let below = raised-put_from s.count s.cells s.count a (le_refl s.count) in
        let q = x.others_count in let none = calm.1 in omega arith;
  }
    where
      a : CellState
      a = record { maker = t; name = nm; made = 0; owner = Some u; stage = st }

      cells : ℕ → CellState
      cells = put s.cells s.count a

      old : stage s.cells s.count ≡ promise
      old = ap (λ (y : CellState). y.stage) (x.places.blanks s.count (le_refl s.count))

      free : owner s.cells s.count ≡ None
      free = ap (λ (y : CellState). y.owner) (x.places.blanks s.count (le_refl s.count))

      t_there : t < s.count
      t_there = task_there s x t (ap is_task runs)

      its_maker : maker cells s.count ≡ t
      its_maker = ap (λ (c : CellState). c.maker) (put_here s.cells s.count a)

      its_name : name cells s.count ≡ nm
      its_name = ap (λ (c : CellState). c.name) (put_here s.cells s.count a)

      else : (d : ℕ) → d < s.count → d ≢ s.count
      else d l e = omega arith

      t_else : t ≢ s.count
      t_else e = let l = t_there in omega arith

      t_same : stage cells t ≡ stage s.cells t
      t_same = ap (λ (c : CellState). c.stage) (put_else s.cells s.count a t t_else)

      old_maker : (d : ℕ) → d ≢ s.count → maker cells d ≡ maker s.cells d
      old_maker d n = ap (λ (c : CellState). c.maker) (put_else s.cells s.count a d n)

      old_name : (d : ℕ) → d ≢ s.count → name cells d ≡ name s.cells d
      old_name d n = ap (λ (c : CellState). c.name) (put_else s.cells s.count a d n)

      t_name : name cells t ≡ name s.cells t
      t_name = old_name t t_else

      wait_none : (j : ℕ) → wait s.cells j ≡ None → wait cells j ≡ None
      wait_none j e = at_put s.cells s.count a (λ i y. wait s.cells i ≡ None → wait_of y.stage ≡ None) j
          (λ _. calm.0) (λ d e'. e') e
