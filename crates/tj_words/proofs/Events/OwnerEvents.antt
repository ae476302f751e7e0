-- The stores of OWN are events of the core, or show nothing.
use Rattle.tj_words.proofs.Prelude.{Bool, Contents, Custody, Hand, IsBegun, IsIn, IsThere, Law, None, Option, Program}
use Rattle.tj_words.proofs.Prelude.{Runs, Some, Sort, ap, arith, at_put, cell, cond, dec_le, dite, drawn_in, eq-eqb}
use Rattle.tj_words.proofs.Prelude.{first_owner, fresh, get_elem?, hand_in, hand_of, held_of, home_of, made_by, maker}
use Rattle.tj_words.proofs.Prelude.{ne_eqb, new_stage, owner_shown, parent_word, phase_sort, put, put_else, put_here}
use Rattle.tj_words.proofs.Prelude.{reference_of, refl, some, stage_there, subst, suc, sym, ℕ, ◌<◌, ◌∙◌, ◌≡◌, ◌≢◌, ◌≤◌}
use Rattle.tj_words.proofs.Lemmas.{ActsOn, ClosesPromise, ClosesResult, HandsPromise, ShowsEvent, begun_there}
use Rattle.tj_words.proofs.Lemmas.{cell_blank, cell_born, cell_there, core_of, custody, does_shown, does_stage_there}
use Rattle.tj_words.proofs.Lemmas.{hand_found, held_here, list_owned, made_held_by, makes_nothing, none_some, one_some}
use Rattle.tj_words.proofs.Lemmas.{owner_out, parts_of, shown_by, stage_held, stage_out}
use Rattle.tj_events.specs.CoreState.{CellState, owner, running, stage, promise}
use Rattle.tj_events.specs.Events.{alter, restage, owned_by, stage_after_close}
use Rattle.tj_words.proofs.Events.ShownOwners.{result_closed, owner_changed, ShowsAs, shows_as, shows_itself}
use Rattle.tj_words.proofs.Events.TurnedTasks.{acting_runs, acting_phase}
use Rattle.tj_base.specs.declared.cell.Sort.TheVariants as sort
use Rattle.tj_events.specs.declared.event.Event.TheVariants as event
use Rattle.tj_words.specs.declared.offsets.Once.TheVariants as once
use Rattle.tj_words.specs.declared.phase.Phase.TheVariants as phase
use Rattle.tj_words.specs.declared.view.Does.TheVariants as does
use Rattle.tj_words.specs.LawParts.Holding as holding

-- a task other than the root is fresh at first
pub new_fresh : (t : ℕ) → t ≢ 0 → new_stage t ≡ fresh
new_fresh t n = ap (λ (b : Bool). cond b running fresh) (ne_eqb t 0 n)

module _ {B : Type 0} {program : Program B} {cells : ℕ} {x : Contents B} (r : Law program cells x) (id t : ℕ) where
  module _ (a : ActsOn x id t) where
    pub acts_phase : x.words.phase t ≡ phase.Running
    acts_phase = (custody r id t a.before_it a.held).does ∙ acting_phase a.before_it.does a.may

    pub acts_there : IsThere (drawn_in cells x) (hand_of x) t
    acts_there = begun_there r t (subst IsBegun (sym acts_phase) tt)

    pub acts_owned : x.words.own t ≡ Some t
    acts_owned = (list_owned r id t a.before_it a.held t a.result).1

    pub acts_run : Runs (stage (core_of r).cells t)
    acts_run = subst Runs
        (sym (stage_held r id t a.before_it a.held t acts_there.1 acts_owned)) (acting_runs t a.before_it.does a.may)

    pub acts_made : made_by (Some a.after_it) (home_of x t) ≡ made_by (held_of x t) (home_of x t)
    acts_made = a.made ∙ made_held_by r id t a.before_it a.held

    pub acts_stage : stage_there t (phase_sort (x.words.phase t)) (x.words.own t) (x.words.phase t) (Some a.after_it)
        (home_of x t) ≡ running
    acts_stage = (λ j. stage_there t (phase_sort (acts_phase j)) (acts_owned j) (acts_phase j) (Some a.after_it)
        (home_of x t)) ∙ does_stage_there t t a.after_it (home_of x t) does.Running a.runs

    -- a promise that the task owns
    module _ (p : ℕ) (o : Option ℕ) (held : ℕ → Option (Custody B)) (listed : IsIn p a.before_it.owned)
        (is : x.words.phase p ≡ phase.Promise) where
      pub owned_there : IsThere (drawn_in cells x) (hand_of x) p × (x.words.own p ≡ Some t)
      owned_there = list_owned r id t a.before_it a.held p listed

      pub owned_other : p ≢ t
      owned_other e = let q : phase.Promise ≡ phase.Running = sym is ∙ (ap x.words.phase e ∙ acts_phase) in absurd (cc)

      pub owned_owner : owner (core_of r).cells p ≡ Some t
      owned_owner =
          owner_out r.born r.maker (parts_of cells x) p owned_there.0.0 owned_there.0.1 ∙ owned_there.1

      -- has another owner
      pub owner_given : held t ≡ Some a.after_it
          → ((c : ℕ) → c ≢ t → ShowsAs (parts_of cells x) c (held c))
          → shown_by r.born r.maker (record (parts_of cells x) { own = put x.words.own p o; held = held })
          ≡ alter (restage (core_of r) t (λ _. running)) p (owned_by o)
      owner_given now else = owner_changed r.born r.maker (parts_of cells x) p t o held acts_there.0 acts_there.1
          (ap (λ (k : Option (Custody B)). made_by k (home_of x t)) now ∙ acts_made)
          (ap (λ (k : Option (Custody B)). stage_there t (phase_sort (x.words.phase t)) (x.words.own t)
          (x.words.phase t) k (home_of x t)) now ∙ acts_stage)
          owned_there.0.0 owned_there.0.1 (ap phase_sort is) owned_other else

module _ {B : Type 0} {program : Program B} {cells : ℕ} {x : Contents B} (r : Law program cells x) (y : Contents B)
    (id t : ℕ) where
  abbrev n : ℕ
  n = drawn_in cells x

  -- the store of c into OWN of a promise of t is a Hand
  pub hand_shown : (p c : ℕ) → HandsPromise cells x y id t p c
      → ShowsEvent cells r.born r.maker x y (event.Hand (cell t) (cell p) (cell c)) r.born r.maker
  hand_shown p c s = record {
    allowed = (
      acts_run r id t s.acts,
      is_promise,
      owned_owner r id t s.acts p (Some c) held s.owned s.promise,
      (fresh_child, its_maker, s.other),
    );
    shown = ap (shown_by r.born r.maker) s.parts
        ∙ owner_given r id t s.acts p (Some c) held s.owned s.promise
        (put_else (put (held_of x) t (Some s.acts.after_it)) c (Some s.child_after) t (λ e. s.other (sym e))
        ∙ put_here (held_of x) t (Some s.acts.after_it))
        (λ d q. at_put (put (held_of x) t (Some s.acts.after_it)) c (Some s.child_after)
        (ShowsAs (parts_of cells x)) d
        (shows_as r id c s.child_before s.child_after s.child_held (s.still_unborn ∙ sym s.unborn) s.child_made)
        (λ _. subst (ShowsAs (parts_of cells x) d) (sym (put_else (held_of x) t (Some s.acts.after_it) d q))
        (shows_itself (parts_of cells x) d)));
  }
    where
      held : ℕ → Option (Custody B)
      held = put (put (held_of x) t (Some s.acts.after_it)) c (Some s.child_after)

      is_promise : stage (core_of r).cells p ≡ promise
      is_promise = let there = (list_owned r id t s.acts.before_it s.acts.held p s.owned).0 in
          stage_out r.born r.maker (parts_of cells x) p there.0 there.1
          ∙ (λ j. stage_there p (phase_sort (s.promise j)) (x.words.own p) (s.promise j) (held_of x p) (home_of x p))

      child_there : IsThere n (hand_of x) c
      child_there = (list_owned r id c s.child_before s.child_held c s.its_result).0

      -- PARENT of the child is the one that its maker gives
      parent_is : parent_word c (r.maker c) ≡ suc t
      parent_is = sym (r.tree_words.written c (reference_of r.born c) once.Parent child_there
          (cell_born r c child_there.0) tt) ∙ s.its_parent

      made_by_t : (d m : ℕ) → parent_word d m ≡ suc t → (d ≢ 0) × (m ≡ t)
      made_by_t d m e = grind arith

      not_root : c ≢ 0
      not_root = (made_by_t c (r.maker c) parent_is).0

      fresh_child : stage (core_of r).cells c ≡ fresh
      fresh_child = stage_held r id c s.child_before s.child_held c child_there.1
          (list_owned r id c s.child_before s.child_held c s.its_result).1
          ∙ (ap (does_shown c) s.unborn ∙ new_fresh c not_root)

      its_maker : maker (core_of r).cells c ≡ t
      its_maker = ap (λ (z : CellState). z.maker) (cell_there r.born r.maker (parts_of cells x) c child_there.0)
          ∙ (made_by_t c (r.maker c) parent_is).1

  -- the store of nobody into OWN of a promise of t is a Close
  pub close_shown : (p : ℕ) → ClosesPromise cells x y id t p
      → ShowsEvent cells r.born r.maker x y (event.Close (cell t) (cell p)) r.born r.maker
  close_shown p s = record {
    allowed = (
      acts_run r id t s.acts,
      owned_owner r id t s.acts p None held s.owned s.promise,
      λ e. absurd (other e),
    );
    shown = ap (shown_by r.born r.maker) s.parts
        ∙ (owner_given r id t s.acts p None held s.owned s.promise (put_here (held_of x) t (Some s.acts.after_it))
        (λ d q. subst (ShowsAs (parts_of cells x) d) (sym (put_else (held_of x) t (Some s.acts.after_it) d q))
        (shows_itself (parts_of cells x) d))
        ∙ (λ j. alter (restage (core_of r) t (λ _. stage_after_close (sym (ne_eqb p t other) j))) p (owned_by None)));
  }
    where
      held : ℕ → Option (Custody B)
      held = put (held_of x) t (Some s.acts.after_it)

      other : p ≢ t
      other = owned_other r id t s.acts p None held s.owned s.promise

  -- the store of nobody into OWN of t itself is a Close
  pub end_shown : ClosesResult cells x y id t
      → ShowsEvent cells r.born r.maker x y (event.Close (cell t) (cell t)) r.born r.maker
  end_shown s = record {
    allowed = (acts_run r id t s.acts, owns, λ _ c e. alone c e);
    shown = ap (shown_by r.born r.maker) s.parts
        ∙ (result_closed r.born r.maker (parts_of cells x) t (Some s.acts.after_it) there.0 there.1
        (ap phase_sort (acts_phase r id t s.acts)) (acts_made r id t s.acts)
        ∙ (λ j. alter (restage (core_of r) t (λ _. stage_after_close (sym (eq-eqb t t refl) j))) t (owned_by None)));
  }
    where
      there : IsThere n (hand_of x) t
      there = acts_there r id t s.acts

      owns : owner (core_of r).cells t ≡ Some t
      owns = owner_out r.born r.maker (parts_of cells x) t there.0 there.1 ∙ acts_owned r id t s.acts

      in_hand : (c : ℕ) (h : Hand) → h.cell ≡ c
          → ((j : ℕ) × (get_elem? x.seats.hands j ≡ some (Some h)))
          → (o : Sort) → h.sort ≡ o → first_owner o h.maker c ≡ t → c ≡ t
      in_hand c h q at sort.Task e f = f
      in_hand c h q at sort.Promise e f =
          absurd (makes_nothing r id t s.acts.before_it s.acts.held s.no_hand at.0 h at.1 f)

      listed : (c : ℕ) → IsThere n (hand_of x) c → x.words.own c ≡ Some t → c ≡ t
      listed c there e = s.alone c
          (subst (λ (o : Option (Custody B)). IsIn c (holding.owned_by o (home_of x t)))
          (held_here r id t s.acts.before_it s.acts.held) ((r.owned.owners c t there).0 e))

      drawn : (c : ℕ) → c < n → owner (core_of r).cells c ≡ Some t → c ≡ t
      drawn c l e = by (hand_in x.seats.hands c) refl
          (sym (ap (λ (z : CellState). z.owner) (cell_there r.born r.maker (parts_of cells x) c l)) ∙ e)
        where
          by : (o : Option Hand) → hand_in x.seats.hands c ≡ o → owner_shown c o (x.words.own c) ≡ Some t → c ≡ t
          by None q f = listed c (l, q) f
          by (Some h) q f = let w = hand_found x.seats.hands c h q in
              in_hand c h w.1 w.0 h.sort refl (one_some (first_owner h.sort h.maker c) t f)

      alone : (c : ℕ) → owner (core_of r).cells c ≡ Some t → c ≡ t
      alone c e = dite (dec_le n c)
          (λ (l : n ≤ c). none_some (owner (core_of r).cells c) t
          (ap (λ (z : CellState). z.owner) (cell_blank r.born r.maker (parts_of cells x) c l)) e)
          (λ (l : ¬ (n ≤ c)). drawn c (omega arith) e)
