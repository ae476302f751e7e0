-- A cell is closed: nobody owns it from now on, and its TAG and BITS are due to the seat of its owner.
use Rattle.tj_words.proofs.Prelude.{Contents, CoreFacts, Custody, Due, EventKeepsFacts, Hand, IsDue, IsIn, IsOfTree}
use Rattle.tj_words.proofs.Prelude.{IsThere, Law, List, MayAct, None, Once, OnceWords, Option, OwnedLists, Phase}
use Rattle.tj_words.proofs.Prelude.{Program, SeenWord, Some, WaitersOwn, [], ap, arith, core_shown, dite, drawn_in}
use Rattle.tj_words.proofs.Prelude.{gave_up, get_elem?, hand_of, hold, inl, inr, is_task_sort, phase_sort, put, refl}
use Rattle.tj_words.proofs.Prelude.{set, some, subst, sym, ℕ, ℕ_discrete, ⊎_elim, ◌++◌, ◌∙◌, ◌∷◌, ◌≡◌, ◌≢◌}
use Rattle.tj_words.proofs.Lemmas.{ActsOn, ClosesPromise, ClosesResult, IsHeldWith, KeepsCells, custody, facts_after}
use Rattle.tj_words.proofs.Lemmas.{home_there, list_owned, none_some, none_unless, of_seat_set, once_more}
use Rattle.tj_words.proofs.Lemmas.{owned_held_by, owned_parts, owner_out, parts_of, put_else, put_here, sort_is}
use Rattle.tj_words.proofs.Cells.CellFacts.{task_shown}
use Rattle.tj_words.proofs.Holders.HeldChanges.{found_held, held_task, hold_move, made_held, owned_held}
use Rattle.tj_words.proofs.Cells.OwnedChanges.{owned_loses}
use Rattle.tj_words.proofs.Events.OwnerEvents.{acts_phase, close_shown, end_shown, acts_there}
use Rattle.tj_words.proofs.Calls.KeptCells.{kept_words}
use Rattle.tj_words.proofs.Holders.TaskMoves.{TaskMove, law_owners}
use Rattle.tj_words.proofs.Cells.MoreDues.{due_here}
use Rattle.tj_base.specs.declared.cell.Sort.TheVariants as sort
use Rattle.tj_words.specs.declared.offsets.Once.TheVariants as once
use Rattle.tj_words.specs.declared.phase.Phase.TheVariants as phase

-- what is due to a seat that has closed the cell
abbrev pub values : ℕ → List Due
values c = record { cell = c; word = once.Bits } ∷ record { cell = c; word = once.Tag } ∷ []

abbrev pub with_values : ℕ → List Due → List Due
with_values c ds = values c ++ ds

tag_due : (c d : ℕ) → d ≡ c → IsDue d once.Tag (values c)
tag_due c d e = inr (inl (λ j. record { cell = e j; word = once.Tag }))

-- seat id's task t acts, and owns its result and c
pub record GivesUp {B : Type 0} (x : Contents B) (id t c : ℕ) : Type 0 where
  pub has : Custody B
  pub held : IsHeldWith x id t has
  pub may : MayAct has.does
  pub out : has.home ≡ None
  pub result : IsIn t has.owned
  pub owns : IsIn c has.owned

module _ {drawn : ℕ} {hand : ℕ → Option Hand} {hands : List (Option Hand)} {own : ℕ → Option ℕ}
    {word : ℕ → Once → ℕ} {seen : List (List SeenWord)} {dues : List (List Due)}
    (o : OnceWords drawn hand hands own word seen dues) (id c t : ℕ) (there : IsThere drawn hand c)
    (owns : own c ≡ Some t) (ds : List Due) (at : get_elem? dues id ≡ some ds) where
  -- these are of the cell, and no words of the tree
  value : (d : Due) → IsIn d (values c) → (d.cell ≡ c) × (¬ IsOfTree d.word)
  value d (inl e) = subst (λ (z : Due). (z.cell ≡ c) × (¬ IsOfTree z.word)) (sym e) (refl, (λ i. i))
  value d (inr (inl e)) = subst (λ (z : Due). (z.cell ≡ c) × (¬ IsOfTree z.word)) (sym e) (refl, (λ i. i))
  value d (inr (inr i)) = absurd i

  open_yet : {Z : Type 0} (d : ℕ) → d ≡ c → own d ≡ None → Z
  open_yet d q e = none_some (own d) t e (ap own q ∙ owns)

  pub once_closed : OnceWords drawn hand hands (put own c None) word seen (set dues id (with_values c ds))
  once_closed = once_more o id ds (values c) at (omega arith)
      (λ d g i. let w = value (record { cell = d; word = g }) i in (
        none_unless (o.due_to d g) (λ j e. open_yet d w.0 ((o.may_be_due d j g e).value w.1).1),
        dite (ℕ_discrete (word d g) 0) (λ e. e) (λ z. open_yet d w.0 (o.valued d g w.1 z).1),
      ))
      (λ d g i tree l. (value (record { cell = d; word = g }) i).1 tree)
      (λ d g i. let w = value (record { cell = d; word = g }) i in record {
        tree = λ k. absurd (w.1 k);
        value = λ k. (subst (IsThere drawn hand) (sym w.0) there, put_here own c d None w.0);
        tag_last = λ k. due_here id o.due_to (values c) d once.Tag (tag_due c d w.0);
      })
      (λ d i e. (i, dite (ℕ_discrete d c) (put_here own c d None) (λ n. put_else own c d None n ∙ e)))
      (λ d j k. k)
      (λ d i e. dite (ℕ_discrete d c) (λ q. inr (tag_due c d q)) (λ n. inl (i, sym (put_else own c d None n) ∙ e)))
      (λ d g l i. let q = (value (record { cell = d; word = g }) i).0 in let k = there.0 in omega arith)

module _ {B : Type 0} {program : Program B} {cells : ℕ} {x : Contents B} (r : Law program cells x) where
  -- a cell that a task owns beside its result is a promise
  pub owned_promise : (c t : ℕ) → IsThere (drawn_in cells x) (hand_of x) c → x.words.own c ≡ Some t → c ≢ t
      → x.words.phase c ≡ phase.Promise
  owned_promise c t there owns n = by (x.words.phase c) refl
    where
      no_task : phase_sort (x.words.phase c) ≡ sort.Task → ⊥
      no_task e = n (sym (r.facts.owners.results_own c t
          (task_shown r c there ∙ ap is_task_sort (sort_is r c there ∙ e))
          (owner_out r.born r.maker (parts_of cells x) c there.0 there.1 ∙ owns)))

      by : (p : Phase) → x.words.phase c ≡ p → p ≡ phase.Promise
      by phase.Promise e = refl
      by p e = absurd (no_task (ap phase_sort e))

  module _ {id t c : ℕ} (g : GivesUp x id t c) where
    abbrev k' : Custody B
    k' = gave_up c g.has

    abbrev pub gave_list : List (Custody B)
    gave_list = hold k' g.held.0

    pub its_task : g.has.task ≡ t
    its_task = held_task g.held.0 t g.has g.held.2

    pub owned_here : IsThere (drawn_in cells x) (hand_of x) c × (x.words.own c ≡ Some t)
    owned_here = list_owned r id t g.has g.held c g.owns

    -- the task acts, and gives c up
    abbrev pub gives_up : ActsOn x id t
    gives_up = record {
      before_it = g.has;
      after_it = k';
      held = g.held;
      may = g.may;
      result = g.result;
      runs = refl;
      made = refl;
    }

    runs : x.words.phase t ≡ phase.Running
    runs = acts_phase r id t gives_up

    -- a task that waits isn't closed
    pub waiters : WaitersOwn (put x.words.own c None) x.words.phase
    waiters u p way w e z = dite (ℕ_discrete u c)
        (λ q. let e' : x.words.phase c ≡ phase.Waiting p way w = ap x.words.phase (sym q) ∙ e in dite (ℕ_discrete c t)
        (λ s. let y : phase.Running ≡ phase.Waiting p way w = sym runs ∙ (ap x.words.phase (sym s) ∙ e') in absurd (cc))
        (λ s. let y : phase.Promise ≡ phase.Waiting p way w
        = sym (owned_promise c t owned_here.0 owned_here.1 s) ∙ e' in absurd (cc)))
        (λ m. r.waiters_own u p way w e (sym (put_else x.words.own c u None m) ∙ z))

    pub move : TaskMove r id t x.words.phase g.held.0 gave_list x.slots
    move = hold_move r id t g.has k' g.held its_task x.slots (λ u d. refl) (home_there r t)
        x.words.phase (λ u q. refl) runs (acts_there r id t gives_up)
        (λ p way w e. (r.names.waits t p way w e, r.waiters_own t p way w e)) (λ d i. absurd i) refl (λ z e q i. i)
        (λ a. absurd a) (λ y e. none_some g.has.home y g.out e) (λ e. (custody r id t g.has g.held).out g.out)

    -- which it closes: where it closes its result, it owns nothing else, and its seat has nothing in hand
    module _ (last : c ≡ t → (g.has.owned ≡ c ∷ []) × (get_elem? x.seats.hands id ≡ some None)) (ds : List Due)
        (at : get_elem? x.seats.dues id ≡ some ds) where
      -- the contents then
      abbrev pub closed : Contents B
      closed = record {
        words = record x.words { own = put x.words.own c None };
        slots = x.slots;
        seats = record x.seats {
          tasks = set x.seats.tasks id gave_list;
          dues = set x.seats.dues id (with_values c ds);
        };
      }

      same : parts_of cells closed ≡ owned_parts (parts_of cells x) c None t (Some k')
      same = λ j. record (parts_of cells x) {
        own = put x.words.own c None;
        held = found_held r id t g.has k' g.held its_task j;
      }

      -- the task has closed a promise, or its result
      pub closes_promise : c ≢ t → ClosesPromise cells x closed id t c
      closes_promise q = record {
        acts = gives_up;
        owned = g.owns;
        promise = owned_promise c t owned_here.0 owned_here.1 q;
        parts = same;
      }

      pub closes_own : c ≡ t → ClosesResult cells x closed id t
      closes_own e = record {
        acts = gives_up;
        alone = λ d i. ⊎_elim (λ q. q ∙ e) (λ i. absurd i) (subst (IsIn d) (last e).0 i);
        no_hand = (last e).1;
        parts = same ∙ ap (λ z. owned_parts (parts_of cells x) z None t (Some k')) e;
      }

      pub facts : EventKeepsFacts → CoreFacts (core_shown cells r.born r.maker closed)
      facts events = dite (ℕ_discrete c t)
          (λ e. facts_after events (end_shown r closed id t (closes_own e)) r.facts)
          (λ q. facts_after events (close_shown r closed id t c (closes_promise q)) r.facts)

      pub closed_keeps : KeepsCells cells x closed
      closed_keeps = kept_words cells x closed (λ d. refl) (made_held r id t g.has k' g.held its_task refl) refl

      -- the law after the close
      abbrev pub law_closed : EventKeepsFacts → Law program cells closed
      law_closed events = law_owners r move (put x.words.own c None) x.words
          (record x.seats { dues = set x.seats.dues id (with_values c ds) })
          (λ d u e. dite (ℕ_discrete d c)
          (λ q. none_some (put x.words.own c None d) u (put_here x.words.own c d None q) e)
          (λ q. r.names.owned d u (sym (put_else x.words.own c d None q) ∙ e)))
          r.names.knows
          record {
            written = r.tree_words.written;
            in_hand = λ d g y f e i o. ⊎_elim
                (λ w. inl (
                  w.0,
                  of_seat_set (IsDue d f) x.seats.dues id w.0 ds (with_values c ds) at
                      (λ j. inr (inr j)) w.1,
                ))
                (λ w. inr w) (r.tree_words.in_hand d g y f e i o);
          }
          (subst (OwnedLists (drawn_in cells x) (hand_of x) (put x.words.own c None))
          (sym (owned_held r id t g.has k' g.held its_task))
          (owned_loses r.owned c owned_here.0 t owned_here.1 g.has.owned (sym (owned_held_by r id t g.has g.held))))
          (once_closed r.once_words id c t owned_here.0 owned_here.1 ds at)
          r.chains r.live_count waiters r.records_fit r.meaning (facts events)
