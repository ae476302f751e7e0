-- The stores of OWN keep the rule.
use Rattle.tj_words.proofs.Prelude.{Allows, Backing, Bool, Contents, Custody, Due, EventKeepsFacts, Hand, HasAlarmed}
use Rattle.tj_words.proofs.Prelude.{IsSeat, Key, List, MayGive, MayPutOwner, None, Option, Program, PutsOwner, Rec}
use Rattle.tj_words.proofs.Prelude.{Rule, SeatMe, Some, Sort, State, View, [], ap, arith, at_map, cell, contents_of}
use Rattle.tj_words.proofs.Prelude.{dite, drawn_in, first_owner, gave_owner, gave_up, get_elem?, hand_of, held_in, hold}
use Rattle.tj_words.proofs.Prelude.{inl, inr, none, noted, own_at, owner_in, owns_also, put, refl, set, some, step}
use Rattle.tj_words.proofs.Prelude.{subst, suc, sym, words_say, zero, ℕ, ℕ_discrete, ◌<◌, ◌∙◌, ◌∷◌, ◌≡◌, ◌≢◌}
use Rattle.tj_words.proofs.Lemmas.{IsEventStep, Own, ShowsEvent, Stores, back, hand_finds, holder_seat, list_owned}
use Rattle.tj_words.proofs.Lemmas.{none_some, noted_is, one_some, seats_same, step_allowed, store_word, stored}
use Rattle.tj_words.specs.Calls.OwnerViews.{MayClose, MayHand, IsOwnersSeat, closed_cell, handed_promise, owner_put}
use lib.Seq.{set-set}
use Rattle.tj_words.proofs.Holders.NotedEntries.{noted_here, noted_else}
use Rattle.tj_words.proofs.Waiters.LiveSteps.{backing_running, alarms_else}
use Rattle.tj_words.proofs.Waiters.Backings.{backing_runs}
use Rattle.tj_words.proofs.Stores.WordStores.{hand_here}
use Rattle.tj_words.proofs.Cells.GivenCells.{give_stores}
use Rattle.tj_words.proofs.Cells.ClosedCells.{GivesUp, closed, closed_keeps, closes_own, closes_promise, law_closed}
use Rattle.tj_words.proofs.Cells.ClosedCells.{owned_here}
use Rattle.tj_words.proofs.Cells.HandedPromises.{GivesChild, acting_other, handed, handed_keeps, hands, law_handed}
use Rattle.tj_words.proofs.Events.OwnerEvents.{close_shown, end_shown, hand_shown}
use Rattle.tj_base.specs.declared.cell.Sort.TheVariants as sort
use Rattle.tj_events.specs.declared.event.Event.TheVariants as event

module _ {B : Type 0} where
  -- the view between: the owner has given the cell up
  abbrev pub gave_view : ℕ → ℕ → View B → View B
  gave_view t c v = record v { tasks = noted t (gave_up c) v.tasks }

  -- a task that acts isn't unborn
  other_child : (v : View B) (c u : ℕ) (m : MayHand c u v) → u ≢ m.task
  other_child v c u m = acting_other v.tasks m.task u m.owner.held m.owner.may m.child_held m.unborn

  pub gave_child : (v : View B) (c u : ℕ) (m : MayHand c u v) → held_in (gave_view m.task c v).tasks u ≡ Some m.child
  gave_child v c u m =
      noted_else v.tasks m.task m.owner.custody (gave_up c) m.owner.held refl u (other_child v c u m) ∙ m.child_held

module _ {B : Type 0} {program : Bool → B → Program B} {key : Key B} {s : State (Option (Rec B)) (View B)}
    (r : Rule program key s) (id : ℕ) {v : View B} (at : get_elem? s.views id ≡ some v) where
  abbrev x : Contents B
  x = contents_of s

  pub dues : get_elem? x.seats.dues id ≡ some v.dues
  dues = at_map (λ (u : View B). u.dues) s.views id v at

  pub tasks : get_elem? x.seats.tasks id ≡ some v.tasks
  tasks = at_map (λ (u : View B). u.tasks) s.views id v at

  hand : {o : Option Hand} → v.hand ≡ o → get_elem? x.seats.hands id ≡ some o
  hand e = at_map (λ (u : View B). u.hand) s.views id v at ∙ ap some e

  -- the owner gives the cell up
  abbrev owner_gives : {t c : ℕ} → IsOwnersSeat t c v → GivesUp x id t c
  owner_gives o = record {
    has = o.custody;
    held = (v.tasks, tasks, o.held);
    may = o.may;
    out = o.out;
    result = o.result;
    owns = o.owns;
  }

  -- the seat of a cell's owner, with other tasks and dues
  owner_seat : {t c : ℕ} (steps : ℕ) (ks : List (Custody B)) (ds : List Due) → IsOwnersSeat t c v
      → Backing (record v { steps = steps; tasks = ks; dues = ds })
      → IsSeat key (record v { steps = steps; tasks = ks; dues = ds })
  owner_seat {t} {c} steps ks ds m b = let q = r.seats id v at in
      holder_seat key v t m.custody m.held q v.tokens ks v.pushes ds q.within_lot.tokens_fit b

  -- a seat one of whose tasks gives a cell up is backed, whatever is due then
  gave_backing : {t c : ℕ} (steps : ℕ) (ds : List Due) → IsOwnersSeat t c v
      → Backing (record v { steps = steps; tasks = noted t (gave_up c) v.tasks; dues = ds })
  gave_backing {t} {c} steps ds m =
      backing_runs v (record v { steps = steps; tasks = noted t (gave_up c) v.tasks; dues = ds }) t refl
      (noted_else v.tasks t m.custody (gave_up c) m.held refl) (gave_up c m.custody)
      (noted_here v.tasks t m.custody (gave_up c) m.held refl) tt (λ a. a) (r.seats id v at).backing

  -- the store of nobody
  module _ {c : ℕ} (m : MayClose c v) where
    pub last_here : c ≡ m.task → (m.owner.custody.owned ≡ c ∷ []) × (get_elem? x.seats.hands id ≡ some None)
    last_here e = ((m.last e).0, hand (m.last e).1)

    abbrev after_close : Contents B
    after_close = closed r.law (owner_gives m.owner) last_here v.dues dues

    -- what the store leaves
    pub close_path : (n : ℕ) → owner_in n ≡ None → stored s id (Own c) n (closed_cell m.task c v) ≡ after_close
    close_path n is j = record {
      words = record (words_say s.words) { own = put (words_say s.words).own c (is j) };
      slots = s.homes;
      seats = record (seats_same s.views id v at j) {
        tasks = set x.seats.tasks id (noted_is v.tasks m.task m.owner.custody (gave_up c) m.owner.held j);
        dues = set x.seats.dues id (closed_cell m.task c v).dues;
      };
    }

    -- the task closes a promise, or its result
    pub close_event : IsEventStep r.law after_close (event.Close (cell m.task) (cell c))
    close_event = (
      dite (ℕ_discrete c m.task)
          (λ e. back (λ j. ShowsEvent key.cells r.law.born r.law.maker x after_close
          (event.Close (cell m.task) (cell (e j))) r.law.born r.law.maker)
          (end_shown r.law after_close id m.task (closes_own r.law (owner_gives m.owner) last_here v.dues dues e)))
          (λ q. close_shown r.law after_close id m.task c
          (closes_promise r.law (owner_gives m.owner) last_here v.dues dues q)),
      closed_keeps r.law (owner_gives m.owner) last_here v.dues dues,
    )

    close_stores : EventKeepsFacts → c < key.cells → Stores program key s id (own_at c) 0 (closed_cell m.task c v)
    close_stores events l = let w = closed_cell m.task c v in
        store_word program key s id (Own c) 0 w (let e = r.all_words in omega arith) (omega arith)
        (owner_seat w.steps w.tasks w.dues m.owner (gave_backing w.steps w.dues m.owner)) (r.pushed id v at) _
        (close_path 0 refl)
        (law_closed r.law (owner_gives m.owner) last_here v.dues dues events)

  -- the store of a child
  module _ {c u : ℕ} (m : MayHand c u v) where
    abbrev k : Custody B
    k = m.owner.custody

    abbrev gives_child : GivesChild x id m.task c u
    gives_child = record {
      gives = owner_gives m.owner;
      not_own = m.promise;
      child = m.child;
      child_held = m.child_held;
      unborn = m.unborn;
      child_out = m.child_out;
      child_result = m.child_result;
      its_parent = (r.law.once_words.stands id v.seen (at_map (λ (z : View B). z.seen) s.views id v at) _
          m.is_child).value;
    }

    abbrev after_hand : Contents B
    after_hand = handed r.law gives_child

    list : (handed_promise m.task c u v).tasks ≡ hold (owns_also c m.child) (hold (gave_up c k) v.tasks)
    list = noted_is (gave_view m.task c v).tasks u m.child (owns_also c) (gave_child v c u m)
        ∙ ap (hold (owns_also c m.child)) (noted_is v.tasks m.task k (gave_up c) m.owner.held)

    pub hand_path : (n : ℕ) → owner_in n ≡ Some u → stored s id (Own c) n (handed_promise m.task c u v) ≡ after_hand
    hand_path n is j = record {
      words = record (words_say s.words) { own = put (words_say s.words).own c (is j) };
      slots = s.homes;
      seats = record (seats_same s.views id v at j) {
        tasks = (ap (set x.seats.tasks id) list
            ∙ sym (set-set x.seats.tasks id (hold (gave_up c k) v.tasks)
            (hold (owns_also c m.child) (hold (gave_up c k) v.tasks)))) j;
      };
    }

    -- the task hands it
    pub hand_event : IsEventStep r.law after_hand (event.Hand (cell m.task) (cell c) (cell u))
    hand_event = (
      hand_shown r.law after_hand id m.task c u (hands r.law gives_child),
      handed_keeps r.law gives_child,
    )

    -- the seat that hands a promise is backed
    handed_backing : Backing (handed_promise m.task c u v)
    handed_backing = let w = handed_promise m.task c u v in
        let v1 = gave_view m.task c v in let held = gave_child v c u m in
        let else = noted_else v1.tasks u m.child (owns_also c) held refl in
        let here = noted_here v1.tasks u m.child (owns_also c) held refl in
        backing_running w (
          m.task,
          gave_up c k,
          else m.task (λ e. other_child v c u m (sym e))
              ∙ noted_here v.tasks m.task k (gave_up c) m.owner.held refl,
          tt,
        )
        (alarms_else v1 w u refl else
        (λ z e a. subst HasAlarmed
        (ap (λ (i : Custody B). i.does) (sym (one_some (owns_also c m.child) z (sym here ∙ e))) ∙ m.unborn) a)
        (gave_backing v.steps v.dues m.owner))

    hand_stores : EventKeepsFacts → c < key.cells
        → Stores program key s id (own_at c) (suc u) (handed_promise m.task c u v)
    hand_stores events l = let w = handed_promise m.task c u v in
        let u_there = (list_owned r.law id u m.child (v.tasks, tasks, m.child_held) u m.child_result).0.0 in
        store_word program key s id (Own c) (suc u) w (let e = r.all_words in omega arith) (omega arith)
        (owner_seat w.steps w.tasks w.dues m.owner handed_backing) (r.pushed id v at) _ (hand_path (suc u) refl)
        (law_handed r.law gives_child v.dues dues events)

  -- a cell has one owner among the tasks of a seat
  one_owner : {c t u : ℕ} → IsOwnersSeat t c v → IsOwnersSeat u c v → t ≡ u
  one_owner {c} {t} {u} a b =
      one_some t u (sym (owned_here r.law (owner_gives a)).1 ∙ (owned_here r.law (owner_gives b)).1)

  -- a cell in hand isn't in a list of those that a task owns
  not_given : {c t u : ℕ} → IsOwnersSeat t c v → MayGive c u v → ⊥
  not_given {c} a g = let f = hand_finds x.seats.hands id g.hand (hand g.has) in
      none_some (hand_of x c) f.0 (owned_here r.law (owner_gives a)).0.1 (ap (hand_of x) (sym g.its_cell) ∙ f.1)

  -- the first owner of a cell is one of those that there are
  owner_small : {c o : ℕ} → c < key.cells → MayGive c o v → o < key.cells
  owner_small {c} l g = subst (λ k. k < key.cells) (sym g.owner) (by g.hand.sort)
    where
      maker_is : r.law.maker g.hand.cell ≡ g.hand.maker
      maker_is = (r.law.births.in_hand g.hand.cell g.hand (hand_here r.law id g.hand (hand g.has))).0

      maker_there : r.law.maker g.hand.cell < drawn_in key.cells x
      maker_there = (r.law.births.makers_there g.hand.cell (r.law.hands.each id g.hand (hand g.has)).drawn_cell).0

      by : (k : Sort) → first_owner k g.hand.maker c < key.cells
      by sort.Task = l
      by sort.Promise = omega (arith, maker_is, maker_there)

  -- the step of a store of any owner
  owner_stores : EventKeepsFacts → (c o : ℕ) → c < key.cells → MayPutOwner c (owner_in o) v
      → (w : View B) × Stores program key s id (own_at c) o w × PutsOwner c (owner_in o) v w
  owner_stores events c zero l m = (
    closed_cell m.task c v,
    close_stores m events l,
    (λ k j. closed_cell (one_owner m.owner k.owner j) c v),
  )
  owner_stores events c (suc u) l (inl g) = (
    gave_owner c u v,
    give_stores program key s r id c u v at g l (owner_small l g),
    ((λ k. refl), (λ k. absurd (not_given k.owner g))),
  )
  owner_stores events c (suc u) l (inr m) = (
    handed_promise m.task c u v,
    hand_stores m events l,
    ((λ g. absurd (not_given m.owner g)), (λ k j. handed_promise (one_owner m.owner k.owner j) c u v)),
  )

pub owner_allowed : {B : Type 0} (program : Bool → B → Program B) (key : Key B) → EventKeepsFacts
    → (slots id : ℕ) (me : SeatMe B) (c i o cell : ℕ) → c < key.cells → i ≡ own_at c → cell ≡ c
    → MayPutOwner c (owner_in o) me.0
    → Allows (Rule program key) slots id me i (λ k. o) (λ k. owner_put cell (step slots i o 0 none) me o)
owner_allowed program key events slots id me c i o cell l at e m = step_allowed program key slots id me i (λ k. o)
    (λ k. owner_put cell (step slots i o 0 none) me o) (λ s r k. let t = owner_stores r id k events c o l m in (
      t.0,
      subst (λ j. Stores program key s id j o t.0) (sym at) t.1,
      (refl, subst (λ d. PutsOwner d (owner_in o) me.0 t.0) (sym e) t.2),
    ))
