-- A promise is handed to a child that isn't born yet: to the lists of tasks this is as if it were closed first, and
-- then given to the child.
use Rattle.tj_words.proofs.Prelude.{AreThere, Contents, Custody, Does, Due, EventKeepsFacts, Hand, HasAlarmed, IsIn}
use Rattle.tj_words.proofs.Prelude.{IsThere, Law, List, MayAct, None, Once, OnceWords, Option, OwnedLists, Program}
use Rattle.tj_words.proofs.Prelude.{SeenWord, Some, WaitersOwn, [], ap, at_put, dite, does_cells, drawn_in, gave_up}
use Rattle.tj_words.proofs.Prelude.{get_elem?, hand_of, held_in, held_of, hold, home_of, made_by, making, owned_of}
use Rattle.tj_words.proofs.Prelude.{owns_also, put, refl, set, set_else, set_here, some, subst, suc, sym, ℕ, ℕ_discrete}
use Rattle.tj_words.proofs.Prelude.{◌+◌, ◌∙◌, ◌∷◌, ◌≡◌, ◌≢◌}
use Rattle.tj_words.proofs.Lemmas.{HandsPromise, IsHeldWith, KeepsCells, custody, facts_after, find_put, held_alone}
use Rattle.tj_words.proofs.Lemmas.{hold_else, hold_held, home_there, inside, list_owned, made_held_by, none_some}
use Rattle.tj_words.proofs.Lemmas.{once_on, one_some, owned_held_by, owned_parts, parts_of, put_else, put_here, put_is}
use Rattle.tj_words.proofs.Holders.HeldChanges.{held_task, hold_move, owned_held, found_held}
use Rattle.tj_words.proofs.Cells.OwnedChanges.{owned_gives}
use Rattle.tj_words.proofs.Events.OwnerEvents.{hand_shown}
use Rattle.tj_words.proofs.Calls.KeptCells.{kept_parts}
use Rattle.tj_words.proofs.Cells.ClosedCells.{GivesUp, closed, gave_list, gives_up, its_task, law_closed, owned_here}
use Rattle.tj_words.proofs.Cells.ClosedCells.{owned_promise}
use Rattle.tj_words.proofs.Holders.TaskMoves.{TaskMove, law_owners}
use Rattle.tj_words.specs.declared.offsets.Once.TheVariants as once
use Rattle.tj_words.specs.declared.view.Does.TheVariants as does

-- words that are written once, where a cell that had an owner has another
pub once_owned : {drawn : ℕ} {hand : ℕ → Option Hand} {hands : List (Option Hand)} {own : ℕ → Option ℕ}
    {word : ℕ → Once → ℕ} {seen : List (List SeenWord)} {dues : List (List Due)}
    → OnceWords drawn hand hands own word seen dues
    → (c t u : ℕ) → own c ≡ Some t
    → OnceWords drawn hand hands (put own c (Some u)) word seen dues
once_owned {own = own} o c t u owns = once_on o
    (λ d i e. (
      i,
      at_put own c (Some u) (λ d z. own d ≡ None → z ≡ None) d (λ e. none_some (own c) t e owns)
          (λ _ e. e) e,
    ))
    (λ d i e. (
      i,
      at_put own c (Some u) (λ d z. z ≡ None → own d ≡ None) d (λ e. none_some (Some u) u e refl)
          (λ _ e. e) e,
    ))
    (λ d j g e. (o.may_be_due d j g e).tree)

-- a task that acts isn't one that is unborn
pub acting_other : {B : Type 0} (ks : List (Custody B)) (t u : ℕ) {k child : Custody B} → held_in ks t ≡ Some k
    → MayAct k.does → held_in ks u ≡ Some child → child.does ≡ does.Unborn → u ≢ t
acting_other {B = B} ks t u {k = k} {child = child} held may has unborn e = by k.does
    (ap (λ (z : Custody B). z.does) (one_some k child (sym held ∙ (ap (held_in ks) (sym e) ∙ has))) ∙ unborn) may
  where
    by : (d : Does) → d ≡ does.Unborn → MayAct d → ⊥
    by d q a = subst MayAct q a

-- seat id's task t gives a promise up, which is for its child u, not born yet, for which the seat has something
pub record GivesChild {B : Type 0} (x : Contents B) (id t c u : ℕ) : Type 0 where
  pub gives : GivesUp x id t c
  pub not_own : c ≢ t
  pub child : Custody B
  pub child_held : held_in gives.held.0 u ≡ Some child
  pub unborn : child.does ≡ does.Unborn
  pub child_out : child.home ≡ None
  pub child_result : IsIn u child.owned
  pub its_parent : x.words.once u once.Parent ≡ suc t

module _ {B : Type 0} {program : Program B} {cells : ℕ} {x : Contents B} (r : Law program cells x) {id t c u : ℕ}
    (h : GivesChild x id t c u) where
  abbrev n : ℕ
  n = drawn_in cells x

  abbrev g : GivesUp x id t c
  g = h.gives

  abbrev k' : Custody B
  k' = gave_up c g.has

  abbrev child' : Custody B
  child' = owns_also c h.child

  abbrev gave : List (Custody B)
  gave = gave_list r g

  abbrev child_here : IsHeldWith x id u h.child
  child_here = (g.held.0, g.held.1, h.child_held)

  child_its : h.child.task ≡ u
  child_its = held_task g.held.0 u h.child h.child_held

  pub other : u ≢ t
  other = acting_other g.held.0 t u g.held.2 g.may h.child_held h.unborn

  -- what is had for a task has made as many things as before
  abbrev HasMade : ℕ → Option (Custody B) → Type 0
  HasMade d o = made_by o (home_of x d) ≡ made_by (held_of x d) (home_of x d)

  abbrev given_list : List (Custody B)
  given_list = hold child' gave

  -- the contents once it has the promise
  abbrev pub handed : Contents B
  handed = record {
    words = record x.words { own = put x.words.own c (Some u) };
    slots = x.slots;
    seats = record x.seats { tasks = set (set x.seats.tasks id gave) id given_list };
  }

  pub c_there : IsThere n (hand_of x) c × (x.words.own c ≡ Some t)
  c_there = owned_here r g

  u_there : IsThere n (hand_of x) u × (x.words.own u ≡ Some u)
  u_there = list_owned r id u h.child child_here u h.child_result

  gave_here : get_elem? (set x.seats.tasks id gave) id ≡ some gave
  gave_here = set_here x.seats.tasks id gave (inside x.seats.tasks id g.held.0 g.held.1)

  -- what is found for each task: that of the two
  pub found_all : held_of handed ≡ put (put (held_of x) t (Some k')) u (Some child')
  found_all = find_put (set x.seats.tasks id gave) id u gave given_list gave_here
      (λ j l n e. held_alone r id u (custody r id u h.child child_here).mine j l n
      (sym (set_else x.seats.tasks id j gave n) ∙ e))
      (λ d q. hold_else child' d gave (λ e. q (e ∙ child_its)))
      ∙ (λ j. put (found_held r id t g.has k' g.held (its_task r g) j) u (hold_held child' u gave child_its j))

  -- the task has handed the promise to its child
  abbrev pub hands : HandsPromise cells x handed id t c u
  hands = record {
    acts = gives_up r g;
    owned = g.owns;
    promise = owned_promise r c t c_there.0 c_there.1 h.not_own;
    child_before = h.child;
    child_after = child';
    child_held = child_here;
    unborn = h.unborn;
    its_result = h.child_result;
    its_parent = h.its_parent;
    other = other;
    still_unborn = h.unborn;
    child_made = refl;
    parts = λ j. record (parts_of cells x) { own = put x.words.own c (Some u); held = found_all j };
  }

  -- and both have made as many things as before
  made_as : (d : ℕ) → HasMade d (put (put (held_of x) t (Some k')) u (Some child') d)
  made_as d = at_put (put (held_of x) t (Some k')) u (Some child') HasMade d (made_held_by r id u h.child child_here)
      (λ _. at_put (held_of x) t (Some k') HasMade d (made_held_by r id t g.has g.held) (λ _. refl))

  pub handed_keeps : KeepsCells cells x handed
  handed_keeps = kept_parts cells x handed (record (owned_parts (parts_of cells x) c (Some u) t (Some k')) {
    held = put (put (held_of x) t (Some k')) u (Some child');
  }) hands.parts (λ d. refl) (λ d. ap (λ m. m + making x.seats.hands d) (made_as d)) refl

  module _ (ds : List Due) (at : get_elem? x.seats.dues id ≡ some ds) (events : EventKeepsFacts) where
    last : c ≡ t → (g.has.owned ≡ c ∷ []) × (get_elem? x.seats.hands id ≡ some None)
    last e = absurd (h.not_own e)

    -- the promise closed
    abbrev x1 : Contents B
    x1 = closed r g last ds at

    abbrev r1 : Law program cells x1
    r1 = law_closed r g last ds at events

    -- the seat has the child still
    abbrev h1 : IsHeldWith x1 id u h.child
    h1 = (
      gave,
      gave_here,
      hold_else k' u g.held.0 (λ e. other (e ∙ its_task r g)) ∙ h.child_held,
    )

    -- nobody had the promise in between
    nobody : (v : ℕ) → ¬ IsIn c (owned_of x1 v)
    nobody v i = none_some (put x.words.own c None c) v (put_here x.words.own c c None refl)
        ((r1.owned.owners c v c_there.0).1 i)

    owners : put (put x.words.own c None) c (Some u) ≡ put x.words.own c (Some u)
    owners = put_is x.words.own (put (put x.words.own c None) c (Some u)) c (Some u)
        (put_here (put x.words.own c None) c c (Some u) refl)
        (λ d q. put_else (put x.words.own c None) c d (Some u) q ∙ put_else x.words.own c d None q)

    waiters : WaitersOwn (put x.words.own c (Some u)) x.words.phase
    waiters v p way w e z = dite (ℕ_discrete v c)
        (λ q. none_some (put x.words.own c (Some u) v) u z (put_here x.words.own c v (Some u) q))
        (λ m. r.waiters_own v p way w e (sym (put_else x.words.own c v (Some u) m) ∙ z))

    move : TaskMove r1 id u x.words.phase gave given_list x.slots
    move = hold_move r1 id u h.child child' h1 child_its x.slots (λ v q. refl) (home_there r1 u) x.words.phase
        (λ v q. refl)
        (custody r id u h.child child_here).does u_there.0
        (λ p way w e. (r.names.waits u p way w e, r1.waiters_own u p way w e))
        (subst (λ d. AreThere n (hand_of x) (does_cells d)) (sym h.unborn) (λ d i. absurd i)) refl (λ z e q i. i)
        (λ a. absurd (subst HasAlarmed h.unborn a)) (λ y e. none_some h.child.home y h.child_out e)
        (λ e. (custody r id u h.child child_here).out h.child_out)

    -- the law after the hand
    pub law_handed : Law program cells handed
    law_handed = law_owners r1 move (put x.words.own c (Some u)) x.words x.seats
        (λ d v e. dite (ℕ_discrete d c)
        (λ q. (
          subst (IsThere n (hand_of x)) (sym q) c_there.0,
          subst (IsThere n (hand_of x)) (one_some u v (sym (put_here x.words.own c d (Some u) q) ∙ e)) u_there.0,
        ))
        (λ q. r.names.owned d v (sym (put_else x.words.own c d (Some u) q) ∙ e)))
        r.names.knows r.tree_words
        (subst (OwnedLists n (hand_of x) (put x.words.own c (Some u)))
        (sym (owned_held r1 id u h.child child' h1 child_its))
        (subst (λ z. OwnedLists n (hand_of x) z (put (owned_of x1) u child'.owned)) owners
        (owned_gives r1.owned c nobody (hand_of x) c_there.0 (λ d i. i) (λ d q i. i) u h.child.owned
        (sym (owned_held_by r1 id u h.child h1)))))
        (once_owned r.once_words c t u c_there.1)
        r.chains r.live_count waiters r.records_fit r.meaning
        (facts_after events (hand_shown r handed id t c u hands) r.facts)
