-- The first store of OWN of a cell in hand keeps the law: the cell leaves the hand and is there.
use Rattle.tj_words.proofs.Prelude.{Bool, Contents, CoreFacts, Custody, DoesRun, DoesWalk, Hand, HasAlarmed, HasInHand}
use Rattle.tj_words.proofs.Prelude.{Holds, IsCell, IsDue, IsIn, IsOfTree, IsSeat, IsThere, Key, Law, List, MayGive}
use Rattle.tj_words.proofs.Prelude.{None, OfSeat, Once, Option, OwnedLists, Program, Rec, Reference, Rule, Some, Sort}
use Rattle.tj_words.proofs.Prelude.{State, View, [], ap, arith, at_map, at_put, begins_self, dite, drawn_in, find_in}
use Rattle.tj_words.proofs.Prelude.{first_owner, gave_owner, get_elem?, hand_in, hand_of, hand_phase, held_in, held_of}
use Rattle.tj_words.proofs.Prelude.{home_of, inl, inr, made_by, made_of, making, noted, own_at, owned_by, owned_of}
use Rattle.tj_words.proofs.Prelude.{owner_in, owns_also, parent_word, phase_sort, put, put_else, put_here, reference_of}
use Rattle.tj_words.proofs.Prelude.{refl, seats_have, set, some, some-injective, sort_shown, subst, suc, sym, tree_word}
use Rattle.tj_words.proofs.Prelude.{words_say, zero, ℕ, ℕ_discrete, ⊎_elim, ◌++◌, ◌+◌, ◌<◌, ◌∙◌, ◌∷◌, ◌≡◌, ◌≢◌, ◌⊎◌}
use Rattle.tj_words.proofs.Lemmas.{GivesOwner, IsNoted, IsQuietStep, IsToldBy, KeepsCells, Own, Parts, Stores}
use Rattle.tj_words.proofs.Lemmas.{births_on, cell_born, custody, custody_on, find_changed, find_same, grew_wider}
use Rattle.tj_words.proofs.Lemmas.{ground_of, hands_on, held_alone, held_here, held_listed, holder_named, holder_within}
use Rattle.tj_words.proofs.Lemmas.{law_meant, meaning_grows, names_on, none_some, none_unless, of_seat_else, once_on}
use Rattle.tj_words.proofs.Lemmas.{one_some, parts_of, put_is, put_kept, seats_same, store_word, stored, tree_on, wider}
use Rattle.tj_words.specs.Calls.DrawViews.{made_one, maker_made}
use Rattle.tj_words.proofs.Stores.Columns.{IsAsBefore, before_doing, before_like, before_on, before_same, find_kept}
use Rattle.tj_words.proofs.Stores.Columns.{hand_off, making_off}
use Rattle.tj_words.proofs.Cells.GivenOwners.{given_made, given_shown}
use Rattle.tj_words.proofs.Holders.NotedEntries.{DoesSame, noted_as, noted_here, noted_else, noted_in, holds_on}
use Rattle.tj_words.proofs.Holders.NotedEntries.{holds_back}
use Rattle.tj_words.proofs.Holders.NotedPairs.{noted_on}
use Rattle.tj_words.proofs.Stores.WordStores.{hand_here, maker_there, not_root}
use Rattle.tj_words.proofs.Cells.OwnedChanges.{owned_gives}
use Rattle.tj_base.specs.declared.cell.Sort.TheVariants as sort
use Rattle.tj_words.specs.declared.offsets.Once.TheVariants as once

-- seat id, which has the view v, gives the cell that it has in hand its first owner
module _ {B : Type 0} {program : Program B} {cells : ℕ} {x : Contents B} (r : Law program cells x) (id : ℕ)
    {cell owner : ℕ} {v : View B} (may : MayGive cell owner v)
    (has : get_elem? x.seats.hands id ≡ some (Some may.hand)) (at : get_elem? x.seats.tasks id ≡ some v.tasks)
    (dues : get_elem? x.seats.dues id ≡ some v.dues) where
  abbrev h : Hand
  h = may.hand

  abbrev n : ℕ
  n = drawn_in cells x

  abbrev c : ℕ
  c = h.cell

  abbrev t : ℕ
  t = h.maker

  abbrev o : ℕ
  o = first_owner h.sort t c

  abbrev hands' : List (Option Hand)
  hands' = set x.seats.hands id None

  abbrev own' : ℕ → Option ℕ
  own' = put x.words.own c (Some o)

  -- the maker has made one thing more, and the owner owns the cell
  abbrev pub made_list : List (Custody B)
  made_list = noted t made_one v.tasks

  abbrev pub given_list : List (Custody B)
  given_list = noted o (owns_also c) made_list

  abbrev tasks' : List (List (Custody B))
  tasks' = set x.seats.tasks id given_list

  -- the contents after the store
  abbrev pub given_contents : Contents B
  given_contents = record {
    words = record x.words { own = own' };
    slots = x.slots;
    seats = record x.seats { hands = hands'; tasks = tasks'; known = set x.seats.known id (c ∷ v.known) };
  }

  -- the cell was in hand, and each other one is where it was
  drawn : c < n
  drawn = (r.hands.each id h has).drawn_cell

  off : hand_in hands' ≡ put (hand_of x) c None
  off = hand_off r id h has

  here : hand_of x c ≡ Some h
  here = hand_here r id h has

  in_hand : hand_of x c ≢ None
  in_hand e = none_some (hand_of x c) h e here

  on : (d : ℕ) → IsThere n (hand_of x) d → IsThere n (hand_in hands') d
  on d i = (i.0, ap (λ f. f d) off ∙ at_put (hand_of x) c None (λ d z. z ≡ None) d refl (λ _. i.1))

  c_there : IsThere n (hand_in hands') c
  c_there = (drawn, ap (λ f. f c) off ∙ put_here (hand_of x) c None)

  else_now : (d : ℕ) → d ≢ c → hand_in hands' d ≡ hand_of x d
  else_now d z = ap (λ f. f d) off ∙ put_else (hand_of x) c None d z

  back_there : (d : ℕ) → d ≢ c → IsThere n (hand_in hands') d → IsThere n (hand_of x) d
  back_there d z i = (i.0, sym (else_now d z) ∙ i.1)

  there_other : (d : ℕ) → hand_of x d ≡ None → d ≢ c
  there_other d i e = in_hand (ap (hand_of x) (sym e) ∙ i)

  before : (d : ℕ) (g : Hand) → hand_in hands' d ≡ Some g → (d ≢ c) × (hand_of x d ≡ Some g)
  before d g e = at_put (hand_of x) c None (λ d z. z ≡ Some g → (d ≢ c) × (hand_of x d ≡ Some g)) d
      (λ e. none_some None g refl e) (λ k e. (k, e)) (sym (ap (λ f. f d) off) ∙ e)

  t_other : t ≢ c
  t_other = there_other t (maker_there r id h has).1

  -- what the seat has for the maker, and for the owner once the maker has made one more
  maker_has : (k : Custody B) × (held_in v.tasks t ≡ Some k) × (k.home ≡ None)
  maker_has = let its = (r.hands.each id h has).maker_held in
      subst (λ l. (k : Custody B) × (held_in l t ≡ Some k) × (k.home ≡ None))
      (some-injective its.0 v.tasks (sym its.1 ∙ at)) its.2

  out_at : (k : Custody B) → held_in v.tasks c ≡ Some k → k.home ≡ None
  out_at k e = none_unless k.home (λ y q. let l = ((r.custody.held id v.tasks at c k e).laid y q).here in
      in_hand (subst (λ d. hand_of x d ≡ None) (r.custody.own_slots c y l)
      (r.names.records c y l y.cell.0 (inl refl)).1))

  owner_has : (k : Custody B) × (held_in made_list o ≡ Some k) × (k.home ≡ None)
      × ((m : Custody B) × (held_in v.tasks o ≡ Some m) × (k.owned ≡ m.owned))
  owner_has = by h.sort refl
    where
      by : (s : Sort) → h.sort ≡ s → (k : Custody B) × (held_in made_list (first_owner s t c) ≡ Some k)
          × (k.home ≡ None)
          × ((m : Custody B) × (held_in v.tasks (first_owner s t c) ≡ Some m) × (k.owned ≡ m.owned))
      by sort.Promise e = (
        made_one maker_has.0,
        noted_here v.tasks t maker_has.0 made_one maker_has.1 refl,
        maker_has.2,
        (maker_has.0, maker_has.1, refl),
      )
      by sort.Task e = let k = may.holds e in let held = ap (held_in v.tasks) may.its_cell ∙ k.1 in (
        k.0,
        noted_else v.tasks t maker_has.0 made_one maker_has.1 refl c (λ q. t_other (sym q)) ∙ held,
        out_at k.0 held,
        (k.0, held, refl),
      )

  abbrev m : Custody B
  m = owner_has.0

  given_here : held_in given_list o ≡ Some (owns_also c m)
  given_here = noted_here made_list o m (owns_also c) owner_has.1 refl

  -- each task is held as it was, and does what it did
  pub as_before : (u : ℕ) → IsNoted IsAsBefore (held_in v.tasks u) (held_in given_list u)
  as_before u = noted_on IsAsBefore before_on (held_in v.tasks u) (held_in made_list u) (held_in given_list u)
      (noted_as v.tasks t maker_has.0 made_one maker_has.1 refl IsAsBefore before_same
      (refl, inr (maker_has.2, maker_has.2)) u)
      (noted_as made_list o m (owns_also c) owner_has.1 refl IsAsBefore before_same
      (refl, inr (owner_has.2, owner_has.2)) u)

  find_at : (u : ℕ) (k k' : Custody B) → held_in v.tasks u ≡ Some k → held_in given_list u ≡ Some k'
      → find_in tasks' u ≡ Some k'
  find_at u k k' e q =
      find_changed x.seats.tasks id u v.tasks given_list at
      (held_alone r id u (custody r id u k (v.tasks, at, e)).mine) ∙ q

  -- what the tasks own: the owner the cell too
  abbrev owned' : ℕ → List ℕ
  owned' u = owned_by (find_in tasks' u) (home_of x u)

  owned_owner : owned' o ≡ owned_of x o ++ c ∷ []
  owned_owner = let w = owner_has.3 in
      ap (λ (z : Option (Custody B)). owned_by z (home_of x o)) (find_at o w.0 (owns_also c m) w.1 given_here)
      ∙ ap (λ l. l ++ c ∷ []) (w.2 ∙ sym (ap (λ (z : Option (Custody B)). owned_by z (home_of x o))
      (held_here r id o w.0 (v.tasks, at, w.1))))

  owned_else : (u : ℕ) → u ≢ o → owned' u ≡ owned_of x u
  owned_else u z = find_kept r id (λ i. owned_by i (home_of x u)) (λ k k'. k'.owned ≡ k.owned) (λ k k' e. e) v.tasks
      given_list at u (subst (IsNoted (λ k k'. k'.owned ≡ k.owned) (held_in v.tasks u))
      (sym (noted_else made_list o m (owns_also c) owner_has.1 refl u z))
      (noted_as v.tasks t maker_has.0 made_one maker_has.1 refl (λ k k'. k'.owned ≡ k.owned) (λ k. refl) refl u))

  -- the maker has made one thing more, and does what it did
  maker_now : (k : Custody B) × (held_in given_list t ≡ Some k) × (k.made ≡ suc maker_has.0.made)
      × (k.does ≡ maker_has.0.does)
  maker_now = let a = noted_here v.tasks t maker_has.0 made_one maker_has.1 refl in dite (ℕ_discrete t o)
      (λ e. let q = one_some m (made_one maker_has.0) (sym owner_has.1 ∙ (ap (held_in made_list) (sym e) ∙ a)) in (
        owns_also c m,
        ap (held_in given_list) e ∙ given_here,
        ap (λ (z : Custody B). z.made) q,
        ap (λ (z : Custody B). z.does) q,
      ))
      (λ z. (made_one maker_has.0, noted_else made_list o m (owns_also c) owner_has.1 refl t z ∙ a, refl, refl))

  -- PHASE of a promise in hand says so, and that of a task that it isn't born
  its_phase : (s : Sort) → h.sort ≡ s → phase_sort (x.words.phase c) ≡ s
  its_phase s h = grind arith

  sorts : (d : ℕ) → sort_shown (hand_in hands' d) (x.words.phase d) ≡ sort_shown (hand_of x d) (x.words.phase d)
  sorts d = ap (λ f. sort_shown (f d) (x.words.phase d)) off
      ∙ put_kept (λ d q. sort_shown q (x.words.phase d)) (hand_of x) c None
      (its_phase h.sort refl ∙ sym (ap (λ q. sort_shown q (x.words.phase c)) here)) d

  -- no word of the cell is due to anybody, so each is right
  none_due : (f : Once) (j : ℕ) → IsOfTree f → r.once_words.due_to c f ≢ Some j
  none_due f j tree e =
      let w = (r.once_words.may_be_due c j f e).tree tree in
      let q = w.2 in
      let i : j ≡ id = r.hands.apart j id q.0 h (w.1 ∙ ap some q.1) has q.2 in
      let l = r.once_words.due c j f e in
      let same : l.0 ≡ v.dues = some-injective l.0 v.dues (sym l.1 ∙ (ap (get_elem? x.seats.dues) i ∙ dues)) in
      may.written (record { cell = c; word = f }) (subst (IsDue c f) same l.2) may.its_cell

  word_right : (y : Reference) (f : Once) → IsCell r.born c y → IsOfTree f
      → x.words.once c f ≡ tree_word r.maker r.number r.forks y.sort c f
  word_right y f e tree = ⊎_elim
      (λ (w : (j : ℕ) × OfSeat (IsDue c f) x.seats.dues j).
      absurd (none_due f w.0 tree (r.once_words.dues_mine w.0 w.1.0 w.1.1 (record { cell = c; word = f }) w.1.2)))
      (λ q. q) (r.tree_words.in_hand c h y f here e tree)

  drawer : (d j : ℕ) (f : Once) → r.once_words.due_to d f ≡ Some j → IsOfTree f → OfSeat (HasInHand d) hands' j
  drawer d j f e tree =
      let w = (r.once_words.may_be_due d j f e).tree tree in
      of_seat_else (HasInHand d) x.seats.hands id j None
      (λ q.
      let g : h ≡ w.2.0 = one_some h w.2.0 (some-injective (Some h) (Some w.2.0)
      (sym has ∙ (ap (get_elem? x.seats.hands) (sym q) ∙ (w.1 ∙ ap some w.2.1)))) in
      let i : d ≡ c = sym w.2.2 ∙ ap (λ (z : Hand). z.cell) (sym g) in
      none_due f j tree (ap (λ k. r.once_words.due_to k f) (sym i) ∙ e)) w

  owner_there : IsThere n (hand_in hands') o
  owner_there = by h.sort
    where
      by : (s : Sort) → IsThere n (hand_in hands') (first_owner s t c)
      by sort.Promise = on t (maker_there r id h has)
      by sort.Task = c_there

  does_in : (k : Custody B) → IsIn k given_list → (q : Custody B) × IsIn q v.tasks × (k.does ≡ q.does)
  does_in k i = ⊎_elim
      (λ (j : IsIn k made_list). ⊎_elim (λ (j : IsIn k v.tasks). (k, j, refl))
      (λ (e : k ≡ made_one maker_has.0).
      (maker_has.0, held_listed v.tasks t maker_has.0 maker_has.1, ap (λ (z : Custody B). z.does) e))
      (noted_in v.tasks t maker_has.0 made_one maker_has.1 refl k j))
      (λ (e : k ≡ owns_also c m). let w = owner_has.3 in
      (w.0, held_listed v.tasks o w.0 w.1, ap (λ (z : Custody B). z.does) e ∙ does_owner))
      (noted_in made_list o m (owns_also c) owner_has.1 refl k i)
    where
      does_owner : m.does ≡ owner_has.3.0.does
      does_owner = subst (λ z. IsNoted DoesSame z (Some (owns_also c m))) owner_has.3.1
          (subst (IsNoted DoesSame (held_in v.tasks o)) given_here
          (before_doing (held_in v.tasks o) (held_in given_list o) (as_before o)))

  -- the owner is the one that was shown
  gives_owner : GivesOwner cells x given_contents id t c h
  gives_owner = record {
    in_hand = has;
    marked = λ e. (r.hands.each id h has).marked ∙ ap hand_phase (may.marked e);
    before_it = maker_has.0;
    after_it = maker_now.0;
    held = (v.tasks, at, maker_has.1);
    does_same = maker_now.3;
    made = maker_now.2;
    new_held = find_in tasks' c;
    new_made = made_here;
    parts = λ j. record (parts_of cells x) {
      hand = off j;
      making = λ u. making_off r id h has u j;
      own = own';
      held = put_is (put (held_of x) c (find_in tasks' c)) (find_in tasks') t (Some maker_now.0)
          (find_at t maker_has.0 maker_now.0 maker_has.1 maker_now.1)
          (λ d a. at_put (held_of x) c (find_in tasks' c) (λ m y. find_in tasks' m ≡ y) d refl
          (λ b. find_same x.seats.tasks id d v.tasks given_list at
          (noted_else made_list o m (owns_also c) owner_has.1 refl d (other h.sort d a b)
          ∙ noted_else v.tasks t maker_has.0 made_one maker_has.1 refl d a))) j;
    };
  }
    where
      other : (s : Sort) (d : ℕ) → d ≢ t → d ≢ c → d ≢ first_owner s t c
      other sort.Promise d a b = a
      other sort.Task d a b = b

      -- the cell's own entry, where there is one, has made as much as before
      made_here : made_by (find_in tasks' c) (home_of x c) ≡ made_by (held_of x c) (home_of x c)
      made_here = find_kept r id (λ i. made_by i (home_of x c)) (λ k k'. k'.made ≡ k.made) (λ k k' e. e) v.tasks
          given_list at c (subst (λ i. IsNoted (λ k k'. k'.made ≡ k.made) i (held_in given_list c))
          (noted_else v.tasks t maker_has.0 made_one maker_has.1 refl c (λ e. t_other (sym e)))
          (noted_as made_list o m (owns_also c) owner_has.1 refl (λ k k'. k'.made ≡ k.made) (λ k. refl) refl c))

  -- and each task has made as many things as with the one in hand
  pub made_now : (u : ℕ) → made_by (find_in tasks' u) (home_of x u) + making hands' u ≡ made_of x u
  made_now u = ap (λ k. made_by (find_in tasks' u) (home_of x u) + k) (making_off r id h has u)
      ∙ (ap (λ (z : ℕ → Option (Custody B)). made_by (z u) (home_of x u) + put (making x.seats.hands) t 0 u)
      (ap (λ (z : Parts B). z.held) gives_owner.parts)
      ∙ given_made r id h has given_contents gives_owner u)

  pub law_given : get_elem? x.seats.known id ≡ some v.known → Law program cells given_contents
  law_given knows = record {
    born = r.born;
    maker = r.maker;
    number = r.number;
    forks = r.forks;
    lots = r.lots;
    hands = hands_on r.hands id None given_list (omega arith) (λ j g z e. refl) (λ g e. none_some None g refl e)
        (λ g e. none_some None g refl e);
    names = names_on on r.names id v.tasks given_list v.known (c ∷ v.known) at knows own' x.words.phase (home_of x)
        (λ d u e. at_put x.words.own c (Some o) (λ d z. z ≡ Some u → (x.words.own d ≡ Some u)
        ⊎ (IsThere n (hand_in hands') d × IsThere n (hand_in hands') u)) d
        (λ e. inr (c_there, subst (IsThere n (hand_in hands')) (one_some o u e) owner_there)) (λ _ e. inl e) e)
        (λ u d way walk e. e) (λ u. refl) (λ k i. inl (does_in k i))
        (λ d i. ⊎_elim (λ (e : d ≡ c). inr (subst (IsThere n (hand_in hands')) (sym e) c_there))
        (λ (j : IsIn d v.known). inl j) i);
    births = births_on r.births on sorts (λ d g e. (g, (before d g e).1, refl)) made_now;
    tree = tree_on on refl r.tree;
    tree_words = record {
      written = λ d y f i e tree. dite (ℕ_discrete d c)
          (λ q. subst (λ k. x.words.once k f ≡ tree_word r.maker r.number r.forks y.sort k f) (sym q)
          (word_right y f (subst (λ k. IsCell r.born k y) q e) tree))
          (λ z. r.tree_words.written d y f (back_there d z i) e tree);
      in_hand = λ d g y f e is tree. r.tree_words.in_hand d g y f (before d g e).1 is tree;
    };
    custody = custody_on r.custody (hand_in hands') x.words.phase id v.tasks given_list at (λ u l. sorts u)
        (λ u e. refl) (λ u. before_like (held_in v.tasks u) (held_in given_list u) (as_before u));
    owned = subst (OwnedLists n (hand_in hands') own')
        (sym (put_is (owned_of x) owned' o (owned_of x o ++ c ∷ []) owned_owner owned_else))
        (owned_gives r.owned c (λ u i. in_hand (r.owned.owned_there c u i).1) (hand_in hands') c_there on back_there o
        (owned_of x o) refl);
    once_words = once_on r.once_words
        (λ d i e. (on d i, put_else x.words.own c (Some o) d (there_other d i.1) ∙ e))
        (λ d i e. at_put x.words.own c (Some o) (λ d z. z ≡ None → IsThere n (hand_in hands') d
        → IsThere n (hand_of x) d × (x.words.own d ≡ None)) d (λ e _. none_some (Some o) o e refl)
        (λ z e i. (back_there d z i, e)) e i) drawer;
    chains = r.chains;
    live_count = r.live_count;
    stops = r.stops;
    waiters_own = λ u d way walk e. at_put x.words.own c (Some o) (λ u z. x.words.own u ≢ None → z ≢ None) u
        (λ _ q. none_some (Some o) o q refl) (λ _ z. z) (r.waiters_own u d way walk e);
    records_fit = r.records_fit;
    meaning = meaning_grows program cells (law_meant program cells x r)
        (wider program (ground_of cells r.born x) n (hand_in hands') r.born)
        (grew_wider program (ground_of cells r.born x) n (hand_in hands') r.born (begins_self r.born) on)
        (λ d y i. inl i) (λ d z. inl z);
    undrawn = r.undrawn;
    facts = subst CoreFacts (sym (given_shown r id h has given_contents gives_owner r.born r.maker)) r.facts;
  }

  -- makers and numbers of cells stay: those of the cell are in PARENT and KID
  given_keeps : KeepsCells cells x given_contents
  given_keeps = record {
    there = λ d i. record { out = (on d i).1; parent_is = refl; kid_is = refl };
    hands = λ d g e. dite (ℕ_discrete d c)
        (λ q. inr (subst (λ z. IsToldBy given_contents z (suc g.maker) (made_of x g.maker)) (sym q)
        (subst (λ (z : Hand). IsToldBy given_contents c (suc z.maker) (made_of x z.maker))
        (one_some h g (sym here ∙ (ap (hand_of x) (sym q) ∙ e))) told)))
        (λ z. inl (record { hand = g; in_hand = else_now d z ∙ e; maker_is = refl; made_is = made_now g.maker }));
  }
    where
      names_maker : (d p : ℕ) → d ≢ 0 → parent_word d p ≡ suc p
      names_maker zero p e = absurd (e refl)
      names_maker (suc d) p e = refl

      told : IsToldBy given_contents c (suc t) (made_of x t)
      told = let b = r.births.in_hand c h here in record {
        out = c_there.1;
        parent_is = word_right (reference_of r.born c) once.Parent (cell_born r c drawn) tt
            ∙ (names_maker c (r.maker c) (not_root r id h has) ∙ ap suc b.0);
        kid_is = word_right (reference_of r.born c) once.Kid (cell_born r c drawn) tt ∙ b.1;
      }

module _ {B : Type 0} (program : Bool → B → Program B) (key : Key B) (s : State (Option (Rec B)) (View B))
    (r : Rule program key s) (id c o : ℕ) (v : View B) (at : get_elem? s.views id ≡ some v) (m : MayGive c o v) where
  abbrev w : View B
  w = gave_owner c o v

  pub has : get_elem? (seats_have s.views).hands id ≡ some (Some m.hand)
  has = at_map (λ (u : View B). u.hand) s.views id v at ∙ ap (λ (i : Option Hand). some i) m.has

  pub tasks : get_elem? (seats_have s.views).tasks id ≡ some v.tasks
  tasks = at_map (λ (u : View B). u.tasks) s.views id v at

  pub dues : get_elem? (seats_have s.views).dues id ≡ some v.dues
  dues = at_map (λ (u : View B). u.dues) s.views id v at

  its : o ≡ first_owner m.hand.sort m.hand.maker m.hand.cell
  its = m.owner ∙ ap (first_owner m.hand.sort m.hand.maker) (sym m.its_cell)

  list : w.tasks ≡ given_list r.law id m has tasks dues
  list j = noted (its j) (owns_also (sym m.its_cell j)) (maker_made (m.has j) v.tasks)

  abbrev after_give : Contents B
  after_give = given_contents r.law id m has tasks dues

  -- what the store leaves
  pub give_path : (n : ℕ) → owner_in n ≡ Some o → stored s id (Own c) n w ≡ after_give
  give_path n is j = record {
    words = record (words_say s.words) { own = put (words_say s.words).own (sym m.its_cell j) ((is ∙ ap Some its) j) };
    slots = s.homes;
    seats = record (seats_same s.views id v at j) {
      hands = set (seats_have s.views).hands id None;
      tasks = set (seats_have s.views).tasks id (list j);
      known = set (seats_have s.views).known id (sym m.its_cell j ∷ v.known);
    };
  }

  seat : IsSeat key w
  seat = let q = r.seats id v at in
      let does : (u : ℕ) → IsNoted DoesSame (held_in v.tasks u) (held_in w.tasks u) =
      (λ u. subst (λ l. IsNoted DoesSame (held_in v.tasks u) (held_in l u)) (sym list)
      (before_doing (held_in v.tasks u) _ (as_before r.law id m has tasks dues u))) in
      let maker = maker_has r.law id m has tasks dues in record {
        about = q.about;
        named = inr (holder_named v m.hand.maker maker.0 maker.1 q.named);
        within_lot = holder_within v m.hand.maker maker.0 maker.1 q.within_lot v.tokens w.tasks q.within_lot.tokens_fit;
        backing = record {
          wakes = λ a. ⊎_elim (λ (i : 0 < v.tokens). inl i)
              (λ (i : Holds DoesRun v). inr (holds_on DoesRun v w does i)) (q.backing.wakes a);
          tags = λ a. ⊎_elim (λ (i : 0 < v.tokens). inl i)
              (λ (i : Holds DoesRun v ⊎ Holds DoesWalk v). inr (⊎_elim
              (λ (k : Holds DoesRun v). inl (holds_on DoesRun v w does k))
              (λ (k : Holds DoesWalk v). inr (holds_on DoesWalk v w does k)) i)) (q.backing.tags a);
          alarms = λ a. q.backing.alarms (holds_back HasAlarmed v w does a);
        };
        known_born = λ d i. ⊎_elim
            (λ (e : d ≡ c). (m.reference, subst (λ k. IsCell v.born k m.reference) (sym e) m.is_reference))
            (λ (j : IsIn d v.known). q.known_born d j) i;
      }

  -- the first store of an owner is one of the rule
  pub give_stores : c < key.cells → o < key.cells → Stores program key s id (own_at c) (suc o) w
  give_stores lc lo = store_word program key s id (Own c) (suc o) w (let e = r.all_words in omega arith)
      (omega arith) seat (r.pushed id v at) after_give (give_path (suc o) refl)
      (law_given r.law id m has tasks dues (at_map (λ (u : View B). u.known) s.views id v at))

  -- and it shows nothing
  pub give_quiet : IsQuietStep r.law after_give
  give_quiet = (
    given_shown r.law id m.hand has after_give (gives_owner r.law id m has tasks dues) r.law.born r.law.maker,
    given_keeps r.law id m has tasks dues,
  )
