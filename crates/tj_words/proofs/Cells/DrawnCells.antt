-- The law after a draw that finds a cell left.
use Rattle.tj_words.proofs.Prelude.{AreApart, Births, Contents, Custodies, Custody, EventKeepsFacts, Forks, Hand, Hands}
use Rattle.tj_words.proofs.Prelude.{InRounds, IsDue, IsForkTree, IsIn, IsInHand, IsMarkedRight, IsThere, Law, MayDraw}
use Rattle.tj_words.proofs.Prelude.{NamesCells, OnceWords, OwnedLists, Program, Reference, Sort, TreeWords, View, []}
use Rattle.tj_words.proofs.Prelude.{ap, at_put, does_cells, drawn_in, find_in, forks_after, get_elem?, hand_in, hand_of}
use Rattle.tj_words.proofs.Prelude.{held_in, held_of, home_in, home_of, in_left, in_right, inl, inr, made_by, made_of}
use Rattle.tj_words.proofs.Prelude.{min, new_dues, new_hand, new_task, new_tasks, next_reference, noted}
use Rattle.tj_words.proofs.Prelude.{owned_by, owned_of, phase_of, put, put_else, put_here, refl, runs_on, set, set_here}
use Rattle.tj_words.proofs.Prelude.{some, sort_shown, suc, sym, tree_word, ℕ, ◌++◌, ◌<◌, ◌↔◌, ◌∙◌, ◌∷◌, ◌≡◌, ◌≢◌, ◌⊎◌}
use Rattle.tj_words.proofs.Lemmas.{DrawsCell, IsAlike, Meant, custody_on, facts_after, find_same, ground_of, hand_put}
use Rattle.tj_words.proofs.Lemmas.{hands_on, has_none, held_alone, held_drawn, held_first, held_here, held_rest, inside}
use Rattle.tj_words.proofs.Lemmas.{known_of, law_meant, makes_nothing, making_put, names_on, none_some, of_seat_here}
use Rattle.tj_words.proofs.Lemmas.{of_seat_set, one_some, parts_of, put_is, unheld, wider}
use Rattle.std.proofs.Common.{Bool, List, None, Option, Some, arith, false, subst, ⊎_elim, set-set}
use Rattle.tj_words.proofs.Holders.SeatTasks.{find_changed, free_alone}
use Rattle.tj_words.proofs.Meaning.MeaningGrows.{knows_now}
use Rattle.tj_words.proofs.Events.DrawEvents.{empty_none, draw_shown, may_draw, drawn_into}
use Rattle.tj_words.proofs.Meaning.MeaningSteps.{draw_meant}
use Rattle.tj_words.proofs.Holders.NotedEntries.{noted_as, noted_here, noted_else, noted_in}
use Rattle.tj_words.proofs.Cells.DrawnTasks.{slots_after, homes_after, custody_drawn, once_drawn, due_or_zero}
use Rattle.tj_words.proofs.Events.TurnedTasks.{acting_phase}
use Rattle.tj_words.proofs.Cells.TreeDraws.{births_drawn, tree_drawn, tree_words_drawn}
use Rattle.tj_base.specs.declared.cell.Sort.TheVariants as sort
use Rattle.tj_words.specs.declared.phase.Phase.TheVariants as phase

-- seat id, which has the view v, draws a cell of sort o for its task t
module _ {B : Type 0} {programs : Bool → B → Program B} {program : Program B} {cells : ℕ} {x : Contents B}
    (r : Law program cells x) (id t : ℕ) (o : Sort) (v : View B) (may : MayDraw programs t v)
    (at : get_elem? x.seats.tasks id ≡ some v.tasks) (dues : get_elem? x.seats.dues id ≡ some v.dues)
    (free : get_elem? x.seats.hands id ≡ some None) (left : x.words.count < cells) where
  abbrev n : ℕ
  n = drawn_in cells x

  abbrev k : Custody B
  k = may.has

  abbrev h : Hand
  h = new_hand n t o

  abbrev hands' : List (Option Hand)
  hands' = set x.seats.hands id (Some h)

  abbrev hand' : ℕ → Option Hand
  hand' = hand_in hands'

  abbrev noted_list : List (Custody B)
  noted_list = noted t runs_on v.tasks

  abbrev pub drawn_list : List (Custody B)
  drawn_list = new_tasks n o noted_list

  abbrev pub drawn_born : List Reference
  drawn_born = r.born ++ next_reference r.born t (made_of x t) o ∷ []

  abbrev tasks' : List (List (Custody B))
  tasks' = set x.seats.tasks id drawn_list

  -- the contents after the draw, where the seat knows of entries what it did, and that these are the cells
  abbrev pub drawn_contents : List Reference → Contents B
  drawn_contents b = record {
    words = record x.words { count = suc x.words.count };
    slots = slots_after n o x.slots;
    seats = record x.seats {
      hands = hands';
      tasks = tasks';
      known = set x.seats.known id v.known;
      born_seen = set x.seats.born_seen id b;
      wrote = set x.seats.wrote id v.wrote;
      filled = set x.seats.filled id v.filled;
      dues = set x.seats.dues id (new_dues n o ++ v.dues);
    };
  }

  room : n < cells
  room = omega arith

  drawn_now : min (suc x.words.count) cells ≡ suc n
  drawn_now = omega arith

  holder_is : r.custody.holder t ≡ Some id
  holder_is = (r.custody.held id v.tasks at t k may.held).mine

  unborn : x.words.phase n ≡ phase.Unborn
  unborn = r.undrawn n (omega arith)

  only : (j : ℕ) (g : Hand) → j ≢ id → get_elem? x.seats.hands j ≡ some (Some g) → g.cell ≢ n
  only j g d e q = let l = (r.hands.each j g e).drawn_cell in omega arith

  hand_now : hand' ≡ put (hand_of x) n (Some h)
  hand_now = hand_put x.seats.hands id n None (Some h) free tt refl only

  here_now : hand' n ≡ Some h
  here_now = ap (λ f. f n) hand_now ∙ put_here (hand_of x) n (Some h)

  else_now : (c : ℕ) → c ≢ n → hand' c ≡ hand_of x c
  else_now c z = ap (λ f. f c) hand_now ∙ put_else (hand_of x) n (Some h) c z

  on : (c : ℕ) → IsThere n (hand_of x) c → IsThere (suc n) hand' c
  on c i = let l = i.0 in ((omega arith), else_now c (λ e. omega arith) ∙ i.1)

  back_there : (c : ℕ) → IsThere (suc n) hand' c → IsThere n (hand_of x) c
  back_there c i =
      let z : c ≢ n = λ e. none_some (hand' n) h (ap hand' (sym e) ∙ i.1) here_now in
      let l = i.0 in ((omega arith), sym (else_now c z) ∙ i.1)

  drawn_held : t < n
  drawn_held = held_drawn r id t k (v.tasks, at, may.held)

  t_old : t ≢ n
  t_old e = let l = drawn_held in omega arith

  -- what is had for a task owns what it owned
  abbrev Owns : ℕ → Option (Custody B) → Type 0
  Owns u q = owned_by q (home_of x u) ≡ owned_of x u

  -- what the seat has now for the maker, for the new cell, and for each other task
  list_here : held_in noted_list t ≡ Some (runs_on k)
  list_here = noted_here v.tasks t k runs_on may.held refl

  list_else : (u : ℕ) → u ≢ t → held_in noted_list u ≡ held_in v.tasks u
  list_else u z = noted_else v.tasks t k runs_on may.held refl u z

  pub new_else : (s : Sort) (u : ℕ) → u ≢ n → held_in (new_tasks n s noted_list) u ≡ held_in noted_list u
  new_else sort.Promise u z = refl
  new_else sort.Task u z = held_rest (new_task n) noted_list u (λ e. z (sym e))

  unheld_new : held_in v.tasks n ≡ None
  unheld_new =
      has_none r id n v.tasks at (λ e. none_some (r.custody.holder n) id (r.custody.undrawn_free n (omega arith)) e)

  pub new_here : (s : Sort) (q : Custody B) → held_in (new_tasks n s noted_list) n ≡ Some q → q ≡ new_task n
  new_here sort.Promise q e = none_some (held_in v.tasks n) q unheld_new (sym (list_else n (λ i. t_old (sym i))) ∙ e)
  new_here sort.Task q e = sym (one_some (new_task n) q (sym (held_first (new_task n) noted_list n refl) ∙ e))

  pub maker_now : held_in drawn_list t ≡ Some (runs_on k)
  maker_now = new_else o t t_old ∙ list_here

  -- what is found for each task now
  found_all : find_in tasks' ≡ put (put (held_of x) t (Some (runs_on k))) n (held_in drawn_list n)
  found_all = put_is (put (held_of x) t (Some (runs_on k))) (find_in tasks') n (held_in drawn_list n)
      (find_changed x.seats.tasks id n v.tasks drawn_list at
      (free_alone r id n (r.custody.undrawn_free n (omega arith))))
      (λ u b. at_put (held_of x) t (Some (runs_on k)) (λ m y. find_in tasks' m ≡ y) u
      (find_changed x.seats.tasks id t v.tasks drawn_list at (held_alone r id t holder_is) ∙ maker_now)
      (λ a. find_same x.seats.tasks id u v.tasks drawn_list at (new_else o u b ∙ list_else u a)))

  -- what stands in the list stood there, or does nothing that names a cell
  listed : (s : Sort) (q : Custody B) → IsIn q (new_tasks n s noted_list) → IsIn q v.tasks ⊎ (does_cells q.does ≡ [])
  listed s q i = by s i
    where
      old : IsIn q noted_list → IsIn q v.tasks ⊎ (does_cells q.does ≡ [])
      old j = ⊎_elim (λ (z : IsIn q v.tasks). inl z)
          (λ (e : q ≡ runs_on k). inr (ap (λ (z : Custody B). does_cells z.does) e))
          (noted_in v.tasks t k runs_on may.held refl q j)

      by : (s : Sort) → IsIn q (new_tasks n s noted_list) → IsIn q v.tasks ⊎ (does_cells q.does ≡ [])
      by sort.Promise j = old j
      by sort.Task (inl e) = inr (ap (λ (z : Custody B). does_cells z.does) e)
      by sort.Task (inr j) = old j

  home_same : (u : ℕ) → home_in (slots_after n o x.slots) u ≡ home_of x u
  home_same u = homes_after r.custody room o u

  homes_same : home_in (slots_after n o x.slots) ≡ home_of x
  homes_same = λ j u. home_same u j

  no_home : home_of x n ≡ None
  no_home = empty_none x.slots n (r.custody.undrawn_empty n (omega arith) room)

  -- nothing is had for the new cell, or what has made nothing and owns nothing
  new_bare : (q : Option (Custody B)) → held_in drawn_list n ≡ q → (owned_by q None ≡ []) × (made_by q None ≡ 0)
  new_bare None e = (refl, refl)
  new_bare (Some q) e = let i = new_here o q e in
      (ap (λ (z : Custody B). z.owned) i, ap (λ (z : Custody B). z.made) i)

  -- the cells that each task owns are as before
  owned_same : (u : ℕ) → owned_by (find_in tasks' u) (home_in (slots_after n o x.slots) u) ≡ owned_of x u
  owned_same u = (λ j. owned_by (found_all j u) (home_same u j))
      ∙ at_put (put (held_of x) t (Some (runs_on k))) n (held_in drawn_list n) Owns u
      (ap (owned_by (held_in drawn_list n)) no_home ∙ ((new_bare (held_in drawn_list n) refl).0
      ∙ (λ j. owned_by (sym (unheld r n (r.custody.undrawn_free n (omega arith))) j) (sym no_home j))))
      (λ _. at_put (held_of x) t (Some (runs_on k)) Owns u
      (ap (λ q. owned_by q (home_of x t)) (sym (held_here r id t k (v.tasks, at, may.held)))) (λ _. refl))

  -- no seat makes another cell of t
  only_maker : (j : ℕ) (g : Hand) → j ≢ id → get_elem? x.seats.hands j ≡ some (Some g) → g.maker ≢ t
  only_maker j g d = makes_nothing r id t k (v.tasks, at, may.held) free j g

  -- the draw, as an event, where these are all cells
  pub draws : (b : List Reference) → DrawsCell cells x (drawn_contents b) id t h
  draws b = record {
    acts = record {
      before_it = k;
      after_it = runs_on k;
      held = (v.tasks, at, may.held);
      may = may.may;
      result = may.result;
      runs = refl;
      made = refl;
    };
    no_hand = free;
    left = left;
    hand_maker = refl;
    hand_cell = refl;
    new_held = held_in drawn_list n;
    new_made = (new_bare (held_in drawn_list n) refl).1;
    parts = λ j. record (parts_of cells x) {
      drawn = drawn_now j;
      hand = hand_now j;
      making = making_put x.seats.hands id t None (Some h) free tt refl only_maker j;
      held = found_all j;
      home = homes_same j;
    };
  }

  pub law_drawn : EventKeepsFacts → get_elem? x.seats.known id ≡ some v.known
      → get_elem? x.seats.born_seen id ≡ some v.born
      → get_elem? x.seats.wrote id ≡ some v.wrote
      → get_elem? x.seats.filled id ≡ some v.filled
      → InRounds program (next_reference r.born t (made_of x t) o).name
      → Law program cells (drawn_contents drawn_born)
  law_drawn keeps knows seen wrote filled named = record {
    born = drawn_born;
    maker = maker';
    number = number';
    forks = forks';
    lots = record {
      all = r.lots.all;
      counted = (let c = r.lots.counted in omega arith);
    };
    hands = subst (λ m. Hands m x.words.phase hands' tasks') (sym drawn_now)
        (hands_on r.hands id (Some h) drawn_list (omega arith) (λ j g z e. refl)
        (λ g e. subst (IsInHand (suc n) x.words.phase tasks' id) (one_some h g e) record {
          drawn_cell = (omega arith);
          marked = unborn;
          marked_right = marked_right o;
          maker_held = of_seat_here (λ q. (m : Custody B) × (held_in q t ≡ Some m) × (m.home ≡ None)) x.seats.tasks id
              v.tasks drawn_list at (runs_on k, maker_now, may.out);
        })
        (λ g e j i z q. subst (λ (y : Hand). i.cell ≢ y.cell) (one_some h g e) (only j i z q)));
    names = subst (λ m. NamesCells m hand' x.words.own x.words.phase (home_in (slots_after n o x.slots)) tasks'
        (set x.seats.known id v.known)) (sym drawn_now)
        (names_on on r.names id v.tasks drawn_list v.known v.known at knows x.words.own x.words.phase
        (home_in (slots_after n o x.slots)) (λ c u e. inl e) (λ u c way walk e. e) home_same
        (λ q i. ⊎_elim (λ (j : IsIn q v.tasks). inl (q, j, refl)) (λ (e : does_cells q.does ≡ []). inr e)
        (listed o q i))
        (λ c i. inl i));
    births = subst (λ m. Births m drawn_born maker' number' (made_of y) hand' x.words.phase) (sym drawn_now)
        (births_drawn (may_draw r y id t h s) (drawn_into r y id t h s) x.words.phase r.births);
    tree = subst (λ m. IsForkTree m drawn_born maker' number' forks' hand') (sym drawn_now)
        (tree_drawn (may_draw r y id t h s) (drawn_into r y id t h s) x.words.phase r.births r.tree);
    tree_words = subst (λ m. TreeWords m drawn_born maker' number' forks' hand' x.words.once y.seats.dues)
        (sym drawn_now)
        (tree_words_drawn (may_draw r y id t h s) (drawn_into r y id t h s) x.words.phase r.births
        r.tree_words
        (λ c f i. (
          i.0,
          of_seat_set (IsDue c f) x.seats.dues id i.0 v.dues (new_dues n o ++ v.dues) dues
              (λ j. in_right (record { cell = c; word = f }) (new_dues n o) v.dues j) i.1,
        ))
        (λ f tree. ⊎_elim
        (λ (i : IsDue n f (new_dues n o)). inl (
          id,
          of_seat_here (IsDue n f) x.seats.dues id v.dues (new_dues n o ++ v.dues) dues
              (in_left (record { cell = n; word = f }) (new_dues n o) v.dues i),
        ))
        (λ (e : tree_word maker' number' forks' o n f ≡ 0). inr ((r.once_words.undrawn n f (omega arith)).0 ∙ sym e))
        (due_or_zero maker' number' forks' n o f tree)));
    custody = subst (λ m. Custodies cells m hand' x.words.phase (slots_after n o x.slots) tasks') (sym drawn_now)
        (subst (Custodies cells (suc n) hand' x.words.phase (slots_after n o x.slots))
        (set-set x.seats.tasks id noted_list drawn_list)
        (custody_drawn (custody_on r.custody (hand_of x) x.words.phase id v.tasks noted_list at (λ u i. refl)
        (λ u i. refl) (noted_as v.tasks t k runs_on may.held refl IsAlike (λ m. inl refl)
        (inr (record { phase = phase_same; out = may.out; out_now = may.out })))) room hand' else_now unborn id
        noted_list (set_here x.seats.tasks id noted_list (inside x.seats.tasks id v.tasks at)) o
        (ap (λ q. sort_shown q (x.words.phase n)) here_now)));
    owned = subst (λ m. OwnedLists m hand' x.words.own owned') (sym drawn_now) record {
      owners = λ c u i. subst (λ q. (x.words.own c ≡ Some u) ↔ IsIn c q) (sym (owned_same u))
          (r.owned.owners c u (back_there c i));
      owned_there = λ c u i. on c (r.owned.owned_there c u (subst (IsIn c) (owned_same u) i));
      owned_apart = λ u. subst AreApart (sym (owned_same u)) (r.owned.owned_apart u);
    };
    once_words = subst (λ m. OnceWords m hand' hands' x.words.own x.words.once x.seats.seen
        (set x.seats.dues id (new_dues n o ++ v.dues))) (sym drawn_now)
        (once_drawn r.once_words id o h v.dues refl dues free hand' on back_there);
    chains = r.chains;
    live_count = r.live_count;
    stops = r.stops;
    waiters_own = r.waiters_own;
    records_fit = λ u q e. r.records_fit u q (sym (home_same u) ∙ e);
    meaning = subst (λ home. Meant program cells (suc x.words.count) x.words.stop
        (wider program (ground_of cells r.born x) (min (suc x.words.count) cells) hand' drawn_born) home
        (knows_now id drawn_born v.wrote v.filled (known_of x))) (sym homes_same)
        (draw_meant program cells (law_meant program cells x r) id v.born v.wrote v.filled seen wrote filled
        (min (suc x.words.count) cells) hand' (next_reference r.born t (made_of x t) o) left drawn_now else_now named);
    undrawn = λ c i. r.undrawn c (let a = drawn_now in omega arith);
    facts = facts_after keeps (draw_shown r y id t h s) r.facts;
  }
    where
      y : Contents B
      y = drawn_contents drawn_born

      s : DrawsCell cells x y id t h
      s = draws drawn_born

      maker' : ℕ → ℕ
      maker' = put r.maker n t

      number' : ℕ → ℕ
      number' = put r.number n (suc (made_of x t))

      forks' : Forks
      forks' = forks_after o t n (suc (made_of x t)) r.forks

      owned' : ℕ → List ℕ
      owned' u = owned_by (find_in tasks' u) (home_in (slots_after n o x.slots) u)

      marked_right : (s : Sort) → IsMarkedRight s false
      marked_right sort.Task = refl
      marked_right sort.Promise = tt

      phase_same : phase_of (runs_on k).does ≡ phase_of k.does
      phase_same = sym (acting_phase k.does may.may)
