-- One task moves: what its seat has for it, its record at home and its phase are changed, and nothing of other tasks.
-- The law after that.
use Rattle.tj_words.proofs.Prelude.{All, AreThere, Births, CellId, Chains, Contents, CoreFacts, Custodies, Custody}
use Rattle.tj_words.proofs.Prelude.{Does, Each, Hand, Hands, IsCustody, IsKept, IsThere, Law, List, LiveCount, Meaning}
use Rattle.tj_words.proofs.Prelude.{None, OfSeat, OnceWords, Option, OwnedLists, Phase, Program, Rec, RecordsFit}
use Rattle.tj_words.proofs.Prelude.{SeatsHave, Slots, Some, TreeWords, WaitersOwn, Walk, Way, WordsSay, ap, arith}
use Rattle.tj_words.proofs.Prelude.{bits_in, core_shown, dite, does_cells, drawn_in, find_in, get_elem?, hand_of}
use Rattle.tj_words.proofs.Prelude.{held_in, held_of, home_in, home_of, made_by, making, owned_by, owned_of, phase_of}
use Rattle.tj_words.proofs.Prelude.{phase_sort, put, put_else, put_here, record_cells, record_in, refl, set, some}
use Rattle.tj_words.proofs.Prelude.{sort_shown, subst, sym, tag_in, total, ℕ, ℕ_discrete, ◌+◌, ◌∙◌, ◌≡◌, ◌≢◌, ◌≤◌}
use Rattle.tj_words.proofs.Lemmas.{IsMoved, at_two, back, births_on, each_else, each_set, find_put, hand_finds}
use Rattle.tj_words.proofs.Lemmas.{hand_seat, has_none, none_some, of_seat_set, parts_of, put_is}
use Rattle.tj_base.specs.declared.cell.Sort.TheVariants as sort
use Rattle.tj_words.specs.declared.phase.Phase.TheVariants as phase

-- a task that a seat holds stands in the phase of a task
pub does_sort : (d : Does) → phase_sort (phase_of d) ≡ sort.Task
does_sort d = grind arith

-- a task that is in no hand goes from one phase of tasks to another; the phases of other cells are as before
pub sorts_same : (hand : ℕ → Option Hand) (phase phases : ℕ → Phase) (t : ℕ) → hand t ≡ None
    → phase_sort (phase t) ≡ sort.Task
    → phase_sort (phases t) ≡ sort.Task
    → ((u : ℕ) → u ≢ t → phases u ≡ phase u)
    → (c : ℕ)
    → sort_shown (hand c) (phases c) ≡ sort_shown (hand c) (phase c)
sorts_same hand phase phases t out was is else c = dite (ℕ_discrete c t)
    (λ z. ap (λ i. sort_shown (hand i) (phases i)) z ∙ (here ∙ ap (λ i. sort_shown (hand i) (phase i)) (sym z)))
    (λ m. ap (sort_shown (hand c)) (else c m))
  where
    here : sort_shown (hand t) (phases t) ≡ sort_shown (hand t) (phase t)
    here = ap (λ o. sort_shown o (phases t)) out ∙ (is ∙ (sym was ∙ ap (λ o. sort_shown o (phase t)) (sym out)))

module _ {B : Type 0} {program : Program B} {cells : ℕ} {x : Contents B} (r : Law program cells x) where
  abbrev n : ℕ
  n = drawn_in cells x

  -- some seat has something for the task
  abbrev Has : ℕ → List (Custody B) → Type 0
  Has t ks = (k : Custody B) × (held_in ks t ≡ Some k)

  -- and its record isn't at home
  abbrev pub HasOut : ℕ → List (Custody B) → Type 0
  HasOut t ks = (k : Custody B) × (held_in ks t ≡ Some k) × (k.home ≡ None)

  -- seat id has new for its tasks where it had ks, which is the same but for t; the phases and the slots are these then
  pub record TaskMove (id t : ℕ) (phases : ℕ → Phase) (ks new : List (Custody B)) (slots : Slots B) : Type 0 where
    pub at : get_elem? x.seats.tasks id ≡ some ks
    pub same : (u : ℕ) → u ≢ t → held_in new u ≡ held_in ks u
    pub mine : (j : ℕ) → r.custody.holder t ≡ Some j → j ≡ id
    pub there : IsThere n (hand_of x) t
    pub was_task : phase_sort (x.words.phase t) ≡ sort.Task
    pub is_task : phase_sort (phases t) ≡ sort.Task
    pub else : (u : ℕ) → u ≢ t → phases u ≡ x.words.phase u
    pub waits : (p : CellId) (way : Way) (w : Walk) → phases t ≡ phase.Waiting p way w
        → IsThere n (hand_of x) p.0 × (x.words.own t ≢ None)
    pub makers : (h : Hand) → get_elem? x.seats.hands id ≡ some (Some h) → h.maker ≡ t → HasOut t new
    pub apart : (u : ℕ) → u ≢ t → get_elem? slots u ≡ get_elem? x.slots u
    pub lies : (y : Rec B) → home_in slots t ≡ Some y → AreThere n (hand_of x) (record_cells y) × (y.cell.0 ≡ t)
    pub walks : All (λ (k : Custody B). AreThere n (hand_of x) (does_cells k.does)) new
    pub made : made_by (held_in new t) (home_in slots t) ≡ made_by (held_of x t) (home_of x t)
    pub holder : Option ℕ
    pub kept : IsKept (phases t) holder (home_in slots t)
    pub custody : (k : Custody B) → held_in new t ≡ Some k
        → IsCustody (put r.custody.holder t holder) phases (home_in slots) id t k
    pub holds : (j : ℕ) → holder ≡ Some j → OfSeat (Has t) (set x.seats.tasks id new) j

  module _ {id t : ℕ} {phases : ℕ → Phase} {ks new : List (Custody B)} {slots : Slots B}
      (m : TaskMove id t phases ks new slots) where
    abbrev after : List (List (Custody B))
    after = set x.seats.tasks id new

    pub homes : (u : ℕ) → u ≢ t → home_in slots u ≡ home_of x u
    homes u d = ap record_in (m.apart u d)

    home_column : home_in slots ≡ put (home_of x) t (home_in slots t)
    home_column = put_is (home_of x) (home_in slots) t (home_in slots t) refl homes

    -- what is found for each task
    held_column : find_in after ≡ put (held_of x) t (held_in new t)
    held_column = find_put x.seats.tasks id t ks new m.at (λ j l d e. has_none r j t l e (λ q. d (m.mine j q))) m.same

    -- a reading of what seats and homes have for a task stays for each task, if it stays for t
    reads_same : {A : Type 0} (f : Option (Custody B) → Option (Rec B) → A)
        → f (held_in new t) (home_in slots t) ≡ f (held_of x t) (home_of x t) → (u : ℕ)
        → f (find_in after u) (home_in slots u) ≡ f (held_of x u) (home_of x u)
    reads_same f e u = (λ j. f (held_column j u) (home_column j u))
        ∙ at_two (held_of x) (home_of x) t (held_in new t) (home_in slots t)
        (λ d o q. f o q ≡ f (held_of x d) (home_of x d)) u e (λ _. refl)

    -- the cell of a hand is another one
    not_hand : (j : ℕ) (h : Hand) → get_elem? x.seats.hands j ≡ some (Some h) → h.cell ≢ t
    not_hand j h e z = let f = hand_finds x.seats.hands j h e in
        none_some (hand_of x t) f.0 m.there.1 (ap (hand_of x) (sym z) ∙ f.1)

    pub moved_hands : Hands n phases x.seats.hands after
    moved_hands = record {
      each = λ j h e. let i = r.hands.each j h e in record {
        drawn_cell = i.drawn_cell;
        marked = m.else h.cell (not_hand j h e) ∙ i.marked;
        marked_right = i.marked_right;
        maker_held = dite (ℕ_discrete h.maker t)
            (λ z. let q : j ≡ id = m.mine j (ap r.custody.holder (sym z) ∙ hand_seat r j h e) in
            of_seat_set (HasOut h.maker) x.seats.tasks id j ks new m.at
            (λ _. subst (λ u. HasOut u new) (sym z)
            (m.makers h (ap (λ i. get_elem? x.seats.hands i) (sym q) ∙ e) z)) i.maker_held)
            (λ d. of_seat_set (HasOut h.maker) x.seats.tasks id j ks new m.at
            (λ w. (w.0, m.same h.maker d ∙ w.1, w.2)) i.maker_held);
      };
      apart = r.hands.apart;
    }

    pub moved_walks : Each (λ j l. All (λ (k : Custody B). AreThere n (hand_of x) (does_cells k.does)) l) after
    moved_walks = each_set (λ j l. All (λ (k : Custody B). AreThere n (hand_of x) (does_cells k.does)) l) x.seats.tasks
        id new r.names.walks m.walks

    pub moved_births : Births n r.born r.maker r.number
        (λ u. made_by (find_in after u) (home_in slots u) + making x.seats.hands u) (hand_of x) phases
    moved_births = births_on r.births (λ c h. h)
        (sorts_same (hand_of x) x.words.phase phases t m.there.1 m.was_task m.is_task m.else)
        (λ c h e. (h, e, refl)) (λ u. ap (λ k. k + making x.seats.hands u) (reads_same made_by m.made u))

    owned_same : owned_by (held_in new t) (home_in slots t) ≡ owned_of x t
        → (λ u. owned_by (find_in after u) (home_in slots u)) ≡ owned_of x
    owned_same e j u = reads_same owned_by e u j

    pub undrawn_else : (u : ℕ) → n ≤ u → u ≢ t
    undrawn_else u l z = let d = m.there.0 in omega arith

    pub moved_custody : Custodies cells n (hand_of x) phases slots after
    moved_custody = record {
      holder = holder;
      tasks_kept = λ u l s. dite (ℕ_discrete u t)
          (λ z. subst (λ i. IsKept (phases i) (holder i) (home_in slots i)) (sym z)
          (subst (λ o. IsKept (phases t) o (home_in slots t)) (sym (put_here r.custody.holder t m.holder)) m.kept))
          (λ d. back (λ j. IsKept (m.else u d j) (put_else r.custody.holder t m.holder u d j) (homes u d j))
          (r.custody.tasks_kept u l (ap (sort_shown (hand_of x u)) (sym (m.else u d)) ∙ s)));
      promises_empty = λ u l s. dite (ℕ_discrete u t)
          (λ z. let e : sort.Task ≡ sort.Promise = sym here_task
          ∙ (ap (λ i. sort_shown (hand_of x i) (phases i)) (sym z) ∙ s) in absurd (cc))
          (λ d. let h = r.custody.promises_empty u l (ap (sort_shown (hand_of x u)) (sym (m.else u d)) ∙ s) in
          (m.apart u d ∙ h.0, put_else r.custody.holder t m.holder u d ∙ h.1));
      undrawn_empty = λ u l i. m.apart u (undrawn_else u l) ∙ r.custody.undrawn_empty u l i;
      undrawn_free = λ u l. put_else r.custody.holder t m.holder u (undrawn_else u l) ∙ r.custody.undrawn_free u l;
      held = each_else
          (λ j l. (u : ℕ) (a : Custody B) → held_in l u ≡ Some a → IsCustody holder phases (home_in slots) j u a)
          x.seats.tasks id new
          (λ j l d e u a h. let i = r.custody.held j l e u a h in
          keeps j u a i (λ z. d (m.mine j (ap r.custody.holder (sym z) ∙ i.mine))))
          (λ u a h. dite (ℕ_discrete u t)
          (λ z. subst (λ i. IsCustody holder phases (home_in slots) id i a) (sym z)
          (m.custody a (ap (held_in new) (sym z) ∙ h)))
          (λ d. keeps id u a (r.custody.held id ks m.at u a (sym (m.same u d) ∙ h)) d));
      holders = λ u j e. dite (ℕ_discrete u t)
          (λ z. subst (λ i. OfSeat (Has i) after j) (sym z)
          (m.holds j (sym (put_here r.custody.holder t m.holder) ∙ (ap holder (sym z) ∙ e))))
          (λ d. of_seat_set (Has u) x.seats.tasks id j ks new m.at (λ w. (w.0, m.same u d ∙ w.1))
          (r.custody.holders u j (sym (put_else r.custody.holder t m.holder u d) ∙ e)));
      own_slots = λ u y e. dite (ℕ_discrete u t)
          (λ z. (m.lies y (ap (home_in slots) (sym z) ∙ e)).1 ∙ sym z)
          (λ d. r.custody.own_slots u y (sym (homes u d) ∙ e));
    }
      where
        holder : ℕ → Option ℕ
        holder = put r.custody.holder t m.holder

        here_task : sort_shown (hand_of x t) (phases t) ≡ sort.Task
        here_task = ap (λ o. sort_shown o (phases t)) m.there.1 ∙ m.is_task

        keeps : (j u : ℕ) (a : Custody B) → IsCustody r.custody.holder x.words.phase (home_of x) j u a → u ≢ t
            → IsCustody holder phases (home_in slots) j u a
        keeps j u a i d = record {
          mine = put_else r.custody.holder t m.holder u d ∙ i.mine;
          does = m.else u d ∙ i.does;
          laid = λ y e. let l = i.laid y e in record { here = homes u d ∙ l.here; owned = l.owned; made = l.made };
          out = λ e. homes u d ∙ i.out e;
        }

    moved_waiters : WaitersOwn x.words.own phases
    moved_waiters u p way w e = dite (ℕ_discrete u t)
        (λ z. subst (λ i. x.words.own i ≢ None) (sym z) (m.waits p way w (ap phases (sym z) ∙ e)).1)
        (λ d. r.waiters_own u p way w (sym (m.else u d) ∙ e))

    -- the contents after it, with this OWN, and with what else these words and seats have changed
    abbrev pub owners_moved : (ℕ → Option ℕ) → WordsSay → SeatsHave B → Contents B
    owners_moved own words seats = record {
      words = record x.words { live = words.live; others = words.others; own = own; phase = phases };
      slots = slots;
      seats = record x.seats {
        tokens = seats.tokens;
        cleared = seats.cleared;
        tasks = after;
        known = seats.known;
        born_seen = seats.born_seen;
        filled = seats.filled;
        dues = seats.dues;
        pushes = seats.pushes;
        rests = seats.rests;
      };
    }

    -- the law after it, of which the caller shows what the kind of step decides
    abbrev pub law_owners : (own : ℕ → Option ℕ) (words : WordsSay) (seats : SeatsHave B)
        → ((c u : ℕ) → own c ≡ Some u → IsThere n (hand_of x) c × IsThere n (hand_of x) u)
        → Each (λ j l. AreThere n (hand_of x) l) seats.known
        → TreeWords n r.born r.maker r.number r.forks (hand_of x) x.words.once seats.dues
        → OwnedLists n (hand_of x) own (λ u. owned_by (find_in after u) (home_in slots u))
        → OnceWords n (hand_of x) x.seats.hands own x.words.once x.seats.seen seats.dues
        → Chains (tag_in x) x.words.head x.words.next phases seats.pushes x.seats.shuts seats.rests x.seats.closed
        x.seats.found
        → LiveCount cells words.live phases seats.tokens x.seats.rested
        → WaitersOwn own phases
        → RecordsFit (tag_in x) phases (home_in slots)
        → Meaning program cells x.words.count x.words.stop n (hand_of x) r.born (tag_in x) (bits_in x) (home_in slots)
        seats.born_seen x.seats.wrote seats.filled
        → CoreFacts (core_shown cells r.born r.maker (owners_moved own words seats))
        → Law program cells (owners_moved own words seats)
    law_owners own words seats owners knows tree owned once chains count waiters fit meaning facts = record {
      born = r.born;
      maker = r.maker;
      number = r.number;
      forks = r.forks;
      lots = r.lots;
      hands = moved_hands;
      names = record {
        owned = owners;
        waits = λ u p way w e. dite (ℕ_discrete u t) (λ z. (m.waits p way w (ap phases (sym z) ∙ e)).0)
            (λ d. r.names.waits u p way w (sym (m.else u d) ∙ e));
        records = λ u y e. dite (ℕ_discrete u t) (λ z. (m.lies y (ap (home_in slots) (sym z) ∙ e)).0)
            (λ d. r.names.records u y (sym (homes u d) ∙ e));
        walks = moved_walks;
        knows = knows;
      };
      births = moved_births;
      tree = r.tree;
      tree_words = tree;
      custody = moved_custody;
      owned = owned;
      once_words = once;
      chains = chains;
      live_count = count;
      stops = r.stops;
      waiters_own = waiters;
      records_fit = fit;
      meaning = meaning;
      undrawn = λ c l. m.else c (undrawn_else c l) ∙ r.undrawn c l;
      facts = facts;
    }

    -- where no owner is changed
    module _ (words : WordsSay) (seats : SeatsHave B) where
      abbrev pub task_moved : Contents B
      task_moved = owners_moved x.words.own words (record seats { dues = x.seats.dues })

      -- the task moves
      pub task_moves : (q : Phase) (held : Option (Custody B)) (home : Option (Rec B))
          → phases t ≡ q → held_in new t ≡ held → home_in slots t ≡ home → IsMoved cells x task_moved t q held home
      task_moves q held home a b c = record {
        made = (λ j. made_by (sym b j) (sym c j)) ∙ m.made;
        parts = λ j. record (parts_of cells x) {
          phase = put_is x.words.phase phases t q a m.else j;
          held = (held_column ∙ ap (put (held_of x) t) b) j;
          home = (home_column ∙ ap (put (home_of x) t) c) j;
          others = words.others;
          cleared = total seats.cleared;
        };
      }

      pub law_task : owned_by (held_in new t) (home_in slots t) ≡ owned_of x t
          → Each (λ j l. AreThere n (hand_of x) l) seats.known
          → Chains (tag_in x) x.words.head x.words.next phases seats.pushes x.seats.shuts seats.rests x.seats.closed
          x.seats.found
          → LiveCount cells words.live phases seats.tokens x.seats.rested
          → RecordsFit (tag_in x) phases (home_in slots)
          → Meaning program cells x.words.count x.words.stop n (hand_of x) r.born (tag_in x) (bits_in x)
          (home_in slots) seats.born_seen x.seats.wrote seats.filled
          → CoreFacts (core_shown cells r.born r.maker task_moved)
          → Law program cells task_moved
      law_task owned knows chains count = law_owners x.words.own words (record seats { dues = x.seats.dues })
          r.names.owned knows r.tree_words
          (subst (OwnedLists n (hand_of x) x.words.own) (sym (owned_same owned)) r.owned) r.once_words chains count
          moved_waiters
