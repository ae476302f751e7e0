-- A new table meets the rule.
use Rattle.tj_words.proofs.Prelude.{All, AreApart, Bool, CellId, CellState, Contents, CoreFacts, Hand, IsCell, IsFilled}
use Rattle.tj_words.proofs.Prelude.{IsIn, IsOfTree, IsRooted, IsThere, IsToldRecord, Key, Law, List, None, Once, Option}
use Rattle.tj_words.proofs.Prelude.{Program, Rec, Rule, Some, Tag, TasksStart, Waiting, Walk, Way, [], ap, arith}
use Rattle.tj_words.proofs.Prelude.{begins_self, blank, cond, core_shown, false, first_slots, first_view, first_words}
use Rattle.tj_words.proofs.Prelude.{get_elem?, hand_of, home_in, home_of, inl, inr, le-ltb, length, length-replicate}
use Rattle.tj_words.proofs.Prelude.{live_tasks, made_by, made_of, map, min, nat_lt, ne_eqb, opening, owned_by, owned_of}
use Rattle.tj_words.proofs.Prelude.{record_cells, refl, replicate, root_alone, root_record, seats_have, some, subst}
use Rattle.tj_words.proofs.Prelude.{suc, sym, to_task, tree_word, zero, ℕ, ◌+◌, ◌-◌, ◌<◌, ◌↔◌, ◌∙◌, ◌∷◌, ◌≡◌, ◌≤◌}
use Rattle.tj_words.specs.declared.offsets.Once.TheVariants.{Bits}
use Rattle.tj_base.specs.declared.cell.TheConstants.{MAX_CELLS}
use Rattle.tj_body.specs.History.{start}
use Rattle.tj_events.specs.Laws.{StartMeetsFacts}
use Rattle.tj_body.specs.Programs.{root_task}
use Rattle.tj_words.proofs.Stores.SeatLists.{each_only, back}
use Rattle.tj_words.proofs.Seating.FirstWords.{first_own, first_phase, first_once, root_once, first_say, first_wide}
use Rattle.tj_words.proofs.Seating.FirstWords.{first_words_say, first_codes}
use Rattle.tj_words.proofs.Seating.Appending.{idle_backing, unused_lot}
use Rattle.tj_base.specs.declared.cell.Sort.TheVariants as sort

blank_at : (c : ℕ) (x : CellState) → cond (nat_lt (suc c) 1) x blank ≡ root_alone.cells (suc c)
blank_at c x = rw (le-ltb (suc c) 1 (omega arith), ne_eqb (suc c) 0 (λ e. omega arith)) refl

one_live : (n : ℕ) → live_tasks first_phase (suc n) ≡ 1
one_live zero = refl
one_live (suc n) = let h = one_live n in omega arith

-- the contents of a new table show the root alone
module _ {B : Type 0} (cells : ℕ) (some_cells : 0 < cells) (root : B) (strict : Bool) where
  abbrev pub first_contents : Contents B
  first_contents = record {
    words = first_say;
    slots = some (Some (root_record root)) ∷ map some (replicate (cells - 1) None);
    seats = seats_have (first_view cells root strict ∷ []);
  }

  one_drawn : min 1 cells ≡ 1
  one_drawn = omega arith

  shown_at : (c : ℕ) → (core_shown cells (to_task [] ∷ []) (λ _. 0) first_contents).cells c ≡ root_alone.cells c
  shown_at zero = rw one_drawn refl
  shown_at (suc c) = rw one_drawn (blank_at c _)

  pub first_shown : core_shown cells (to_task [] ∷ []) (λ _. 0) first_contents ≡ root_alone
  first_shown j = record { count = one_drawn j; cells = λ c. shown_at c j; others = 0; cleared = 0 }

module _ {B : Type 0} (program : Program B) (cells : ℕ) (some_cells : 0 < cells) (strict : Bool)
    (start_meets : StartMeetsFacts)
    (starts : TasksStart program) where
  abbrev root : B
  root = program.root

  abbrev r0 : Rec B
  r0 = root_record root

  abbrev x0 : Contents B
  x0 = first_contents cells some_cells root strict

  abbrev n : ℕ
  n = min 1 cells

  abbrev no_record : Option (Rec B)
  no_record = None

  -- the cell is there, where it is the root's
  abbrev There : ℕ → Type 0
  There c = IsThere n (hand_of x0) c

  -- what holds of the root's cell holds of each that is drawn
  alone : (F : ℕ → Type 0) → F 0 → (c : ℕ) → c < n → F c
  alone F h zero l = h
  alone F h (suc c) l = absurd (omega arith)

  -- and what holds of each other one holds of those that aren't
  others : (F : ℕ → Type 0) → ((c : ℕ) → F (suc c)) → (c : ℕ) → n ≤ c → F c
  others F h zero l = absurd (omega arith)
  others F h (suc c) l = h c

  nones : (k t : ℕ) → home_in (map some (replicate k no_record)) t ≡ None
  nones zero t = refl
  nones (suc k) zero = refl
  nones (suc k) (suc t) = nones k t

  nones_at : (k t : ℕ) → t < k → get_elem? (map some (replicate k no_record)) t ≡ some (some None)
  nones_at zero t l = absurd (omega arith)
  nones_at (suc k) zero l = refl
  nones_at (suc k) (suc t) l = nones_at k t (omega arith)

  -- the root's record alone lies at home
  at_home : (F : ℕ → Rec B → Type 0) → F 0 r0 → (t : ℕ) (r : Rec B) → home_of x0 t ≡ Some r → F t r
  at_home F h zero r e = let q : r0 ≡ r = cc in subst (F 0) q h
  at_home F h (suc t) r e = let q : None ≡ Some r = sym (nones (cells - 1) t) ∙ e in absurd (cc)

  cells_there : All There (record_cells r0)
  cells_there c i = grind arith

  owned_there : (c t : ℕ) → first_own c ≡ Some t → There c × There t
  owned_there c t e = grind arith

  no_wait : (t : ℕ) {c : CellId} {way : Way} {w : Walk} → first_phase t ≡ Waiting c way w → ⊥
  no_wait t e = grind arith

  no_hand : (j : ℕ) (h : Hand) → get_elem? (None ∷ []) j ≡ some (Some h) → ⊥
  no_hand j h e = each_only (λ j o. o ≡ Some h → ⊥) None (λ e. cc) j (Some h) e refl

  no_made : (t : ℕ) → made_of x0 t ≡ 0
  no_made zero = refl
  no_made (suc t) = ap (λ o. made_by None o + 0) (nones (cells - 1) t)

  -- the root owns its cell, and nobody else owns any
  none_owned : (t : ℕ) → owned_of x0 (suc t) ≡ []
  none_owned t = ap (λ o. owned_by None o) (nones (cells - 1) t)

  owner : (t : ℕ) → (first_own 0 ≡ Some t) ↔ IsIn 0 (owned_of x0 t)
  owner zero = ((λ q. inl refl), (λ i. refl))
  owner (suc t) = (
    (λ q. absurd (let z : 0 ≡ suc t = cc in omega arith)),
    (λ i. absurd (subst (IsIn 0) (none_owned t) i)),
  )

  root_owned : (c t : ℕ) → IsIn c (owned_of x0 t) → There c
  root_owned c zero (inl e) = (omega arith, refl)
  root_owned c zero (inr i) = absurd i
  root_owned c (suc t) i = absurd (subst (IsIn c) (none_owned t) i)

  owned_apart : (t : ℕ) → AreApart (owned_of x0 t)
  owned_apart zero = ((λ i. i), tt)
  owned_apart (suc t) = subst AreApart (sym (none_owned t)) tt

  tree_right : (f : Once) → IsOfTree f → root_once f ≡ tree_word (λ _. 0) (λ _. 0) [] sort.Task 0 f
  tree_right f o = grind arith

  no_value : (c : ℕ) (f : Once) → ¬ IsOfTree f → first_once c f ≡ 0
  no_value c f n = grind arith

  live : (k : ℕ) → 0 < k → 1 ≡ live_tasks first_phase k + 0
  live zero l = absurd (omega arith)
  live (suc k) l = let h = one_live k in omega arith

  told : IsToldRecord program (to_task [] ∷ [])
      (IsFilled program n (hand_of x0) (to_task [] ∷ []) (λ c. first_once c Tag) (λ c. first_once c Bits)) r0
  told = record {
    point = start (root_task root);
    tells = record {
      of = refl;
      body = refl;
      held = ((refl, refl), tt);
      owned_cells = ((to_task [], refl, refl), tt);
      made = refl;
      prints = refl;
      owed = ([], tt, refl);
    };
    tells_stage = refl;
    stands = record {
      of_rounds = (starts.1 (root_task root) starts.0).1;
      children = λ k i. absurd i;
      promises = λ q i. absurd i;
      writes = λ q e i. absurd i;
    };
  }

  pub first_law : Law program cells x0
  first_law = record {
    born = to_task [] ∷ [];
    maker = λ _. 0;
    number = λ _. 0;
    forks = [];
    lots = record { all = refl; counted = omega arith };
    hands = record {
      each = λ j h e. absurd (no_hand j h e);
      apart = λ j k h g e f same. absurd (no_hand j h e);
    };
    names = record {
      owned = owned_there;
      waits = λ t c way walk e. absurd (no_wait t e);
      records = at_home _ cells_there;
      walks = each_only _ [] (λ k i. absurd i);
      knows = each_only _ [] (λ c i. absurd i);
    };
    births = record {
      all = (let e : 1 ≡ n = omega arith in e);
      root = refl;
      root_maker = refl;
      root_number = refl;
      named = each_only _ _ (λ n. absurd (n refl));
      sorts = each_only _ _ refl;
      makers_there = λ c l. (omega arith, refl);
      in_hand = λ c h e. cc;
      made_all = λ t k a b. absurd (let z = no_made t in omega arith);
    };
    tree = record {
      history = tt;
      tasks = λ c. (
        (λ e. (to_task [], subst (λ d. IsCell (to_task [] ∷ []) d (to_task [])) (sym e) refl, refl)),
        (λ h. each_only (λ d x. d ≡ 0) (to_task []) refl c h.0 h.1),
      );
      names = each_only _ _ (λ s. refl);
      parents = λ c h. refl;
      kids = λ c h. refl;
      jumps_there = λ c h. (omega arith, refl);
      depths = λ c h. omega arith;
    };
    tree_words = record {
      written = λ c x f t e. each_only (λ d y. IsOfTree f
          → first_once d f ≡ tree_word (λ _. 0) (λ _. 0) [] y.sort d f) _ (tree_right f) c x e;
      in_hand = λ c h x f e i. cc;
    };
    custody = record {
      holder = λ _. None;
      tasks_kept = alone _ (λ s. (refl, (r0, refl)));
      promises_empty = alone _ (λ s. absurd (cc));
      undrawn_empty = others _ (λ c l. nones_at (cells - 1) c (omega arith));
      undrawn_free = λ c l. refl;
      held = each_only _ [] (λ t k e. cc);
      holders = λ t j e. cc;
      own_slots = at_home _ refl;
    };
    owned = record {
      owners = λ c t h. alone (λ d. (first_own d ≡ Some t) ↔ IsIn d (owned_of x0 t)) (owner t) c h.0;
      owned_there = root_owned;
      owned_apart = owned_apart;
    };
    once_words = record {
      due_to = λ _ _. None;
      stands = each_only _ [] (λ w i. absurd i);
      dues_mine = each_only _ [] (λ w i. absurd i);
      due = λ c j f e. cc;
      may_be_due = λ c j f e. cc;
      unwritten = λ c j f e. cc;
      valued = λ c f n v. absurd (v (no_value c f n));
      closed = λ c h e. absurd (alone (λ d. first_own d ≡ None → ⊥) (λ q. cc) c h.0 e);
      undrawn = λ c f l. (others (λ d. first_once d f ≡ 0) (λ d. refl) c l, refl);
    };
    chains = record {
      line = λ _. [];
      pusher = λ _. None;
      taker = λ _. 0;
      shutter = λ _. 0;
      heads = λ p n. refl;
      linked = λ p. tt;
      parked = λ p t i. absurd i;
      placed = λ p t h n. absurd (no_wait t h.1);
      tagged = λ p e. cc;
      due = λ p n o. absurd (n (no_value p Tag (λ h. h)));
      pushing = λ t j e. cc;
      to_push = each_only _ [] (λ e i. absurd i);
      taken = λ p e n. cc;
      rest = each_only _ None (λ r e. cc);
      stays_shut = each_only _ [] (λ p i. absurd i);
      grows = each_only _ [] (λ f i. absurd i);
    };
    live_count = record { counted = live cells some_cells; stays_at_rest = each_only _ false (λ e. cc) };
    stops = record {
      given = λ n. absurd (n refl);
      stands = each_only _ [] (λ n i. absurd i);
      found = each_only _ [] (λ n i. absurd i);
    };
    waiters_own = λ t c way walk e. absurd (no_wait t e);
    records_fit = at_home _ (refl, inl refl);
    meaning = record {
      names = each_only _ _ (starts.1 (root_task root) starts.0).0;
      entries = λ c n. absurd (n (no_value c Tag (λ h. h)));
      records = at_home _ told;
      full = λ l. absurd (omega arith);
      stopped = λ e. absurd (omega arith);
      begins = each_only _ _ (begins_self (to_task [] ∷ []));
      wrote_stands = each_only _ [] (λ f i. absurd i);
      filled_stands = each_only _ [] (λ f i. absurd i);
    };
    undrawn = others _ (λ c. refl);
    facts = subst CoreFacts (sym (first_shown cells some_cells root strict)) start_meets;
  }

-- there are as many slots as cells
pub first_deep : {B : Type 0} (cells : ℕ) → 0 < cells → (root : B) → length (first_slots cells root) ≡ cells
first_deep cells some_cells root_body = ap suc (length-replicate (cells - 1) None)
    ∙ (let z : suc (cells - 1) ≡ cells = omega arith in z)

module _ {B : Type 0} (program : Bool → B → Program B) (key : Key B) (some_cells : 0 < key.cells)
    (few : key.cells ≤ MAX_CELLS) where
  length_some : {S : Type 0} (l : List S) → length (map some l) ≡ length l
  length_some [] = refl
  length_some (x ∷ xs) = ap suc (length_some xs)

  abbrev root_of : B
  root_of = key.root.value

  -- a new table meets the rule
  pub opening_meets : StartMeetsFacts → TasksStart (program key.strict root_of)
      → IsRooted (program key.strict root_of)
      → (program key.strict root_of).root ≡ root_of → (ws : List ℕ) (xs : List (Option (Rec B)))
      → ws ≡ first_words key.cells → xs ≡ first_slots key.cells root_of
      → Rule program key (opening ws xs (first_view key.cells root_of key.strict))
  opening_meets start_meets starts rooted same ws xs e f =
      back (λ j. Rule program key (opening (e j) (f j) (first_view key.cells root_of key.strict))) (record {
        some_cells = some_cells;
        few_cells = few;
        rooted = rooted;
        all_words = first_wide key.cells some_cells;
        all_slots = length_some (first_slots key.cells root_of) ∙ first_deep key.cells some_cells root_of;
        codes = first_codes key.cells some_cells;
        seats = each_only _ _ (record {
          about = λ a e. let q : record { root = root_of; cells = key.cells; strict = key.strict } ≡ a = cc in sym q;
          named = inr (record { root = root_of; cells = key.cells; strict = key.strict }, refl);
          within_lot = unused_lot (inr (omega arith));
          backing = idle_backing;
          known_born = λ c i. absurd i;
        });
        pushed = each_only _ _ (λ e i. absurd i);
        law = back (λ j. Law (program key.strict root_of) key.cells (record {
          words = first_words_say key.cells some_cells j;
          slots = map some (first_slots key.cells (sym same j));
          seats = seats_have (first_view key.cells (sym same j) key.strict ∷ []);
        })) (first_law (program key.strict root_of) key.cells some_cells key.strict start_meets starts);
      })
