-- What one seat has in hand changes, and with it what it has for its tasks: what of the law speaks of cells that are
-- there, of tasks that are held and of cells in hand is kept.
use Rattle.tj_words.proofs.Prelude.{All, AreThere, CellId, Custodies, Custody, Due, Forks, Hand, Hands, HasInHand}
use Rattle.tj_words.proofs.Prelude.{IsCustody, IsForkTree, IsIn, IsInHand, IsKept, IsOfTree, IsThere, List, NamesCells}
use Rattle.tj_words.proofs.Prelude.{None, OfSeat, Once, OnceWords, Option, Phase, Rec, Reference, SeenWord, Slots, Some}
use Rattle.tj_words.proofs.Prelude.{Sort, Walk, Way, [], ap, arith, at_set, dec_le, dite, does_cells, get_elem?}
use Rattle.tj_words.proofs.Prelude.{held_in, home_in, phase_of, record_cells, refl, set, some, sort_shown, subst, sym}
use Rattle.tj_words.proofs.Prelude.{ℕ, ⊎_elim, ◌<◌, ◌∙◌, ◌≡◌, ◌≢◌, ◌≤◌, ◌⊎◌}
use Rattle.tj_words.specs.LawParts.TreeWords.{BirthsBy}
use Rattle.tj_words.proofs.Stores.SeatLists.{each_set, of_seat_set, of_seat_else}
use Rattle.tj_words.proofs.Holders.HeldTasks.{none_some}
use Rattle.tj_words.proofs.Holders.NotedPairs.{IsNoted, noted_after, noted_before}
use Rattle.tj_base.specs.declared.cell.Sort.TheVariants as sort
use Rattle.tj_words.specs.declared.phase.Phase.TheVariants as phases

-- a task is held as before: what its seat has for it is the same, or has the same phase and no record at home
pub record IsStill {B : Type 0} (k k' : Custody B) : Type 0 where
  pub phase : phase_of k'.does ≡ phase_of k.does
  pub out : k.home ≡ None
  pub out_now : k'.home ≡ None

abbrev pub IsAlike : {B : Type 0} → Custody B → Custody B → Type 0
IsAlike k k' = (k' ≡ k) ⊎ IsStill k k'

-- the cells that are there stay there
module _ {drawn drawn' : ℕ} {hand hand' : ℕ → Option Hand}
    (on : (c : ℕ) → IsThere drawn hand c → IsThere drawn' hand' c) where
  pub are_there_on : (l : List ℕ) → AreThere drawn hand l → AreThere drawn' hand' l
  are_there_on l h c i = on c (h c i)

  -- no word, record, walk or known cell names another
  pub names_on : {B : Type 0} {own : ℕ → Option ℕ} {phase : ℕ → Phase} {home : ℕ → Option (Rec B)}
      {tasks : List (List (Custody B))} {known : List (List ℕ)}
      → NamesCells drawn hand own phase home tasks known
      → (id : ℕ) (ks new : List (Custody B)) (l l' : List ℕ)
      → get_elem? tasks id ≡ some ks
      → get_elem? known id ≡ some l
      → (own' : ℕ → Option ℕ) (phase' : ℕ → Phase) (home' : ℕ → Option (Rec B))
      → ((c t : ℕ) → own' c ≡ Some t → (own c ≡ Some t) ⊎ (IsThere drawn' hand' c × IsThere drawn' hand' t))
      → ((t : ℕ) (c : CellId) (way : Way) (walk : Walk) → phase' t ≡ phases.Waiting c way walk
      → phase t ≡ phases.Waiting c way walk)
      → ((t : ℕ) → home' t ≡ home t)
      → ((k : Custody B) → IsIn k new
      → ((m : Custody B) × IsIn m ks × (k.does ≡ m.does)) ⊎ (does_cells k.does ≡ []))
      → ((c : ℕ) → IsIn c l' → IsIn c l ⊎ IsThere drawn' hand' c)
      → NamesCells drawn' hand' own' phase' home' (set tasks id new) (set known id l')
  names_on {B} {tasks = tasks} {known = known} n id ks new l l' at sees own' phase' home' owns waits homes walks
      knows = record {
        owned = λ c t e. ⊎_elim (λ q. let o = n.owned c t q in (on c o.0, on t o.1)) (λ q. q) (owns c t e);
        waits = λ t c way walk e. on c.0 (n.waits t c way walk (waits t c way walk e));
        records = λ t r e. are_there_on (record_cells r) (n.records t r (sym (homes t) ∙ e));
        walks = each_set (λ j ks. All (λ (k : Custody B). AreThere drawn' hand' (does_cells k.does)) ks) tasks id new
            (λ j m e k i. are_there_on (does_cells k.does) (n.walks j m e k i))
            (λ k i. ⊎_elim (λ q. are_there_on (does_cells k.does)
            (subst (λ d. AreThere drawn hand (does_cells d)) (sym q.2) (n.walks id ks at q.0 q.1)))
            (λ q. subst (AreThere drawn' hand') (sym q) (λ c j. absurd j)) (walks k i));
        knows = each_set (λ j cells. AreThere drawn' hand' cells) known id l'
            (λ j m e. are_there_on m (n.knows j m e))
            (λ c i. ⊎_elim (λ q. on c (n.knows id l sees c q)) (λ q. q) (knows c i));
      }

  -- no jump leads elsewhere
  pub tree_on : {born : List Reference} {maker number : ℕ → ℕ} {forks : Forks} → drawn' ≡ drawn
      → IsForkTree drawn born maker number forks hand
      → IsForkTree drawn' born maker number forks hand'
  tree_on same t = record {
    history = t.history;
    tasks = t.tasks;
    names = t.names;
    parents = t.parents;
    kids = t.kids;
    jumps_there = λ c i. on _ (t.jumps_there c i);
    depths = t.depths;
  }

-- what was seen of words that are written once stands, and each is due as before
pub once_on : {drawn : ℕ} {hand hand' : ℕ → Option Hand} {hands hands' : List (Option Hand)} {own own' : ℕ → Option ℕ}
    {word : ℕ → Once → ℕ} {seen : List (List SeenWord)} {dues : List (List Due)}
    (r : OnceWords drawn hand hands own word seen dues)
    → ((c : ℕ) → IsThere drawn hand c → own c ≡ None → IsThere drawn hand' c × (own' c ≡ None))
    → ((c : ℕ) → IsThere drawn hand' c → own' c ≡ None → IsThere drawn hand c × (own c ≡ None))
    → ((c j : ℕ) (f : Once) → r.due_to c f ≡ Some j → IsOfTree f → OfSeat (HasInHand c) hands' j)
    → OnceWords drawn hand' hands' own' word seen dues
once_on r on before drawer = record {
  due_to = r.due_to;
  stands = r.stands;
  dues_mine = r.dues_mine;
  due = r.due;
  may_be_due = λ c j f e. let m = r.may_be_due c j f e in record {
    tree = drawer c j f e;
    value = λ z. let v = m.value z in on c v.0 v.1;
    tag_last = m.tag_last;
  };
  unwritten = r.unwritten;
  valued = λ c f z n. let v = r.valued c f z n in on c v.0 v.1;
  closed = λ c t e. let b = before c t e in r.closed c b.0 b.1;
  undrawn = r.undrawn;
}

-- what the cells are is as before
pub births_on : {drawn : ℕ} {born : List Reference} {maker number made made' : ℕ → ℕ} {hand hand' : ℕ → Option Hand}
    {shown shown' : ℕ → Sort} → BirthsBy drawn born maker number made hand shown
    → ((c : ℕ) → IsThere drawn hand c → IsThere drawn hand' c)
    → ((c : ℕ) → shown' c ≡ shown c)
    → ((c : ℕ) (h' : Hand) → hand' c ≡ Some h' → (h : Hand) × (hand c ≡ Some h) × (h'.maker ≡ h.maker))
    → ((t : ℕ) → made' t ≡ made t)
    → BirthsBy drawn born maker number made' hand' shown'
births_on {maker} {number} {made'} b on sorts hands same = record {
  all = b.all;
  root = b.root;
  root_maker = b.root_maker;
  root_number = b.root_number;
  named = b.named;
  sorts = λ c x e. b.sorts c x e ∙ sym (sorts c);
  makers_there = λ c l. on (maker c) (b.makers_there c l);
  in_hand = λ c h' e. let w = hands c h' e in let i = b.in_hand c w.0 w.1 in
      (i.0 ∙ sym w.2, i.1 ∙ (sym (same w.0.maker) ∙ ap made' (sym w.2)));
  made_all = λ t k z l. b.made_all t k z (subst (λ m. k ≤ m) (same t) l);
}

module _ {B : Type 0} {hands : List (Option Hand)} {tasks : List (List (Custody B))} where
  -- each other seat's hand is as before; this one's is as it should be
  pub hands_on : {drawn drawn' : ℕ} {phase phase' : ℕ → Phase} → Hands drawn phase hands tasks
      → (id : ℕ) (o : Option Hand) (new : List (Custody B))
      → drawn ≤ drawn'
      → ((j : ℕ) (h : Hand) → j ≢ id → get_elem? hands j ≡ some (Some h) → phase' h.cell ≡ phase h.cell)
      → ((h : Hand) → o ≡ Some h → IsInHand drawn' phase' (set tasks id new) id h)
      → ((h : Hand) → o ≡ Some h → (j : ℕ) (g : Hand) → j ≢ id → get_elem? hands j ≡ some (Some g)
      → g.cell ≢ h.cell)
      → Hands drawn' phase' (set hands id o) (set tasks id new)
  hands_on {drawn' = drawn'} {phase' = phase'} r id o new few marks mine other = record {
    each = λ j h e. ⊎_elim
        (λ t. subst (λ i. IsInHand drawn' phase' (set tasks id new) i h) (sym t.0) (mine h t.1))
        (λ t. let i = r.each j h t.1 in record {
          drawn_cell = (let l = i.drawn_cell in omega arith);
          marked = marks j h t.0 t.1 ∙ i.marked;
          marked_right = i.marked_right;
          maker_held = of_seat_else (λ ks. (k : Custody B) × (held_in ks h.maker ≡ Some k) × (k.home ≡ None)) tasks id j
              new t.0 i.maker_held;
        }) (at_set hands id j o (Some h) e);
    apart = λ j k h g e q same. ⊎_elim
        (λ t. ⊎_elim (λ u. t.0 ∙ sym u.0) (λ u. absurd (other h t.1 k g u.0 u.1 (sym same)))
        (at_set hands id k o (Some g) q))
        (λ t. ⊎_elim (λ u. absurd (other g u.1 j h t.0 t.1 same)) (λ u. r.apart j k h g t.1 u.1 same)
        (at_set hands id k o (Some g) q)) (at_set hands id j o (Some h) e);
  }

module _ {B : Type 0} {cells drawn : ℕ} {hand : ℕ → Option Hand} {phase : ℕ → Phase} {slots : Slots B}
    {tasks : List (List (Custody B))} (c : Custodies cells drawn hand phase slots tasks) where
  -- a task that a seat holds is one by its sort
  pub held_sort : (j t : ℕ) → c.holder t ≡ Some j → (t < drawn) × (sort_shown (hand t) (phase t) ≡ sort.Task)
  held_sort j t e = (l, by (sort_shown (hand t) (phase t)) refl)
    where
      l : t < drawn
      l = dite (dec_le drawn t) (λ q. none_some (c.holder t) j (c.undrawn_free t q) e) (λ q. omega arith)

      by : (o : Sort) → sort_shown (hand t) (phase t) ≡ o → o ≡ sort.Task
      by sort.Task q = refl
      by sort.Promise q = none_some (c.holder t) j (c.promises_empty t l q).1 e

  -- each task is where it was, and held as before
  pub custody_on : (hand' : ℕ → Option Hand) (phase' : ℕ → Phase) (id : ℕ) (ks new : List (Custody B))
      → get_elem? tasks id ≡ some ks
      → ((t : ℕ) → t < drawn → sort_shown (hand' t) (phase' t) ≡ sort_shown (hand t) (phase t))
      → ((t : ℕ) → sort_shown (hand t) (phase t) ≡ sort.Task → phase' t ≡ phase t)
      → ((u : ℕ) → IsNoted IsAlike (held_in ks u) (held_in new u))
      → Custodies cells drawn hand' phase' slots (set tasks id new)
  custody_on hand' phase' id ks new at sorts same like = record {
    holder = c.holder;
    tasks_kept = λ t l s. let o = sym (sorts t l) ∙ s in
        subst (λ p. IsKept p (c.holder t) (home_in slots t)) (sym (same t o)) (c.tasks_kept t l o);
    promises_empty = λ t l s. c.promises_empty t l (sym (sorts t l) ∙ s);
    undrawn_empty = c.undrawn_empty;
    undrawn_free = c.undrawn_free;
    held = each_set (λ j l. (t : ℕ) (k : Custody B) → held_in l t ≡ Some k
        → IsCustody c.holder phase' (home_in slots) j t k) tasks id new
        (λ j l e t k q. moved j t k (c.held j l e t k q))
        (λ t k q. let b = noted_before IsAlike (held_in ks t) k (subst (IsNoted IsAlike (held_in ks t)) q (like t)) in
        let i = c.held id ks at t b.0 b.1 in ⊎_elim
        (λ z. subst (λ m. IsCustody c.holder phase' (home_in slots) id t m) (sym z) (moved id t b.0 i))
        (λ (z : IsStill b.0 k). record {
          mine = i.mine;
          does = same t (held_sort id t i.mine).1 ∙ (i.does ∙ sym z.phase);
          laid = λ r y. none_some k.home r z.out_now y;
          out = λ y. i.out z.out;
        }) b.2);
    holders = λ t j e. of_seat_set (λ l. (k : Custody B) × (held_in l t ≡ Some k)) tasks id j ks new at
        (λ h. let a = noted_after IsAlike h.0 (held_in new t)
        (subst (λ o. IsNoted IsAlike o (held_in new t)) h.1 (like t)) in (a.0, a.1)) (c.holders t j e);
    own_slots = c.own_slots;
  }
    where
      moved : (j t : ℕ) (k : Custody B) → IsCustody c.holder phase (home_in slots) j t k
          → IsCustody c.holder phase' (home_in slots) j t k
      moved j t k i = record {
        mine = i.mine;
        does = same t (held_sort j t i.mine).1 ∙ i.does;
        laid = i.laid;
        out = i.out;
      }
