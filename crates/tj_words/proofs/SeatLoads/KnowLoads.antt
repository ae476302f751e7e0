-- Loads of HEAD, of NEXT and of words that are written once.
use Rattle.tj_words.proofs.Prelude.{About, All, Allows, AreLinked, Becomes, Begins, BitsSay, Bool, Contents, Entry}
use Rattle.tj_words.proofs.Prelude.{Filled, FindsWord, Hand, HasInHand, HasTask, IsCell, IsFilled, IsIn, IsNamedThere}
use Rattle.tj_words.proofs.Prelude.{IsOfTree, IsTaskIn, IsThere, Key, Law, List, MayReadTree, Node, None, OfSeat, Once}
use Rattle.tj_words.proofs.Prelude.{Option, Program, Rec, Reference, Rule, SeatMe, SeenWord, SeesOnce, ShowsNode, Shut}
use Rattle.tj_words.proofs.Prelude.{Some, Sort, Stands, State, Task, View, [], ap, arith, at_map, begins_self, bits_in}
use Rattle.tj_words.proofs.Prelude.{cond, contents_of, dite, drawn_in, entries_are_one, get_elem?, hand_in, hand_of}
use Rattle.tj_words.proofs.Prelude.{head_in, head_of, inl, inr, length, nat_eq, ne_eqb, next_at, next_load, node_of}
use Rattle.tj_words.proofs.Prelude.{none, noted_step, once_at, parent_word, refl, seen_word, shut_word, some}
use Rattle.tj_words.proofs.Prelude.{some-injective, step, subst, suc, sym, tag_in, tag_of, tree_word, word, zero, ℕ}
use Rattle.tj_words.proofs.Prelude.{ℕ_discrete, ⊎_elim, ◌*◌, ◌++◌, ◌+◌, ◌-◌, ◌<◌, ◌^◌, ◌∙◌, ◌∷◌, ◌≡◌, ◌≢◌, ◌≤◌}
use Rattle.tj_words.proofs.Lemmas.{Learns, are_cells, back, hand_finds, knows_so, load_allowed, none_some, none_unless}
use Rattle.tj_tree.specs.Laws.{LinksLeadToTasks}
use Rattle.tj_base.specs.ForkOrder.{child}
use Rattle.tj_words.specs.SeatViews.SeenWords.{LeadsTo, SeesNames, SeesTree, MayRead, WillHave, bits_cells, once_load}
use Rattle.tj_words.proofs.SeatLoads.Learning.{IsSo, Knowing, knowing_of}
use Rattle.tj_words.proofs.Seating.Merging.{all_append, begins_at}
use Rattle.tj_words.specs.SeatViews.Views.{saw_word, loaded_once, saw_entry, saw_bits}
use Rattle.tj_base.specs.declared.cell.Sort.TheVariants as sort
use Rattle.tj_words.specs.declared.offsets.Once.TheVariants as once
use Rattle.tj_words.specs.declared.view.Noted.TheVariants as note
pub use Rattle.tj_words.proofs.Stores.SeatLists.{all_cons}

-- a word that is written once lies within the words of its cell
pub once_within : (c cells : ℕ) (f : Once) → c < cells → once_at c f < 4 + 10 * cells
once_within c cells f l = grind arith

-- a list of which each is so: of none, and of one
abbrev pub AllOf : {A : Type 0} → (A → Type 0) → Type 0
AllOf {A} F = (l : List A) × All F l

abbrev pub none_of : {A : Type 0} {F : A → Type 0} → AllOf F
none_of = ([], λ y i. absurd i)

abbrev pub one_of : {A : Type 0} {F : A → Type 0} (x : A) → F x → AllOf F
one_of {A} {F} x h = (x ∷ [], all_cons F x [] h (λ y i. absurd i))

-- a list has an element at each index below its length
pub at_index : {A : Type 0} (l : List A) (i : ℕ) → i < length l → (x : A) × (get_elem? l i ≡ some x)
at_index [] i h = absurd (omega arith)
at_index (x ∷ xs) zero h = (x, refl)
at_index (x ∷ xs) (suc i) h = at_index xs i (omega arith)

-- a word of a head that names a task, and of one that is shut
pub task_in : (n : ℕ) → n ≢ 0 → n ≢ shut_word → head_in n ≡ Task (record { 0 = n - 1 })
task_in n z s = rw (ne_eqb n 0 z, ne_eqb n shut_word s) refl

pub shut_is : (n : ℕ) → n ≤ shut_word → head_in n ≡ Shut → n ≡ shut_word
shut_is n h e = grind arith

-- a cell that some seat has in hand is in hand
pub hand_not : (hands : List (Option Hand)) (c j : ℕ) → hand_in hands c ≡ None → ¬ OfSeat (HasInHand c) hands j
hand_not hands c j e h = let f = hand_finds hands j h.2.0 (h.1 ∙ ap some h.2.1) in
    none_some (hand_in hands c) f.0 e (ap (hand_in hands) (sym h.2.2) ∙ f.1)

module _ {B : Type 0} (program : Program B) (cells : ℕ) (x : Contents B) (law : Law program cells x) where
  -- the cell is there
  abbrev There : ℕ → Type 0
  There = IsThere (drawn_in cells x) (hand_of x)

  -- the word of the tree that a cell of this sort has
  abbrev right_word : Sort → ℕ → Once → ℕ
  right_word k c f = tree_word law.maker law.number law.forks k c f

  -- the root is a cell that is there
  pub root_there : There 0
  root_there = subst There law.births.root_maker (law.births.makers_there 0 law.facts.makers.root_there)

  -- a word of the tree that was seen is the right one
  pub seen_right : (w : SeenWord) → Stands (drawn_in cells x) x.words.once law.once_words.due_to w
      → (r : Reference) → IsCell law.born w.cell r
      → w.value ≡ right_word r.sort w.cell w.word
  seen_right w s r is = sym s.value ∙ by (hand_of x w.cell) refl where
    by : (h : Option Hand) → hand_of x w.cell ≡ h → x.words.once w.cell w.word ≡ right_word r.sort w.cell w.word
    by None e = law.tree_words.written w.cell r w.word (s.drawn_cell, e) is s.of_tree
    by (Some h) e = ⊎_elim
        (λ d. let q = law.once_words.dues_mine d.0 d.1.0 d.1.1 (record { cell = w.cell; word = w.word }) d.1.2 in
        let z : None ≡ Some d.0 = sym s.written ∙ q in cc)
        (λ q. q) (law.tree_words.in_hand w.cell h r w.word e is s.of_tree)

  -- what each drawn cell is
  pub born_at : (c : ℕ) → c < drawn_in cells x → (r : Reference) × IsCell law.born c r
  born_at c l = at_index law.born c (let e = law.births.all in omega arith)

  -- PARENT stands one higher than the maker, but for the root's
  pub parent_is : (c n : ℕ) → n ≡ parent_word c (law.maker c) → n - 1 ≡ law.maker c
  parent_is zero n e = let m = law.births.root_maker in omega arith
  parent_is (suc c) n e = let z : n ≡ suc (law.maker (suc c)) = e in omega arith

  -- a cell named by a JUMP that was seen is there
  jump_there : (c d : ℕ) (r : Reference) → IsCell law.born d r → right_word r.sort d once.Jump ≡ suc c → There c
  jump_there c d r is e = by r.sort refl e where
    by : (k : Sort) → r.sort ≡ k → right_word k d once.Jump ≡ suc c → There c
    by sort.Promise k q = absurd (let z : 0 ≡ suc c = q in omega arith)
    by sort.Task k q = let z : suc (node_of law.forks d).jump.0 ≡ suc c = q in
        subst There (let y : (node_of law.forks d).jump.0 ≡ c = omega arith in y)
        (law.tree.jumps_there d ((law.tree.tasks d).1 (r, is, k)))

  -- a cell whose words of the tree may be read is there
  readable : (v : View B) → IsSo program cells x law (knowing_of v) → (c : ℕ) → MayReadTree c v → There c
  readable v so c (inl e) = subst There (sym e) root_there
  readable v so c (inr (inl i)) = so.known c i
  readable v so c (inr (inr n)) = let w = n.0 in let s = so.seen w n.1 in let b = born_at w.cell s.drawn_cell in
      let right = sym n.2.1 ∙ seen_right w s b.0 b.1 in ⊎_elim
      (λ (p : w.word ≡ once.Parent).
      let e = parent_is w.cell (suc c) (right ∙ ap (right_word b.0.sort w.cell) p) in
      subst There (let y : law.maker w.cell ≡ c = omega arith in y) (law.births.makers_there w.cell s.drawn_cell))
      (λ (p : w.word ≡ once.Jump). jump_there c w.cell b.0 b.1 (sym (right ∙ ap (right_word b.0.sort w.cell) p)))
      n.2.0

  -- nobody is to write a word of the tree of a cell that is there
  tree_written : (c : ℕ) (f : Once) → There c → IsOfTree f → law.once_words.due_to c f ≡ None
  tree_written c f t o = none_unless (law.once_words.due_to c f)
      (λ j e. hand_not x.seats.hands c j t.1 ((law.once_words.may_be_due c j f e).tree o))

  -- the nodes that a seat has seen are those of the tree
  abbrev pub sees_tree : (seen : List SeenWord) (born : List Reference)
      → All (Stands (drawn_in cells x) x.words.once law.once_words.due_to) seen → Begins born law.born
      → SeesTree seen born
  sees_tree seen born stands begins = record {
    forks = law.forks;
    history = law.tree.history;
    nodes = node_is;
    tasks = λ c r is k. let b = begins_at born law.born begins c r is in
        ((law.tree.tasks c).1 (r, b, k), law.tree.names c r b k);
    depths = law.tree.depths;
  }
    where
      right : (n : ℕ) (f : Once) (y : ℕ) (r : Reference) → IsIn (seen_word n f y) seen → IsCell law.born n r
          → y ≡ right_word r.sort n f
      right n f y r i is = seen_right (seen_word n f y) (stands (seen_word n f y) i) r is

      task_is : (n jump : ℕ) (k : Sort) → suc jump ≡ right_word k n once.Jump → k ≡ sort.Task
      task_is n jump sort.Task q = refl
      task_is n jump sort.Promise q = absurd (let z : suc jump ≡ 0 = q in omega arith)

      node_is : (n : ℕ) (node : Node) → ShowsNode seen n node → HasTask law.forks n × (node_of law.forks n ≡ node)
      node_is n node s = let b = born_at n (stands _ s.kid).drawn_cell in
          let k = task_is n node.jump.0 b.0.sort (right n once.Jump (suc node.jump.0) b.0 s.jump b.1) in
          let at : (f : Once) (y : ℕ) → IsIn (seen_word n f y) seen → y ≡ right_word sort.Task n f
          = λ f y i. subst (λ z. y ≡ right_word z n f) k (right n f y b.0 i b.1) in
          let has = (law.tree.tasks n).1 (b.0, b.1, k) in
          let p : (node_of law.forks n).parent.0 ≡ node.parent.0
          = law.tree.parents n has ∙ sym (s.parent_is ∙ parent_is n s.parent (at once.Parent s.parent s.parent_seen)) in
          let d : (node_of law.forks n).kid ≡ node.kid = law.tree.kids n has ∙ sym (at once.Kid node.kid s.kid) in
          let j : suc node.jump.0 ≡ suc (node_of law.forks n).jump.0 = at once.Jump (suc node.jump.0) s.jump in
          let h : (node_of law.forks n).jump.0 ≡ node.jump.0 = omega arith in
          let e = at once.Depth node.depth s.depth in
          (has, λ i. record { parent = record { 0 = p i }; kid = d i; depth = sym e i; jump = record { 0 = h i } })

  -- PARENT and KID that a seat has seen tell names
  abbrev pub sees_names : (seen : List SeenWord)
      → All (Stands (drawn_in cells x) x.words.once law.once_words.due_to) seen → SeesNames seen law.born
  sees_names seen stands = record {
    root = law.births.root;
    named = λ c p k r n parent kid is.
        let m = parent_is c p (seen_right (seen_word c once.Parent p) (stands _ parent) r is) in
        let b = law.births.named c r is n in (
          b.0,
          subst (λ d. IsCell law.born d b.0) (sym m) b.1,
          b.2 ∙ ap (child b.0.name) (sym (seen_right (seen_word c once.Kid k) (stands _ kid) r is)),
        );
  }

  -- PARENT and JUMP of a task lead to tasks
  leads_to : LinksLeadToTasks → (c : ℕ) (f : Once) (n : ℕ) → IsTaskIn law.born c → n ≡ right_word sort.Task c f
      → LeadsTo f n law.born
  leads_to links c once.Parent n is e = let has = (law.tree.tasks c).1 is in
      subst (IsTaskIn law.born) (law.tree.parents c has ∙ sym (parent_is c n e))
      ((law.tree.tasks (node_of law.forks c).parent.0).0 (links law.forks c law.tree.history has).0)
  leads_to links c once.Jump n is e = let has = (law.tree.tasks c).1 is in
      let z : n ≡ suc (node_of law.forks c).jump.0 = e in (
        omega arith,
        subst (IsTaskIn law.born) (let y : (node_of law.forks c).jump.0 ≡ n - 1 = omega arith in y)
            ((law.tree.tasks (node_of law.forks c).jump.0).0 (links law.forks c law.tree.history has).1),
      )
  leads_to links c f n is e = tt

-- the cells that BITS names, by TAG
abbrev pub cells_of_tag : ℕ → ℕ → List ℕ
cells_of_tag t n = cond (nat_eq t 2) (n ∷ []) (cond (nat_eq t 3) (n ∷ []) [])

pub cells_by : (e : Entry) (n : ℕ) → bits_cells e n ≡ cells_of_tag (tag_of e) n
cells_by e n = grind arith

-- TAG of an entry isn't 0
pub tag_some : (e : Entry) → tag_of e ≢ 0
tag_some e z = grind arith

-- what BITS names of an entry is there
pub named_there : (drawn : ℕ) (hand : ℕ → Option Hand) (e : Entry) (n : ℕ) → IsNamedThere drawn hand e n
    → All (IsThere drawn hand) (bits_cells e n)
named_there drawn hand e n h d j = grind arith

module _ {B : Type 0} {program : Program B} {cells : ℕ} {x : Contents B} (law : Law program cells x) where
  -- what BITS names by TAG is there
  bits_there : (c : ℕ) → All (IsThere (drawn_in cells x) (hand_of x)) (cells_of_tag (tag_in x c) (bits_in x c))
  bits_there c = dite (ℕ_discrete (tag_in x c) 0)
      (λ z d j. absurd (subst (λ t. IsIn d (cells_of_tag t (bits_in x c))) z j))
      (λ z. let has = law.meaning.entries c z in
      subst (All (IsThere (drawn_in cells x) (hand_of x)))
      (cells_by has.0 (bits_in x c) ∙ ap (λ t. cells_of_tag t (bits_in x c)) (sym has.1.tag_is))
      (named_there (drawn_in cells x) (hand_of x) has.0 (bits_in x c) has.1.written.named_there))

  -- this has become of the cell, and nothing else
  abbrev pub HasBecome : ℕ → Entry → Type 0
  HasBecome c e = IsFilled program (drawn_in cells x) (hand_of x) law.born (tag_in x) (bits_in x) c e

  one_become : (c : ℕ) (d e : Entry) → HasBecome c d → HasBecome c e → d ≡ e
  one_become c d e a b = let h = a.written in let k = b.written in
      (entries_are_one program k.reference.name d e
      (subst (λ (y : Reference). Becomes program y.name d)
      (some-injective h.reference k.reference (sym h.is ∙ k.is)) h.becomes) k.becomes).0

  -- what a seat knows once it has seen all cells, and has learned this
  abbrev pub learned : Knowing → List ℕ → List Filled → List SeenWord → List ℕ → Knowing
  learned k known filled seen closed = record k {
    born = law.born;
    known = known ++ k.known;
    filled = filled ++ k.filled;
    seen = seen ++ k.seen;
    closed = closed ++ k.closed;
  }

  pub learned_so : (k : Knowing) → IsSo program cells x law k → (known : AllOf (IsThere (drawn_in cells x) (hand_of x)))
      (filled : AllOf (λ (f : Filled). HasBecome f.cell f.entry))
      (seen : AllOf (Stands (drawn_in cells x) x.words.once law.once_words.due_to))
      (closed : AllOf (λ p. x.words.head p ≡ Shut))
      → IsSo program cells x law (learned k known.0 filled.0 seen.0 closed.0)
  learned_so k so known filled seen closed = record {
    known = all_append _ known.0 k.known known.1 so.known;
    begins = begins_self law.born;
    known_born = all_append (λ c. (r : Reference) × IsCell law.born c r) known.0 k.known
        (λ c i. born_at program cells x law c (known.1 c i).0)
        (λ c i. let b = so.known_born c i in (b.0, begins_at k.born law.born so.begins c b.0 b.1));
    wrote = so.wrote;
    filled = all_append _ filled.0 k.filled filled.1 so.filled;
    seen = all_append _ seen.0 k.seen seen.1 so.seen;
    closed = all_append _ closed.0 k.closed closed.1 so.closed;
    found = so.found;
    rested = so.rested;
    told = so.told;
  }

module _ {B : Type 0} {program : Bool → B → Program B} {key : Key B} {s : State (Option (Rec B)) (View B)}
    (r : Rule program key s) (id : ℕ) (v : View B) (at : get_elem? s.views id ≡ some v) where
  -- what the seat knows is so
  pub so_now : IsSo (program key.strict key.root.value) key.cells (contents_of s) r.law (knowing_of v)
  so_now = knows_so program key s r id v at

  -- what has become of a cell of which the seat knows something: that, and it knows this from now on
  module _ (c : ℕ) (has : (e : Entry) × HasBecome r.law c e) where
    pub same_entry : All (λ (f : Filled). f.cell ≡ c → f.entry ≡ has.0) v.filled
    same_entry f j q = one_become r.law c f.entry has.0
        (subst (λ d. HasBecome r.law d f.entry) q (so_now.filled f j)) has.1

    pub will_have : WillHave program v has.1.written.reference.name has.0
    will_have a e = subst (λ (y : About B). Becomes (program y.strict y.root) has.1.written.reference.name has.0)
        (sym ((r.seats id v at).about a e)) has.1.written.becomes

    pub entry_so : (known : AllOf (IsThere (drawn_in key.cells (contents_of s)) (hand_of (contents_of s))))
        (closed : AllOf (λ p. (contents_of s).words.head p ≡ Shut))
        → IsSo (program key.strict key.root.value) key.cells (contents_of s) r.law
        (learned r.law (knowing_of v) known.0 (record { cell = c; entry = has.0 } ∷ []) [] closed.0)
    entry_so known closed = learned_so r.law (knowing_of v) so_now known
        (one_of (record { cell = c; entry = has.0 }) has.1) none_of closed

-- the load of a word of cell c that is written once
module _ {B : Type 0} {program : Bool → B → Program B} {key : Key B} {s : State (Option (Rec B)) (View B)}
    (r : Rule program key s) (id : ℕ) (m : SeatMe B) (at : get_elem? s.views id ≡ some m.0) (c : ℕ) where
  abbrev v : View B
  v = m.0

  abbrev P : Program B
  P = program key.strict key.root.value

  -- the seat learns by the load of this word
  abbrev pub Finds : Once → Type 0
  Finds f = Learns program key s r m (λ n m'. (m'.1 ≡ m.1) × SeesOnce program key.cells f c n m.0 m'.0)
      (word s.words (once_at c f))

  tree : LinksLeadToTasks → (f : Once) → IsOfTree f → MayReadTree c v → word s.words (once_at c f) < 2 ^ 32
      → Learns program key s r m (λ n m'. (m'.1 ≡ m.1) × FindsWord key.cells f c n m.0 m'.0)
      (word s.words (once_at c f))
  tree links f o may small = let so = so_now r id v at in let law = r.law in
      let there = readable P key.cells (contents_of s) law v so c may in
      let w : SeenWord = seen_word c f (word s.words (once_at c f)) in
      let now = learned_so law (knowing_of v) so none_of none_of (one_of w (record {
        of_tree = o;
        drawn_cell = there.0;
        value = refl;
        written = tree_written P key.cells (contents_of s) law c f there o;
      })) none_of in (
        saw_word c f (word s.words (once_at c f)) law.born v,
        (refl, refl, λ y id. refl),
        now,
        (
          refl,
          record {
            born = law.born;
            begins = so.begins;
            small = small;
            view = refl;
            tree = sees_tree P key.cells (contents_of s) law (w ∷ v.seen) law.born now.seen now.begins;
            names = sees_names P key.cells (contents_of s) law (w ∷ v.seen) now.seen;
            all = are_cells law;
            leads = λ is. let b = begins_at v.born law.born so.begins c is.0 is.1 in
                leads_to P key.cells (contents_of s) law links c f (word s.words (once_at c f)) (is.0, b, is.2)
                (subst (λ z. word s.words (once_at c f) ≡ tree_word law.maker law.number law.forks z c f) is.2
                (law.tree_words.written c is.0 f there b o));
          },
        ),
      )

  tag : Finds once.Tag
  tag = let so = so_now r id v at in let law = r.law in
      dite (ℕ_discrete (word s.words (once_at c once.Tag)) 0)
      (λ z. (
        loaded_once v,
        (refl, refl, λ y id. refl),
        so,
        (
          refl,
          (
            (λ n. record {
              unknown = λ y j q. tag_some y.entry
                  (sym (subst (λ d. HasBecome law d y.entry) q (so.filled y j)).tag_is ∙ z);
              view = refl;
            }),
            (λ n. absurd (n z)),
          ),
        ),
      ))
      (λ z. let has = law.meaning.entries c z in (
        saw_entry c has.0 law.born v,
        (refl, refl, λ y id. refl),
        entry_so r id v at c has (one_of c (law.once_words.valued c once.Tag (λ a. a) z).0) none_of,
        (
          refl,
          (
            (λ n. absurd (z n)),
            (λ n. (
              record {
                entry = has.0;
                born = law.born;
                reference = has.1.written.reference;
                begins = so.begins;
                is = has.1.written.is;
                becomes = will_have r id v at c has;
                same = same_entry r id v at c has;
                all = are_cells law;
                view = refl;
              },
              has.1.tag_is,
            )),
          ),
        ),
      ))

  -- the cells that BITS names, by TAG
  abbrev named : AllOf (IsThere (drawn_in key.cells (contents_of s)) (hand_of (contents_of s)))
  named = (
    cells_of_tag (word s.words (once_at c once.Tag)) (word s.words (once_at c once.Bits)),
    bits_there r.law c,
  )

  named_by : (y : Entry) → word s.words (once_at c once.Tag) ≡ tag_of y
      → named.0 ≡ bits_cells y (word s.words (once_at c once.Bits))
  named_by y q = ap (λ z. cells_of_tag z (word s.words (once_at c once.Bits))) q
      ∙ sym (cells_by y (word s.words (once_at c once.Bits)))

  bits : Finds once.Bits
  bits = let so = so_now r id v at in let law = r.law in (
    saw_bits named.0 law.born v,
    (refl, refl, λ y id. refl),
    learned_so law (knowing_of v) so named none_of none_of none_of,
    (
      refl,
      record {
        born = law.born;
        named = named.0;
        begins = so.begins;
        all = are_cells law;
        says = λ y j q. let h = so.filled y j in (
          subst (λ d. BitsSay law.born y.entry (word s.words (once_at d once.Bits))) q h.written.bits_say,
          named_by y.entry (subst (λ d. word s.words (once_at d once.Tag) ≡ tag_of y.entry) q h.tag_is),
        );
        view = refl;
      },
    ),
  )

  pub finds : LinksLeadToTasks → c < key.cells → (f : Once) → MayRead f c v → Finds f
  finds links l once.Tag may = tag
  finds links l once.Bits may = bits
  finds links l once.Parent may = tree links once.Parent tt may
      (let p = (r.codes.each c l).parent in let f = r.few_cells in omega arith)
  finds links l once.Kid may = tree links once.Kid tt may (r.codes.each c l).kid
  finds links l once.Depth may = tree links once.Depth tt may
      (let p = (r.codes.each c l).depth in let f = r.few_cells in omega arith)
  finds links l once.Jump may = tree links once.Jump tt may
      (let p = (r.codes.each c l).jump in let f = r.few_cells in omega arith)

module _ {B : Type 0} (program : Bool → B → Program B) (key : Key B) where
  -- the load of NEXT
  pub next_allowed : (slots id : ℕ) (m : SeatMe B) (t i cells task : ℕ) → t < key.cells → i ≡ next_at t
      → cells ≡ key.cells → task ≡ t
      → Allows (Rule program key) slots id m i (λ n. n) (next_load cells task (step slots i 0 0 none) m)
  next_allowed slots id m t i cells task l at e f = load_allowed program key slots id m i
      (next_load cells task (step slots i 0 0 none) m) (λ s r k. (
        noted_step (note.Next task) (word s.words i) m.0,
        (refl, refl, λ y id. refl),
        knows_so program key s r id m.0 k,
        (
          refl,
          refl,
          subst (λ n. word s.words i ≤ n) (sym e) (subst (λ j. word s.words j ≤ key.cells) (sym at)
              (r.codes.each t l).next),
          (λ rest ts q z. subst (λ j. head_in (word s.words j) ≡ head_of ts) (sym at)
              (let o = r.law.chains.rest id m.0.rest (at_map (λ (u : View B). u.rest) s.views id m.0 k) rest q in
              (subst (AreLinked (λ c. head_in (word s.words (next_at c)))) (o.left ∙ (z ∙ ap (λ y. y ∷ ts) f))
              (r.law.chains.linked rest.cell)).0)),
          at ∙ ap next_at (sym f),
        ),
      ))

  -- the load of a word that is written once
  pub once_allowed : LinksLeadToTasks → (slots id : ℕ) (m : SeatMe B) (c i : ℕ) (f : Once) (size cell : ℕ)
      (named : Once)
      → c < key.cells
      → i ≡ once_at c f → size ≡ key.cells → cell ≡ c → named ≡ f → MayRead f c m.0
      → Allows (Rule program key) slots id m i (λ n. n) (once_load program size named cell (step slots i 0 0 none) m)
  once_allowed links slots id m c i f size cell named l at z e g may = load_allowed program key slots id m i
      (once_load program size named cell (step slots i 0 0 none) m)
      (λ s r k. back (λ j. Learns program key s r m (once_load program (z j) (g j) (e j) (step slots i 0 0 none) m)
      (word s.words (at j))) (finds r id m k c links l f may))
