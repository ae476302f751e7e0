-- The store of a word that is written once: what was seen of these words stands, each other one is due as before, and
-- the words of the tree are right.
use Rattle.tj_words.proofs.Prelude.{All, Bool, Due, Forks, Hand, IsCell, IsDue, IsIn, IsOfTree, List, None, OfSeat}
use Rattle.tj_words.proofs.Prelude.{Once, OnceWords, Option, Reference, SeenWord, Some, Stands, TreeWords, [], ap}
use Rattle.tj_words.proofs.Prelude.{arith, cond, dec_le, dite, eq-eqb, get_elem?, in_either, inl, inr, nat_eq, ne_eqb}
use Rattle.tj_words.proofs.Prelude.{once_at, refl, set, some, some-injective, subst, sym, tree_word, without_due, ℕ}
use Rattle.tj_words.proofs.Prelude.{ℕ_discrete, ⊎_elim, ◌++◌, ◌<◌, ◌∙◌, ◌∷◌, ◌≡◌, ◌≢◌}
use Rattle.tj_words.proofs.Stores.SeatLists.{each_else, each_set, of_seat_set}
use Rattle.tj_words.proofs.Holders.HeldTasks.{none_some, one_some}
use Rattle.tj_words.proofs.Stores.StoredWords.{put_word, put_word_else, put_word_here}
use Rattle.tj_words.proofs.Stores.TableWords.{same_cell, same_word}
use Rattle.tj_words.specs.declared.offsets.Once.TheVariants as once

-- what is due still isn't the word that was written
pub due_else : (c : ℕ) (f : Once) (ds : List Due) (d : Due) → IsIn d (without_due c f ds)
    → IsIn d ds × (once_at d.cell d.word ≢ once_at c f)
due_else c f [] d i = absurd i
due_else c f (e ∷ ds) d i = let r = due_else c f ds d in grind arith

-- and each other one is due still
pub due_still : (c : ℕ) (f : Once) (ds : List Due) (d : Due) → IsIn d ds → once_at d.cell d.word ≢ once_at c f
    → IsIn d (without_due c f ds)
due_still c f [] d i n = absurd i
due_still c f (e ∷ ds) d i n = let r = due_still c f ds d in grind arith

module _ {drawn : ℕ} {hand : ℕ → Option Hand} {hands : List (Option Hand)} {own : ℕ → Option ℕ}
    {word : ℕ → Once → ℕ} {seen : List (List SeenWord)} {dues : List (List Due)}
    (r : OnceWords drawn hand hands own word seen dues) (id c : ℕ) (f : Once) (n : ℕ) (ds : List Due)
    (at : get_elem? dues id ≡ some ds) (mine : IsDue c f ds) where
  -- to whom each word is due from now on
  abbrev due_now : ℕ → Once → Option ℕ
  due_now d g = cond (nat_eq (once_at d g) (once_at c f)) None (r.due_to d g)

  due_here : (d : ℕ) (g : Once) → once_at d g ≡ once_at c f → due_now d g ≡ None
  due_here d g e = ap (λ (b : Bool). cond b None (r.due_to d g)) (eq-eqb (once_at d g) (once_at c f) e)

  due_there : (d : ℕ) (g : Once) → once_at d g ≢ once_at c f → due_now d g ≡ r.due_to d g
  due_there d g e = ap (λ (b : Bool). cond b None (r.due_to d g)) (ne_eqb (once_at d g) (once_at c f) e)

  -- the word is due to the seat
  pub its_due : r.due_to c f ≡ Some id
  its_due = r.dues_mine id ds at (record { cell = c; word = f }) mine

  -- a word due to another seat, or to nobody, is another
  other_due : (d : ℕ) (g : Once) (o : Option ℕ) → r.due_to d g ≡ o → o ≢ Some id → once_at d g ≢ once_at c f
  other_due d g o e n q = n (sym e ∙ ((λ j. r.due_to (same_cell c d f g q j) (same_word c d f g q j)) ∙ its_due))

  -- a word that is due from now on is another
  due_other : (d j : ℕ) (g : Once) → due_now d g ≡ Some j → once_at d g ≢ once_at c f
  due_other d j g e q = none_some (due_now d g) j (due_here d g q) e

  was_due : (d j : ℕ) (g : Once) → due_now d g ≡ Some j → r.due_to d g ≡ Some j
  was_due d j g e = sym (due_there d g (due_other d j g e)) ∙ e

  -- the cell is drawn
  pub due_drawn : c < drawn
  due_drawn = dite (dec_le drawn c) (λ l. none_some (r.due_to c f) id (r.undrawn c f l).1 its_due) (λ l. omega arith)

  seen_other : (w : SeenWord) → Stands drawn word r.due_to w → once_at w.cell w.word ≢ once_at c f
  seen_other w s = other_due w.cell w.word None s.written (λ e. none_some None id refl e)

  seen_on : (w : SeenWord) → Stands drawn word r.due_to w → Stands drawn (put_word word c f n) due_now w
  seen_on w s = record {
    of_tree = s.of_tree;
    drawn_cell = s.drawn_cell;
    value = put_word_else word c f n w.cell w.word (seen_other w s) ∙ s.value;
    written = due_there w.cell w.word (seen_other w s) ∙ s.written;
  }

  -- of the seat's list of what it saw more may be of the word that was written
  pub once_stored : (ws more : List SeenWord) → get_elem? seen id ≡ some ws
      → ((w : SeenWord) → IsIn w more → IsOfTree f × (w ≡ record { cell = c; word = f; value = n }))
      → (f ≡ once.Tag → (n ≢ 0) × (¬ IsDue c once.Bits ds))
      → OnceWords drawn hand hands own (put_word word c f n) (set seen id (more ++ ws))
      (set dues id (without_due c f ds))
  once_stored ws more saw news tag = record {
    due_to = due_now;
    stands = each_set (λ j l. All (Stands drawn (put_word word c f n) due_now) l) seen id (more ++ ws)
        (λ j l e w i. seen_on w (r.stands j l e w i))
        (λ w i. ⊎_elim
        (λ (k : IsIn w more). subst (Stands drawn (put_word word c f n) due_now) (sym (news w k).1) record {
          of_tree = (news w k).0;
          drawn_cell = due_drawn;
          value = put_word_here word c f n;
          written = due_here c f refl;
        })
        (λ (k : IsIn w ws). seen_on w (r.stands id ws saw w k)) (in_either w more ws i));
    dues_mine = each_else (λ j l. All (λ (d : Due). due_now d.cell d.word ≡ Some j) l) dues id (without_due c f ds)
        (λ j l q e d i. let o = r.dues_mine j l e d i in
        due_there d.cell d.word (other_due d.cell d.word (Some j) o (λ z. q (one_some j id z))) ∙ o)
        (λ d i. let o = due_else c f ds d i in due_there d.cell d.word o.1 ∙ r.dues_mine id ds at d o.0);
    due = λ d j g e. of_seat_set (IsDue d g) dues id j ds (without_due c f ds) at
        (λ i. due_still c f ds (record { cell = d; word = g }) i (due_other d j g e)) (r.due d j g (was_due d j g e));
    may_be_due = λ d j g e. let m = r.may_be_due d j g (was_due d j g e) in record {
      tree = m.tree;
      value = m.value;
      tag_last = λ z. due_there d once.Tag (not_last d j g e z) ∙ m.tag_last z;
    };
    unwritten = λ d j g e. put_word_else word c f n d g (due_other d j g e) ∙ r.unwritten d j g (was_due d j g e);
    valued = λ d g z y. dite (ℕ_discrete (once_at d g) (once_at c f))
        (λ q. let e = same_cell c d f g q in
        subst (λ i. IsThereNone i) (sym e)
        ((r.may_be_due c id f its_due).value (subst (λ i. ¬ IsOfTree i) (same_word c d f g q) z)))
        (λ q. r.valued d g z (λ e. y (put_word_else word c f n d g q ∙ e)));
    closed = λ d t z. dite (ℕ_discrete (once_at d once.Tag) (once_at c f))
        (λ q. inl (λ e. (tag (sym (same_word c d f once.Tag q))).0
        (sym (put_word_here word c f n) ∙ ((λ j. put_word word c f n (sym (same_cell c d f once.Tag q) j)
        (sym (same_word c d f once.Tag q) j)) ∙ e))))
        (λ q. ⊎_elim
        (λ (y : word d once.Tag ≢ 0). inl (λ e. y (sym (put_word_else word c f n d once.Tag q) ∙ e)))
        (λ (y : (j : ℕ) × (r.due_to d once.Tag ≡ Some j)). inr (y.0, due_there d once.Tag q ∙ y.1)) (r.closed d t z));
    undrawn = λ d g l.
        let u = r.undrawn d g l in
        let q : once_at d g ≢ once_at c f = other_due d g None u.1 (λ e. none_some None id refl e) in
        (put_word_else word c f n d g q ∙ u.0, due_there d g q ∙ u.1);
  }
    where
      IsThereNone : ℕ → Type 0
      IsThereNone d = ((d < drawn) × (hand d ≡ None)) × (own d ≡ None)

      -- TAG is due to the seat as long as BITS is
      not_last : (d j : ℕ) (g : Once) → due_now d g ≡ Some j → ¬ IsOfTree g → once_at d once.Tag ≢ once_at c f
      not_last d j g e z q = by g z e
        where
          by : (g : Once) → ¬ IsOfTree g → due_now d g ≡ Some j → ⊥
          by once.Tag z e = due_other d j once.Tag e q
          by once.Bits z e =
              let is = same_cell c d f once.Tag q in
              let m = (r.may_be_due d j once.Bits (was_due d j once.Bits e)).tag_last z in
              let i : j ≡ id = one_some j id (sym m
              ∙ ((λ k. r.due_to (is k) (same_word c d f once.Tag q k)) ∙ its_due)) in
              let w = r.due d j once.Bits (was_due d j once.Bits e) in
              let l : w.0 ≡ ds = some-injective w.0 ds (sym w.1 ∙ (ap (get_elem? dues) i ∙ at)) in
              (tag (sym (same_word c d f once.Tag q))).1
              (subst (λ k. IsDue k once.Bits ds) is (subst (IsDue d once.Bits) l w.2))
          by once.Parent z e = z tt
          by once.Kid z e = z tt
          by once.Depth z e = z tt
          by once.Jump z e = z tt

-- the words of the tree are right after the store of one of them that is right, or of another word
pub tree_words_stored : {drawn : ℕ} {born : List Reference} {maker number : ℕ → ℕ} {forks : Forks}
    {hand : ℕ → Option Hand} {word : ℕ → Once → ℕ} {dues : List (List Due)}
    (t : TreeWords drawn born maker number forks hand word dues) (id c : ℕ) (f : Once) (n : ℕ) (ds : List Due)
    → get_elem? dues id ≡ some ds
    → (IsOfTree f → hand c ≢ None)
    → ((x : Reference) → IsCell born c x → IsOfTree f → n ≡ tree_word maker number forks x.sort c f)
    → TreeWords drawn born maker number forks hand (put_word word c f n) (set dues id (without_due c f ds))
tree_words_stored {drawn} {born} {maker} {number} {forks} {hand} {word} {dues} t id c f n ds at drawer right = record {
  written = λ d x g i e o. dite (ℕ_discrete (once_at d g) (once_at c f))
      (λ q. absurd (drawer (subst IsOfTree (same_word c d f g q) o) (ap hand (sym (same_cell c d f g q)) ∙ i.1)))
      (λ q. put_word_else word c f n d g q ∙ t.written d x g i e o);
  in_hand = λ d h x g i e o. dite (ℕ_discrete (once_at d g) (once_at c f))
      (λ q. let cell = same_cell c d f g q in let kind = same_word c d f g q in
      inr ((λ j. put_word word c f n (cell j) (kind j)) ∙ (put_word_here word c f n
      ∙ (right x (subst (λ k. IsCell born k x) cell e) (subst IsOfTree kind o)
      ∙ (λ j. tree_word maker number forks x.sort (sym cell j) (sym kind j))))))
      (λ q. ⊎_elim
      (λ (y : (j : ℕ) × OfSeat (IsDue d g) dues j). inl (
        y.0,
        of_seat_set (IsDue d g) dues id y.0 ds
            (without_due c f ds) at (λ k. due_still c f ds (record { cell = d; word = g }) k q) y.1,
      ))
      (λ (y : word d g ≡ tree_word maker number forks x.sort d g). inr (put_word_else word c f n d g q ∙ y))
      (t.in_hand d h x g i e o));
}
