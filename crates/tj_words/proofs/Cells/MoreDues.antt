-- More of the words that are written once are due to a seat: those of the tree of a cell that it draws, or TAG and BITS
-- of one that its task closes.
use Rattle.tj_words.proofs.Prelude.{All, Bool, Due, Hand, HasInHand, IsDue, IsOfTree, IsThere, List, None, OfSeat, Once}
use Rattle.tj_words.proofs.Prelude.{OnceWords, Option, SeenWord, Some, [], ap, arith, cond, dite, eq-eqb, get_elem?}
use Rattle.tj_words.proofs.Prelude.{in_either, in_left, in_right, inl, inr, once_at, refl, set, some, subst, sym, ℕ}
use Rattle.tj_words.proofs.Prelude.{ℕ_discrete, ⊎_elim, ◌++◌, ◌<◌, ◌∙◌, ◌∷◌, ◌≡◌, ◌≤◌, ◌⊎◌}
use Rattle.tj_words.specs.LawParts.OnceWords.{MayBeDue}
use Rattle.tj_words.proofs.Stores.SeatLists.{each_set, of_seat_here, of_seat_set}
use Rattle.tj_words.proofs.Holders.HeldTasks.{none_some, one_some}
use Rattle.tj_words.proofs.Stores.StoredWords.{put_word, put_word_else}
use Rattle.tj_words.proofs.Stores.TableWords.{same_cell, same_word}
use Rattle.tj_words.specs.declared.offsets.Once.TheVariants as once

-- to whom each word is due, where these are due to seat id, and each other one is due as before
abbrev pub due_more : ℕ → List Due → (ℕ → Once → Option ℕ) → ℕ → Once → Option ℕ
due_more id [] before = before
due_more id (d ∷ ds) before = put_word (due_more id ds before) d.cell d.word (Some id)

module _ (id : ℕ) (before : ℕ → Once → Option ℕ) where
  -- a word at the place of another is that one
  one_due : (c : ℕ) (f : Once) (d : Due) → once_at c f ≡ once_at d.cell d.word → record { cell = c; word = f } ≡ d
  one_due c f d q = λ k. record { cell = same_cell d.cell c d.word f q k; word = same_word d.cell c d.word f q k }

  first_due : (d : Due) (ds : List Due) (c : ℕ) (f : Once) → once_at c f ≡ once_at d.cell d.word
      → due_more id (d ∷ ds) before c f ≡ Some id
  first_due d ds c f q = ap (λ (b : Bool). cond b (Some id) (due_more id ds before c f))
      (eq-eqb (once_at c f) (once_at d.cell d.word) q)

  -- each other word is due to whom it was
  due_rest : (ds : List Due) (c : ℕ) (f : Once) → ¬ IsDue c f ds → due_more id ds before c f ≡ before c f
  due_rest [] c f n = refl
  due_rest (d ∷ ds) c f n = put_word_else (due_more id ds before) d.cell d.word (Some id) c f
      (λ q. n (inl (one_due c f d q))) ∙ due_rest ds c f (λ i. n (inr i))

  -- each of them is due to the seat
  pub due_here : (ds : List Due) (c : ℕ) (f : Once) → IsDue c f ds → due_more id ds before c f ≡ Some id
  due_here [] c f i = absurd i
  due_here (d ∷ ds) c f i = dite (ℕ_discrete (once_at c f) (once_at d.cell d.word)) (first_due d ds c f)
      (λ n. put_word_else (due_more id ds before) d.cell d.word (Some id) c f n ∙ due_here ds c f (⊎_elim
      (λ (e : record { cell = c; word = f } ≡ d). absurd (n (ap (λ (z : Due). once_at z.cell z.word) e)))
      (λ (j : IsDue c f ds). j) i))

  -- and a word that is due is one of them, or was due
  due_among : (ds : List Due) (c j : ℕ) (f : Once) → due_more id ds before c f ≡ Some j
      → ((j ≡ id) × IsDue c f ds) ⊎ (before c f ≡ Some j)
  due_among [] c j f e = inr e
  due_among (d ∷ ds) c j f e = dite (ℕ_discrete (once_at c f) (once_at d.cell d.word))
      (λ q. inl (one_some j id (sym e ∙ first_due d ds c f q), inl (one_due c f d q)))
      (λ n. ⊎_elim (λ w. inl (w.0, inr w.1)) inr
      (due_among ds c j f (sym (put_word_else (due_more id ds before) d.cell d.word (Some id) c f n) ∙ e)))

module _ {drawn drawn' : ℕ} {hand hand' : ℕ → Option Hand} {hands hands' : List (Option Hand)}
    {own own' : ℕ → Option ℕ} {word : ℕ → Once → ℕ} {seen : List (List SeenWord)} {dues : List (List Due)}
    (r : OnceWords drawn hand hands own word seen dues) (id : ℕ) (ds more : List Due)
    (at : get_elem? dues id ≡ some ds) (few : drawn ≤ drawn')
    (free : (c : ℕ) (f : Once) → IsDue c f more → (r.due_to c f ≡ None) × (word c f ≡ 0))
    (unseen : (c : ℕ) (f : Once) → IsDue c f more → IsOfTree f → c < drawn → ⊥)
    (may : (c : ℕ) (f : Once) → IsDue c f more → MayBeDue drawn' hand' hands' own' (due_more id more r.due_to) id c f)
    (on : (c : ℕ) → IsThere drawn hand c → own c ≡ None → IsThere drawn' hand' c × (own' c ≡ None))
    (drawer : (c j : ℕ) → OfSeat (HasInHand c) hands j → OfSeat (HasInHand c) hands' j)
    (back : (c : ℕ) → IsThere drawn' hand' c → own' c ≡ None
    → (IsThere drawn hand c × (own c ≡ None)) ⊎ IsDue c once.Tag more)
    (beyond : (c : ℕ) (f : Once) → drawn' ≤ c → ¬ IsDue c f more) where
  still : (c j : ℕ) (f : Once) → r.due_to c f ≡ Some j → due_more id more r.due_to c f ≡ Some j
  still c j f e = due_rest id r.due_to more c f (λ i. none_some (r.due_to c f) j (free c f i).0 e) ∙ e

  -- where more are due that were due to nobody and aren't written yet, these words are right
  pub once_more : OnceWords drawn' hand' hands' own' word seen (set dues id (more ++ ds))
  once_more = record {
    due_to = due_more id more r.due_to;
    stands = λ j l e w i. let s = r.stands j l e w i in record {
      of_tree = s.of_tree;
      drawn_cell = (let a = s.drawn_cell in omega arith);
      value = s.value;
      written = due_rest id r.due_to more w.cell w.word (λ k. unseen w.cell w.word k s.of_tree s.drawn_cell)
          ∙ s.written;
    };
    dues_mine = each_set (λ j l. All (λ (d : Due). due_more id more r.due_to d.cell d.word ≡ Some j) l) dues id
        (more ++ ds) (λ j l e d i. still d.cell j d.word (r.dues_mine j l e d i))
        (λ d i. ⊎_elim (due_here id r.due_to more d.cell d.word)
        (λ k. still d.cell id d.word (r.dues_mine id ds at d k)) (in_either d more ds i));
    due = λ c j f e. ⊎_elim
        (λ w. subst (OfSeat (IsDue c f) (set dues id (more ++ ds))) (sym w.0)
        (of_seat_here (IsDue c f) dues id ds (more ++ ds) at (in_left (record { cell = c; word = f }) more ds w.1)))
        (λ w. of_seat_set (IsDue c f) dues id j ds (more ++ ds) at
        (in_right (record { cell = c; word = f }) more ds) (r.due c j f w)) (due_among id r.due_to more c j f e);
    may_be_due = λ c j f e. ⊎_elim
        (λ w. subst (λ k. MayBeDue drawn' hand' hands' own' (due_more id more r.due_to) k c f) (sym w.0) (may c f w.1))
        (λ w. let m = r.may_be_due c j f w in record {
          tree = λ i. drawer c j (m.tree i);
          value = λ i. let v = m.value i in on c v.0 v.1;
          tag_last = λ i. still c j once.Tag (m.tag_last i);
        }) (due_among id r.due_to more c j f e);
    unwritten = λ c j f e. ⊎_elim (λ w. (free c f w.1).1) (r.unwritten c j f) (due_among id r.due_to more c j f e);
    valued = λ c f z y. let v = r.valued c f z y in on c v.0 v.1;
    closed = λ c t e. ⊎_elim
        (λ w. ⊎_elim inl (λ q. inr (q.0, still c q.0 once.Tag q.1)) (r.closed c w.0 w.1))
        (λ w. inr (id, due_here id r.due_to more c once.Tag w)) (back c t e);
    undrawn = λ c f l. let u = r.undrawn c f (omega arith) in
        (u.0, due_rest id r.due_to more c f (beyond c f l) ∙ u.1);
  }
