-- What the words say after a store of one of them.
use Rattle.tj_words.proofs.Prelude.{Bool, List, Once, WordsSay, ap, cond, dite, eq-eqb, head_in, length, nat_eq, ne_eqb}
use Rattle.tj_words.proofs.Prelude.{once_at, others_at, owner_in, phase_in, refl, set, sym, word, words_say, ℕ}
use Rattle.tj_words.proofs.Prelude.{ℕ_discrete, ◌<◌, ◌∙◌, ◌≡◌, ◌≢◌}
use Rattle.tj_words.proofs.Stores.SeatLists.{word_else, word_here}
use Rattle.tj_words.proofs.Stores.TableWords.{TableWord, Count, Live, Others, Stop, Own, Phase, Written, Head, Next}
use Rattle.tj_words.proofs.Stores.TableWords.{index, is_word, is_word_here, is_word_else, same_cell, same_word}

-- what is so of each word that is written once, where it becomes a of one
abbrev pub put_word : {A : Type 0} → (ℕ → Once → A) → ℕ → Once → A → ℕ → Once → A
put_word words c f a d g = cond (nat_eq (once_at d g) (once_at c f)) a (words d g)

module _ {A : Type 0} (words : ℕ → Once → A) (c : ℕ) (f : Once) (a : A) where
  pub put_word_here : put_word words c f a c f ≡ a
  put_word_here = ap (λ (b : Bool). cond b a (words c f)) (eq-eqb (once_at c f) (once_at c f) refl)

  pub put_word_else : (d : ℕ) (g : Once) → once_at d g ≢ once_at c f → put_word words c f a d g ≡ words d g
  put_word_else d g e = ap (λ (b : Bool). cond b a (words d g)) (ne_eqb (once_at d g) (once_at c f) e)

  -- of another cell, and another word
  pub put_word_cell : (d : ℕ) (g : Once) → d ≢ c → put_word words c f a d g ≡ words d g
  put_word_cell d g e = put_word_else d g (λ q. e (same_cell c d f g q))

  pub put_word_word : (d : ℕ) (g : Once) → g ≢ f → put_word words c f a d g ≡ words d g
  put_word_word d g e = put_word_else d g (λ q. e (same_word c d f g q))

-- what the words say once the word w of them is n
abbrev pub said : WordsSay → TableWord → ℕ → WordsSay
said words w n = record {
  count = cond (is_word Count w) n words.count;
  live = cond (is_word Live w) n words.live;
  others = cond (is_word Others w) n words.others;
  stop = cond (is_word Stop w) n words.stop;
  own = λ c. cond (is_word (Own c) w) (owner_in n) (words.own c);
  phase = λ c. cond (is_word (Phase c) w) (phase_in n) (words.phase c);
  once = λ c f. cond (is_word (Written c f) w) n (words.once c f);
  head = λ c. cond (is_word (Head c) w) (head_in n) (words.head c);
  next = λ c. cond (is_word (Next c) w) (head_in n) (words.next c);
}

module _ (ws : List ℕ) (n : ℕ) where
  -- what is read of a word x after the store of w
  read_store : {A : Type 0} (read : ℕ → A) (w x : TableWord) → index w < length ws
      → read (word (set ws (index w) n) (index x)) ≡ cond (is_word x w) (read n) (read (word ws (index x)))
  read_store read w x l = dite (ℕ_discrete (index x) (index w))
      (λ e. ap read (ap (λ k. word (set ws (index w) n) k) e ∙ word_here ws (index w) n l)
      ∙ sym (ap (λ (b : Bool). cond b (read n) (read (word ws (index x)))) (is_word_here w x e)))
      (λ e. ap read (word_else ws (index w) (index x) n e)
      ∙ sym (ap (λ (b : Bool). cond b (read n) (read (word ws (index x)))) (is_word_else w x e)))

  pub say : (w : TableWord) → index w < length ws → words_say (set ws (index w) n) ≡ said (words_say ws) w n
  say w l j = record {
    count = read_store (λ k. k) w Count l j;
    live = read_store (λ k. k) w Live l j;
    others = read_store (λ k. k) w Others l j;
    stop = read_store (λ k. k) w Stop l j;
    own = λ c. read_store owner_in w (Own c) l j;
    phase = λ c. read_store phase_in w (Phase c) l j;
    once = λ c f. read_store (λ k. k) w (Written c f) l j;
    head = λ c. read_store head_in w (Head c) l j;
    next = λ c. read_store head_in w (Next c) l j;
  }

  -- a store of OTHERS
  pub say_others : others_at < length ws → words_say (set ws others_at n) ≡ record (words_say ws) { others = n }
  say_others l = say Others l
