-- Loads of HEAD.
use Rattle.tj_words.proofs.Prelude.{Allows, Bool, Key, Option, Program, Rec, Rule, SeatMe, Shut, State, View, [], ap}
use Rattle.tj_words.proofs.Prelude.{arith, at_map, contents_of, dite, drawn_in, get_elem?, head_at, head_in, head_load}
use Rattle.tj_words.proofs.Prelude.{inr, none, refl, shut_word, some, step, subst, word, ℕ, ℕ_discrete, ⊎_elim, ◌++◌}
use Rattle.tj_words.proofs.Prelude.{◌<◌, ◌∷◌, ◌≡◌, ◌≢◌, ◌≤◌}
use Rattle.tj_words.proofs.Lemmas.{Learns, are_cells, back, knowing_of, knows_so, load_allowed}
use Rattle.tj_words.proofs.SeatLoads.LoadSteps.{found_so}
use Rattle.tj_words.proofs.SeatLoads.KnowLoads.{all_cons, none_of, one_of, shut_is, will_have, entry_so, same_entry}
use Rattle.tj_words.proofs.Waiters.ChainFacts.{head_small, line_lacks, line_small}
use Rattle.tj_words.specs.SeatViews.Views.{found_shut, found_chain}

module _ {B : Type 0} (program : Bool → B → Program B) (key : Key B) where
  -- the load of HEAD
  pub head_allowed : (slots id : ℕ) (m : SeatMe B) (c i cells cell : ℕ) → c < key.cells → i ≡ head_at c
      → cells ≡ key.cells → cell ≡ c
      → Allows (Rule program key) slots id m i (λ n. n) (head_load program cells cell (step slots i 0 0 none) m)
  head_allowed slots id m c i cells cell l at f e =
      load_allowed program key slots id m i (head_load program cells cell (step slots i 0 0 none) m)
      (λ s r k. back (λ j. Learns program key s r m (head_load program (f j) (e j) (step slots i 0 0 none) m)
      (word s.words (at j))) (head_found s r k))
    where
      head_found : (s : State (Option (Rec B)) (View B)) (r : Rule program key s) → get_elem? s.views id ≡ some m.0
          → Learns program key s r m (head_load program key.cells c (step slots i 0 0 none) m)
          (word s.words (head_at c))
      head_found s r k = let v = m.0 in let so = knows_so program key s r id v k in let law = r.law in
          let small : word s.words (head_at c) ≤ shut_word = ⊎_elim (λ q. (omega arith))
          (λ q. let f = r.few_cells in (omega arith)) (r.codes.each c l).head in
          dite (ℕ_discrete (word s.words (head_at c)) shut_word)
          (λ q. let shut : head_in (word s.words (head_at c)) ≡ Shut = ap head_in q in
          let has = law.meaning.entries c (law.chains.tagged c shut) in (
            found_shut c law.born has.0 v,
            (refl, refl, λ y id. refl),
            entry_so r id v k c has none_of (one_of c shut),
            (
              refl,
              small,
              (λ z. record {
                born = law.born;
                entry = has.0;
                reference = has.1.written.reference;
                begins = so.begins;
                is = has.1.written.is;
                becomes = will_have r id v k c has;
                same = same_entry r id v k c has;
                all = are_cells law;
                view = refl;
              }),
              (λ n. absurd (n shut)),
            ),
          ))
          (λ q. let is_open : head_in (word s.words (head_at c)) ≢ Shut = λ z. q (shut_is _ small z) in
          let chain = law.chains.line c in let drawn = drawn_in key.cells (contents_of s) in (
            found_chain c chain v,
            (refl, refl, λ y id. refl),
            found_so (knowing_of v) (record { cell = c; chain = chain } ∷ v.found) v.rested v.told so
                (all_cons _ (record { cell = c; chain = chain }) v.found (inr ([], refl)) so.found) so.rested so.told,
            (
              refl,
              small,
              (λ z. absurd (is_open z)),
              (λ n. record {
                chain = chain;
                is = law.chains.heads c is_open;
                short = line_small law.chains key.cells drawn (omega arith) law.undrawn c;
                room = λ e j. line_lacks law.chains key.cells drawn (omega arith) law.undrawn c id e
                    (law.chains.to_push id v.pushes (at_map (λ (z : View B). z.pushes) s.views id v k) e j);
                small = head_small law.chains key.cells drawn (omega arith) law.undrawn c is_open;
                grown = λ f n z. ⊎_elim
                    (λ y. absurd (is_open (subst (λ d. head_in (word s.words (head_at d)) ≡ Shut) z y)))
                    (λ y. (y.0, subst (λ d. law.chains.line d ≡ y.0 ++ f.chain) z y.1)) (so.found f n);
                view = refl;
              }),
            ),
          ))
