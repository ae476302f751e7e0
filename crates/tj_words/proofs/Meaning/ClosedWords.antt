-- What the words of a cell are read as once they are closed.
use Rattle.tj_words.proofs.Prelude.{CellId, IsPhaseWord, List, None, Option, Phase, Walk, Way, [], ap, arith, at_longer}
use Rattle.tj_words.proofs.Prelude.{cell, dite, get_elem?, get_or, length, maker_in, owner_in, phase_in, phase_word}
use Rattle.tj_words.proofs.Prelude.{refl, some, some-injective, some-ne-none, subst, suc, sym, task_in, word, zero, ℕ}
use Rattle.tj_words.proofs.Prelude.{ℕ_discrete, ◌*◌, ◌++◌, ◌+◌, ◌-◌, ◌/◌, ◌<◌, ◌↔◌, ◌∙◌, ◌∷◌, ◌≡◌, ◌≤◌}
use Rattle.std.specs.Option.{option_map}
use Rattle.tj_words.specs.Words.Owners.{owner_number}
use Rattle.tj_words.specs.Words.Phases.{wait_code}
use Rattle.atomic_table.proofs.Lists.{at_last}
use Rattle.tj_words.specs.declared.phase.Phase.TheVariants as phase

-- what stands at an index
pub read_or : {A : Type 0} (l : List A) (i : ℕ) (a d : A) → get_elem? l i ≡ some a → get_or l i d ≡ a
read_or [] i a d e = absurd (some-ne-none a (sym e))
read_or (x ∷ xs) zero a d e = some-injective x a e
read_or (x ∷ xs) (suc i) a d e = read_or xs i a d e

-- an owner read from OWN
pub owner_is : (o : Option CellId) (w : ℕ) → owner_number o ≡ owner_in w → o ≡ task_in w
owner_is o w e = grind arith

-- a maker read from PARENT
pub maker_is : (w : ℕ) (c : CellId) → c.0 ≡ w - 1 → c ≡ maker_in w
maker_is zero c e = ap cell e
maker_is (suc w) c e = let q : c.0 ≡ w = omega (arith, e) in ap cell q

wait_code_small : (y : Way) (w : Walk) → wait_code y w ≤ 14
wait_code_small y w = grind arith

-- the cell in a word PHASE is one of these, or 0
pub phase_cell : (cells n : ℕ) → IsPhaseWord cells n → n / 16 ≤ cells
phase_cell cells n h = by (phase_in n) refl h.code where
  by : (p : Phase) → phase_in n ≡ p → phase_word (phase_in n) ≡ n → n / 16 ≤ cells
  by phase.Unborn e q = let z : 0 ≡ n = ap phase_word (sym e) ∙ q in omega arith
  by phase.Ready e q = let z : 1 ≡ n = ap phase_word (sym e) ∙ q in omega arith
  by phase.Running e q = let z : 2 ≡ n = ap phase_word (sym e) ∙ q in omega arith
  by phase.Ended e q = let z : 3 ≡ n = ap phase_word (sym e) ∙ q in omega arith
  by phase.Promise e q = let z : 4 ≡ n = ap phase_word (sym e) ∙ q in omega arith
  by (phase.Waiting c y w) e q = let z : wait_code y w + 16 * c.0 ≡ n = ap phase_word (sym e) ∙ q in
      let a = wait_code_small y w in let b = h.waits c y w e in omega arith

-- what was read at an index is the word of that index
pub read_at : (words : List ℕ) {i index n : ℕ} → i ≡ index → get_elem? words i ≡ some n → n ≡ word words index
read_at words {i} {index} {n} p e = sym (read_or words i n 0 e) ∙ ap (word words) p

-- a list whose elements are right, with the next one
pub filled_more : {A : Type 0} (f : ℕ → A) (l : List A) (n : ℕ) (x : A) → length l ≡ n → x ≡ f n
    → ((k : ℕ) → k < n → get_elem? l k ≡ some (f k)) → (k : ℕ) → k < suc n → get_elem? (l ++ x ∷ []) k ≡ some (f k)
filled_more f l n x all e h k m = dite (ℕ_discrete k n)
    (λ q. subst (λ z. get_elem? (l ++ x ∷ []) z ≡ some (f z)) (sym q) (at_last l x n all ∙ ap some e))
    (λ q. at_longer l (x ∷ []) k (f k) (h k (omega arith)))

-- nothing is nothing after a map, and the other way round
pub mapped_none : {A C : Type 0} (f : A → C) (o : Option A) (z : Option C) → option_map f o ≡ z
    → (o ≡ None) ↔ (z ≡ None)
mapped_none f o z e = grind arith
