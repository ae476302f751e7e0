-- What the words of a new table say.
use Rattle.tj_words.proofs.Prelude.{Codes, Empty, IsPhaseWord, List, None, Once, Option, Phase, Some, Tag, Unborn}
use Rattle.tj_words.proofs.Prelude.{WordsSay, [], ap, arith, first_words, head_at, head_in, inr, length}
use Rattle.tj_words.proofs.Prelude.{length-replicate, length-set, next_at, own_at, owner_in, phase_in, refl, replicate}
use Rattle.tj_words.proofs.Prelude.{set, suc, word, words_say, zero, ℕ, ◌++◌, ◌-◌, ◌<◌, ◌∙◌, ◌∷◌, ◌≡◌, ◌≤◌}
use Rattle.tj_words.specs.declared.offsets.Once.TheVariants.{Depth, Jump, Kid, Parent}
use Rattle.tj_words.specs.declared.phase.Phase.TheVariants.{Ready}
use Rattle.tj_words.specs.Words.Offsets.{once_at, words_for, phase_at}
use Rattle.std.proofs.Math.Seq.{get_or-append_right}

abbrev pub first_own : ℕ → Option ℕ
first_own zero = Some 0
first_own (suc c) = None

abbrev pub first_phase : ℕ → Phase
first_phase zero = Ready
first_phase (suc c) = Unborn

abbrev pub root_once : Once → ℕ
root_once Jump = 1
root_once f = 0

abbrev pub first_once : ℕ → Once → ℕ
first_once zero f = root_once f
first_once (suc c) f = 0

-- what the words of a new table say
abbrev pub first_say : WordsSay
first_say = record {
  count = 1;
  live = 1;
  others = 0;
  stop = 0;
  own = first_own;
  phase = first_phase;
  once = first_once;
  head = λ _. Empty;
  next = λ _. Empty;
}

zeros : (n i : ℕ) → word (replicate n 0) i ≡ 0
zeros zero i = refl
zeros (suc n) zero = refl
zeros (suc n) (suc i) = zeros n i

-- words of at most 1 are so after 1 is stored
small_set : (l : List ℕ) (i : ℕ) → ((j : ℕ) → word l j ≤ 1) → (j : ℕ) → word (set l i 1) j ≤ 1
small_set [] i h j = h j
small_set (x ∷ xs) zero h zero = omega arith
small_set (x ∷ xs) zero h (suc j) = h (suc j)
small_set (x ∷ xs) (suc i) h zero = h zero
small_set (x ∷ xs) (suc i) h (suc j) = small_set xs i (λ k. h (suc k)) j

module _ (cells : ℕ) (some : 0 < cells) where
  -- the words of the table, those of the root up to its jump, and how many there are behind
  abbrev front : List ℕ
  front = 1 ∷ 1 ∷ 0 ∷ 0 ∷ 1 ∷ 1 ∷ 0 ∷ 0 ∷ 0 ∷ 0 ∷ 0 ∷ 1 ∷ []

  abbrev behind : ℕ
  behind = words_for cells - 12

  abbrev ws : List ℕ
  ws = front ++ replicate behind 0

  listed : first_words cells ≡ ws
  listed = ap (λ n. set (set (set (set (set (replicate n 0) 0 1) 1 1) 4 1) 5 1) 11 1)
      (let e : words_for cells ≡ suc (suc (suc (suc (suc (suc (suc (suc (suc (suc (suc (suc behind)))))))))))
      = omega arith in e)

  -- there are as many words as a table has
  pub first_wide : length (first_words cells) ≡ words_for cells
  first_wide = length-set _ 11 1 ∙ (length-set _ 5 1 ∙ (length-set _ 4 1 ∙ (length-set _ 1 1 ∙ (length-set _ 0 1
      ∙ length-replicate (words_for cells) 0))))

  far : (i : ℕ) → 11 < i → word ws i ≡ 0
  far i l = get_or-append_right front (replicate behind 0) i 0 (omega arith) ∙ zeros behind (i - 12)

  -- the words of a new table say this
  pub first_words_say : words_say (first_words cells) ≡ first_say
  first_words_say = ap words_say listed ∙ (λ j. record first_say {
    own = λ c. own c j;
    phase = λ c. phase c j;
    once = λ c f. once c f j;
    head = λ c. head_in (far (head_at c) (omega arith) j);
    next = λ c. head_in (far (next_at c) (omega arith) j);
  })
    where
      own : (c : ℕ) → owner_in (word ws (own_at c)) ≡ first_own c
      own zero = refl
      own (suc c) = ap owner_in (far (own_at (suc c)) (omega arith))

      phase : (c : ℕ) → phase_in (word ws (phase_at c)) ≡ first_phase c
      phase zero = refl
      phase (suc c) = ap phase_in (far (phase_at (suc c)) (omega arith))

      once : (c : ℕ) (f : Once) → word ws (once_at c f) ≡ first_once c f
      once zero Jump = refl
      once zero f = refl
      once (suc c) Jump = far (once_at (suc c) Jump) (omega arith)
      once (suc c) f = far (once_at (suc c) f) (omega arith)

  small : (i : ℕ) → word (first_words cells) i ≤ 1
  small = small_set _ 11 (small_set _ 5 (small_set _ 4 (small_set _ 1 (small_set _ 0
      (λ i. let e = zeros (words_for cells) i in omega arith)))))

  phase_small : (n : ℕ) → n ≤ 1 → IsPhaseWord cells n
  phase_small n l = grind arith

  -- and they are words that may stand
  pub first_codes : Codes cells (first_words cells)
  first_codes = record {
    stop = (let z = small 3 in omega arith);
    each = λ c l. record {
      own = (let z = small (own_at c) in omega arith);
      phase = phase_small (word (first_words cells) (phase_at c)) (small (phase_at c));
      tag = (let z = small (once_at c Tag) in omega arith);
      parent = (let z = small (once_at c Parent) in omega arith);
      kid = (let z = small (once_at c Kid) in omega arith);
      depth = (let z = small (once_at c Depth) in omega arith);
      jump = (let z = small (once_at c Jump) in omega arith);
      head = inr (let z = small (head_at c) in omega arith);
      next = (let z = small (next_at c) in omega arith);
    };
  }
