-- What a push finds whose head isn't that for which it asked.
use Rattle.tj_words.proofs.Prelude.{Head, Shut, Task, View, ap, arith, cell, head_in, head_word, refl, shut_word}
use Rattle.tj_words.proofs.Prelude.{subst, suc, sym, ℕ, ◌-◌, ◌<◌, ◌∙◌, ◌≡◌, ◌≢◌, ◌≤◌}
use Rattle.tj_words.specs.Calls.PushSteps.{FindsLonger}
use Rattle.tj_words.specs.SeatViews.SeenWords.{FindsChain}
use Rattle.tj_words.proofs.SeatLoads.KnowLoads.{task_in}
use Rattle.tj_words.proofs.Waiters.ChainFacts.{grown_longer}

-- what a push finds that doesn't succeed
pub finds_longer : {B : Type 0} {cells p : ℕ} {h : Head} {v w : View B} (behind : Head) → h ≢ behind
    → FindsChain cells p h v w → FindsLonger p behind h v w
finds_longer {B} {cells} {p} {h} {v} {w} behind other f = record {
  chain = f.chain;
  is = f.is;
  found = ap (λ (z : View B). z.found) f.view;
  longer = λ g i here begins. let k = f.grown g i here in
      grown_longer f.chain k.0 g.chain k.1 (λ e. other (f.is ∙ (sym e ∙ begins)));
}

-- the head of the word of a task
pub head_suc : (t : ℕ) → suc t ≢ shut_word → head_in (suc t) ≡ Task (cell t)
head_suc t n = let e : suc t - 1 ≡ t = omega arith in
    task_in (suc t) (λ z. omega arith) n ∙ ap (λ k. Task (cell k)) e

-- the head of the word of a head that a table may have
pub word_back : (h : Head) (n : ℕ) → n < shut_word → head_word h ≤ n → head_in (head_word h) ≡ h
word_back (Task t) n l k = head_suc t.0 (λ z. omega arith)
word_back h n l k = refl

-- what a push finds where its word isn't that for which it asks
pub found_other : {B : Type 0} {cells p : ℕ} {v w : View B} (behind h : Head) (k : ℕ) → h ≡ head_in k
    → head_in (head_word behind) ≡ behind
    → (k ≢ head_word behind → head_in k ≢ Shut → FindsChain cells p (head_in k) v w) → h ≢ behind → h ≢ Shut
    → FindsChain cells p h v w
found_other {B} {cells} {p} {v} {w} behind h k e back f n m = subst (λ z. FindsChain cells p z v w) (sym e)
    (f (λ z. n (e ∙ (ap head_in z ∙ back))) (λ z. m (e ∙ z)))
