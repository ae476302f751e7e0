-- What a step tells of the cell of its word, told of the cell that its caller names.
use Rattle.tj_words.proofs.Prelude.{SeatMe, ap, arith, none, step, subst, ℕ, ◌+◌, ◌-◌, ◌≡◌}
use Rattle.std.proofs.Common.{◌%◌}
use Rattle.tj_words.specs.Inner.CellTold.{of_its_cell}
use Rattle.tj_words.specs.Inner.IndexWords.{cell_at, once_by, once_of}
use Rattle.tj_words.specs.SeatViews.SeatSteps.{Tells}
use Rattle.tj_words.specs.Words.Offsets.{first_word, once_at}
use Rattle.tj_words.specs.declared.offsets.Once.{Once}
use Rattle.tj_words.specs.declared.offsets.Once.TheVariants as once

pub its_cell : {B : Type 0} (T : ℕ → ℕ → Tells B) (a b : ℕ) {slots i cells c n : ℕ} {m m' : SeatMe B}
    → slots ≡ cells → cell_at i ≡ c → of_its_cell T (step slots i a b none) m n m'
    → T cells c (step slots i a b none) m n m'
its_cell {B} T a b {slots} {i} {cells} {c} {n} {m} {m'} e d h =
    subst (λ k. T cells k (step slots i a b none) m n m') d
    (subst (λ k. T k (cell_at i) (step slots i a b none) m n m') e h)

-- the word that is written once is found again by its index
pub once_back : (c : ℕ) (f : Once) → once_of (once_at c f) ≡ f
once_back c once.Tag = let e : (first_word c + 2 - 4) % 10 ≡ 2 = omega arith in ap once_by e
once_back c once.Bits = let e : (first_word c + 3 - 4) % 10 ≡ 3 = omega arith in ap once_by e
once_back c once.Parent = let e : (first_word c + 4 - 4) % 10 ≡ 4 = omega arith in ap once_by e
once_back c once.Kid = let e : (first_word c + 5 - 4) % 10 ≡ 5 = omega arith in ap once_by e
once_back c once.Depth = let e : (first_word c + 6 - 4) % 10 ≡ 6 = omega arith in ap once_by e
once_back c once.Jump = let e : (first_word c + 7 - 4) % 10 ≡ 7 = omega arith in ap once_by e
