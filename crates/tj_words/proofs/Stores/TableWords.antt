-- The words of a table: no two of them stand at one index.
use Rattle.tj_words.proofs.Prelude.{Bool, Once, ap, arith, cond, count_at, dite, eq-eqb, false, head_at, live_at}
use Rattle.tj_words.proofs.Prelude.{nat_eq, ne_eqb, next_at, once_at, others_at, own_at, phase_at, stop_at, suc, sym}
use Rattle.tj_words.proofs.Prelude.{true, zero, ℕ, ℕ_discrete, ◌*◌, ◌+◌, ◌∙◌, ◌≡◌, ◌≢◌, ◌≤◌}
use Rattle.tj_words.specs.declared.offsets.Once.TheVariants as once

-- the words of a table; Written are those that are written once
pub data TableWord : Type 0 where
  Count : TableWord
  Live : TableWord
  Others : TableWord
  Stop : TableWord
  Own : ℕ → TableWord
  Phase : ℕ → TableWord
  Written : ℕ → Once → TableWord
  Head : ℕ → TableWord
  Next : ℕ → TableWord

-- where a word stands
abbrev pub index : TableWord → ℕ
index Count = count_at
index Live = live_at
index Others = others_at
index Stop = stop_at
index (Own c) = own_at c
index (Phase c) = phase_at c
index (Written c f) = once_at c f
index (Head c) = head_at c
index (Next c) = next_at c

-- the words by tens: those of cell c are the ten after those of the cell before it, and the table's own end the first
abbrev ten : TableWord → ℕ
ten (Own c) = suc c
ten (Phase c) = suc c
ten (Written c f) = suc c
ten (Head c) = suc c
ten (Next c) = suc c
ten w = 0

-- which of its ten a word is
abbrev rank : TableWord → ℕ
rank Count = 6
rank Live = 7
rank Others = 8
rank Stop = 9
rank (Own c) = 0
rank (Phase c) = 1
rank (Written c once.Tag) = 2
rank (Written c once.Bits) = 3
rank (Written c once.Parent) = 4
rank (Written c once.Kid) = 5
rank (Written c once.Depth) = 6
rank (Written c once.Jump) = 7
rank (Head c) = 8
rank (Next c) = 9

-- the word by both
abbrev word_by : ℕ → ℕ → TableWord
word_by zero k = cond (nat_eq k 6) Count (cond (nat_eq k 7) Live (cond (nat_eq k 8) Others Stop))
word_by (suc c) k = cond (nat_eq k 0) (Own c) (cond (nat_eq k 1) (Phase c) (cond (nat_eq k 2) (Written c once.Tag)
    (cond (nat_eq k 3) (Written c once.Bits) (cond (nat_eq k 4) (Written c once.Parent)
    (cond (nat_eq k 5) (Written c once.Kid) (cond (nat_eq k 6) (Written c once.Depth)
    (cond (nat_eq k 7) (Written c once.Jump) (cond (nat_eq k 8) (Head c) (Next c)))))))))

-- the kind of a word, and which one of its kind it is: its cell, or its index where it is written once
abbrev kind : TableWord → ℕ
kind Count = 0
kind Live = 1
kind Others = 2
kind Stop = 3
kind (Own c) = 4
kind (Phase c) = 5
kind (Written c f) = 6
kind (Head c) = 7
kind (Next c) = 8

abbrev key : TableWord → ℕ
key (Own c) = c
key (Phase c) = c
key (Written c f) = once_at c f
key (Head c) = c
key (Next c) = c
key w = 0

-- the index by both
abbrev place_by : ℕ → ℕ → ℕ
place_by k a = cond (nat_eq k 4) (own_at a) (cond (nat_eq k 5) (phase_at a) (cond (nat_eq k 6) a
    (cond (nat_eq k 7) (head_at a) (cond (nat_eq k 8) (next_at a) k))))

-- a word is told by its index, and its index by its kind
record IsToldBy (w : TableWord) : Type 0 where
  at : index w + 6 ≡ 10 * ten w + rank w
  small : rank w ≤ 9
  back : word_by (ten w) (rank w) ≡ w
  by : index w ≡ place_by (kind w) (key w)

told_by : (w : TableWord) → IsToldBy w
told_by w = record { at = grind arith; small = grind arith; back = grind arith; by = grind arith }

-- so two words that stand at one index are one
pub same_word_at : (w x : TableWord) → index x ≡ index w → x ≡ w
same_word_at w x e = let a = told_by w in let b = told_by x in let p = a.at in let q = b.at in let k = a.small in
    let l = b.small in let t : ten x ≡ ten w = omega arith in let r : rank x ≡ rank w = omega arith in
    sym b.back ∙ ((λ j. word_by (t j) (r j)) ∙ a.back)

-- which cell and which word it is, of one that is written once
abbrev cell_of : TableWord → ℕ
cell_of (Written c f) = c
cell_of w = 0

abbrev once_of : TableWord → Once
once_of (Written c f) = f
once_of w = once.Tag

-- a index tells the cell and the word
pub same_cell : (c d : ℕ) (f g : Once) → once_at d g ≡ once_at c f → d ≡ c
same_cell c d f g e = ap cell_of (same_word_at (Written c f) (Written d g) e)

pub same_word : (c d : ℕ) (f g : Once) → once_at d g ≡ once_at c f → g ≡ f
same_word c d f g e = ap once_of (same_word_at (Written c f) (Written d g) e)

-- whether x is the word w
abbrev pub is_word : TableWord → TableWord → Bool
is_word x w = cond (nat_eq (kind x) (kind w)) (nat_eq (key x) (key w)) false

pub is_word_here : (w x : TableWord) → index x ≡ index w → is_word x w ≡ true
is_word_here w x e = let s = same_word_at w x e in
    λ j. cond (eq-eqb (kind x) (kind w) (ap kind s) j) (eq-eqb (key x) (key w) (ap key s) j) false

pub is_word_else : (w x : TableWord) → index x ≢ index w → is_word x w ≡ false
is_word_else w x n = dite (ℕ_discrete (kind x) (kind w))
    (λ e. dite (ℕ_discrete (key x) (key w))
    (λ d. absurd (n ((told_by x).by ∙ ((λ j. place_by (e j) (d j)) ∙ sym (told_by w).by))))
    (λ d. λ j. cond (eq-eqb (kind x) (kind w) e j) (ne_eqb (key x) (key w) d j) false))
    (λ e. ap (λ (b : Bool). cond b (nat_eq (key x) (key w)) false) (ne_eqb (kind x) (kind w) e))
