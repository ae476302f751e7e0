-- Skew-binary numbers. How far the jumps above a node lead depends on its depth alone: from depth d they pass the
-- weights of the ranks of d, one after another.
use Rattle.std.proofs.Common.{◌≡◌, ◌≢◌, ℕ, suc, zero, ◌+◌, ◌-◌, ◌*◌, ◌^◌, ◌<◌, ◌≤◌, min, Bool, true, false, cond, eqb, ltb, List, [], ◌∷◌, refl, sym, ap, ◌∙◌, inl, inr, arith, subst, add-one}
use Rattle.std.proofs.Math.Nat.{pow-succ'}
use Rattle.std.proofs.lemmas.Bool.{cases_lt}
use Rattle.std.proofs.lemmas.Bool.Decides.{nat_tests}

-- the weight of a rank: 1, 3, 7, 15 ..
abbrev pub weight : ℕ → ℕ
weight zero = 1
weight (suc r) = 2 * weight r + 1

-- what the ranks weigh together
abbrev pub total : List ℕ → ℕ
total [] = 0
total (r ∷ rs) = weight r + total rs

-- the ranks of the next number: two equal lowest ones make one of the next rank, else a rank 0 is added
abbrev pub next : List ℕ → List ℕ
next [] = 0 ∷ []
next (r ∷ []) = 0 ∷ r ∷ []
next (r ∷ s ∷ rest) = cond (eqb r s) (suc r ∷ rest) (0 ∷ r ∷ s ∷ rest)

-- the ranks of a number, the lowest first
abbrev pub ranks : ℕ → List ℕ
ranks zero = []
ranks (suc d) = next (ranks d)

abbrev pub tail : List ℕ → List ℕ
tail [] = []
tail (r ∷ rs) = rs

-- the ranks rise, from low on
abbrev pub Rising : ℕ → List ℕ → Type 0
Rising low [] = Unit {0}
Rising low (r ∷ rs) = (low ≤ r) × Rising (suc r) rs

-- the ranks rise, but that the lowest may stand twice
abbrev pub IsSkew : List ℕ → Type 0
IsSkew [] = Unit {0}
IsSkew (r ∷ rs) = Rising r rs

pub weight_pos : (r : ℕ) → 0 < weight r
weight_pos zero = omega arith
weight_pos (suc r) = omega arith

pub total-next : (rs : List ℕ) → total (next rs) ≡ total rs + 1
total-next [] = refl
total-next (r ∷ []) = omega arith
total-next (r ∷ s ∷ rest) = grind (arith, nat_tests)

pub total-ranks : (d : ℕ) → total (ranks d) ≡ d
total-ranks zero = refl
total-ranks (suc d) = omega (arith, total-next (ranks d), total-ranks d)

Rising_lower : (low : ℕ) (rs : List ℕ) → Rising (suc low) rs → Rising low rs
Rising_lower low [] h = tt
Rising_lower low (r ∷ rs) h = (omega (arith, h.0), h.1)

IsSkew-merged : (r s : ℕ) (rest : List ℕ) (b : Bool) → eqb r s ≡ b → Rising r (s ∷ rest)
    → IsSkew (cond b (suc r ∷ rest) (0 ∷ r ∷ s ∷ rest))
IsSkew-merged r s rest true e h = let same : r ≡ s = grind (arith, nat_tests, e) in
    subst (λ k. Rising (suc k) rest) (sym same) h.1
IsSkew-merged r s rest false e h = (omega arith, (grind (arith, nat_tests, e, h.0), h.1))

IsSkew-next : (rs : List ℕ) → IsSkew rs → IsSkew (next rs)
IsSkew-next [] h = tt
IsSkew-next (r ∷ []) h = (omega arith, tt)
IsSkew-next (r ∷ s ∷ rest) h = IsSkew-merged r s rest (eqb r s) refl h

pub IsSkew-ranks : (d : ℕ) → IsSkew (ranks d)
IsSkew-ranks zero = tt
IsSkew-ranks (suc d) = IsSkew-next (ranks d) (IsSkew-ranks d)

weight_injective : (r s : ℕ) → weight r ≡ weight s → r ≡ s
weight_injective zero zero e = refl
weight_injective zero (suc s) e = absurd (omega (arith, weight_pos s))
weight_injective (suc r) zero e = absurd (omega (arith, weight_pos r))
weight_injective (suc r) (suc s) e = ap suc (weight_injective r s (omega arith))

cond_merged : (b : Bool) (xs ys : List ℕ) → b ≡ true → cond b xs ys ≡ xs
cond_merged true xs ys e = refl
cond_merged false xs ys e = cc

cond_added : (b : Bool) (xs ys : List ℕ) → b ≡ false → cond b xs ys ≡ ys
cond_added true xs ys e = cc
cond_added false xs ys e = refl

-- where two jumps are equally long, the next number's further ranks are those behind both
pub tail-next_merged : (rs : List ℕ) → total rs - total (tail rs) ≡ total (tail rs) - total (tail (tail rs))
    → tail (next rs) ≡ tail (tail rs)
tail-next_merged [] e = refl
tail-next_merged (r ∷ []) e = absurd (omega (arith, weight_pos r))
tail-next_merged (r ∷ s ∷ rest) e =
    let same : r ≡ s = weight_injective r s (omega arith) in
    ap tail (cond_merged (eqb r s) (suc r ∷ rest) (0 ∷ r ∷ s ∷ rest) (grind (arith, nat_tests, same)))

-- else they are all ranks
pub tail-next_added : (rs : List ℕ) → total rs - total (tail rs) ≢ total (tail rs) - total (tail (tail rs))
    → tail (next rs) ≡ rs
tail-next_added [] ne = refl
tail-next_added (r ∷ []) ne = refl
tail-next_added (r ∷ s ∷ rest) ne =
    let other : r ≢ s = λ same. ne (omega (arith, ap weight same)) in
    ap tail (cond_added (eqb r s) (suc r ∷ rest) (0 ∷ r ∷ s ∷ rest) (grind (arith, nat_tests, other)))

-- how many moves, by jumps that don't lead too far and by single steps, lead up m from a node whose ranks are these
abbrev pub moves : List ℕ → ℕ → ℕ
moves [] m = 0
moves (r ∷ rs) m = cond (ltb m (weight r)) (2 * r) (1 + moves rs (m - weight r))

-- each rank is below b
abbrev pub Below : ℕ → List ℕ → Type 0
Below b [] = Unit {0}
Below b (r ∷ rs) = (r < b) × Below b rs

rank_below : (b r : ℕ) → weight r + 1 < 2 ^ b → r < b
rank_below zero r h = absurd (omega (arith, weight_pos r))
rank_below (suc b) zero h = omega arith
rank_below (suc b) (suc r) h =
    let doubled : weight (suc r) + 1 < 2 * 2 ^ b = rw pow-succ' at h in
    omega (arith, rank_below b r (omega arith))

Below-total : (b : ℕ) (rs : List ℕ) → total rs + 1 < 2 ^ b → Below b rs
Below-total b [] h = tt
Below-total b (r ∷ rs) h = (rank_below b r (omega arith), Below-total b rs (omega arith))

moves-rising : (b low : ℕ) (rs : List ℕ) (m : ℕ) → low ≤ b → Rising low rs → Below b rs → moves rs m + low ≤ 3 * b
moves-rising b low [] m l h k = omega arith
moves-rising b low (r ∷ rs) m l h k =
    let deep = moves-rising b (suc r) rs (m - weight r) (omega (arith, k.0)) h.1 k.1 in
    grind (arith, nat_tests, deep, h.0, k.0)

moves-skew : (b : ℕ) (rs : List ℕ) (m : ℕ) → IsSkew rs → Below b rs → moves rs m ≤ 3 * b + 1
moves-skew b [] m h k = omega arith
moves-skew b (r ∷ rs) m h k =
    let deep = moves-rising b r rs (m - weight r) (omega (arith, k.0)) h k.1 in
    grind (arith, nat_tests, deep, k.0)

-- the moves from depth d are at most three times the digits of d + 1, and one
pub moves-ranks : (b d m : ℕ) → d + 1 < 2 ^ b → moves (ranks d) m ≤ 3 * b + 1
moves-ranks b d m h =
    let weighs = total-ranks d in
    moves-skew b (ranks d) m (IsSkew-ranks d) (Below-total b (ranks d) (omega arith))

moves_over : (rs : List ℕ) (m n : ℕ) → total rs ≡ m + n → n < total rs → n ≤ total (tail rs)
    → moves (tail rs) (total (tail rs) - n) < moves rs m
moves_over [] m n e l k = absurd (omega arith)
moves_over (r ∷ rs) m n e l k =
    let left : total rs - n ≡ m - weight r = omega arith in
    let far : weight r ≤ m = omega arith in
    rw left (grind (arith, nat_tests, far))

-- a jump that doesn't lead too far saves a move
pub moves_jump : (d j n : ℕ) → ranks j ≡ tail (ranks d) → n ≤ j → n < d
    → moves (ranks j) (j - n) < moves (ranks d) (d - n)
moves_jump d j n e l k =
    let whole = total-ranks d in
    let rest : total (tail (ranks d)) ≡ j = ap total (sym e) ∙ total-ranks j in
    let fewer = moves_over (ranks d) (d - n) n (omega arith) (omega arith) (omega arith) in
    subst (λ rs. moves rs (j - n) < moves (ranks d) (d - n)) (sym e)
    (subst (λ t. moves (tail (ranks d)) (t - n) < moves (ranks d) (d - n)) rest fewer)

moves_split : (r m : ℕ) (rest : List ℕ) → m < 2 * weight r → moves (r ∷ r ∷ rest) m < 2 * r + 2
moves_split r m rest l = grind (arith, nat_tests)

moves_below : (r s m : ℕ) (rest : List ℕ) (t : Bool) → eqb r s ≡ t
    → total (tail (cond t (suc r ∷ rest) (0 ∷ r ∷ s ∷ rest))) + m < weight r + (weight s + total rest) + 1 → 0 < m
    → moves (r ∷ s ∷ rest) (m - 1) < moves (cond t (suc r ∷ rest) (0 ∷ r ∷ s ∷ rest)) m
moves_below r s m rest true e l some =
    let same : r ≡ s = grind (arith, nat_tests, e) in
    let small : m < 2 * weight r + 1 = omega (arith, ap weight same) in
    let few = moves_split r (m - 1) rest (omega arith) in
    subst (λ k. moves (r ∷ k ∷ rest) (m - 1) < moves (suc r ∷ rest) m) same (grind (arith, nat_tests, few, small))
moves_below r s m rest false e l some = absurd (omega arith)

moves_next : (rs : List ℕ) (m : ℕ) → total (tail (next rs)) + m < total rs + 1 → 0 < m
    → moves rs (m - 1) < moves (next rs) m
moves_next [] m l some = absurd (omega arith)
moves_next (r ∷ []) m l some = absurd (omega arith)
moves_next (r ∷ s ∷ rest) m l some = moves_below r s m rest (eqb r s) refl l some

-- where the jump leads too far, a single step saves a move
pub moves_step : (d j n : ℕ) → ranks j ≡ tail (ranks (d + 1)) → j < n → n ≤ d
    → moves (ranks d) (d - n) < moves (ranks (d + 1)) (d + 1 - n)
moves_step d j n e l k =
    let jumped : ranks j ≡ tail (next (ranks d)) = rw add-one at e in
    let whole = total-ranks d in
    let rest : total (tail (next (ranks d))) ≡ j = ap total (sym jumped) ∙ total-ranks j in
    let fewer = moves_next (ranks d) (suc d - n) (omega arith) (omega arith) in
    let shorter : suc d - n - 1 ≡ d - n = omega arith in
    rw add-one (subst (λ m. moves (ranks d) m < moves (next (ranks d)) (suc d - n)) shorter fewer)

tail_less : (rs : List ℕ) → 0 < total rs → total (tail rs) < total rs
tail_less [] h = h
tail_less (r ∷ rs) h = omega (arith, weight_pos r)

-- a jump leads up
pub jump_shallower : (d j : ℕ) → ranks j ≡ tail (ranks d) → 0 < d → j < d
jump_shallower d j e some =
    let whole = total-ranks d in
    let rest : j ≡ total (tail (ranks d)) = sym (total-ranks j) ∙ ap total e in
    let less = tail_less (ranks d) (omega arith) in
    omega arith

tail_up_to : (rs : List ℕ) → total (tail rs) ≤ total rs
tail_up_to [] = omega arith
tail_up_to (r ∷ rs) = omega arith

-- no jump leads down
pub jump_up_to : (d j : ℕ) → ranks j ≡ tail (ranks d) → j ≤ d
jump_up_to d j e =
    let rest : j ≡ total (tail (ranks d)) = sym (total-ranks j) ∙ ap total e in
    omega (arith, rest, tail_up_to (ranks d), total-ranks d)

-- jumps from one depth lead to one depth
pub jump_level : (d e j k : ℕ) → d ≡ e → ranks j ≡ tail (ranks d) → ranks k ≡ tail (ranks e) → j ≡ k
jump_level d e j k same p q =
    sym (total-ranks j) ∙ ap total (p ∙ ap (λ n. tail (ranks n)) same ∙ sym q) ∙ total-ranks k

-- of two tasks one is lifted at no cost, so two parts of the walk cost something
pub cost_of_parts : (a b d t t' t'' t''' digits : ℕ) → d ≡ min a b → (a ≤ d → t' ≡ t) → (b ≤ d → t'' ≡ t')
    → t' ≤ t + (6 * digits + 2) → t'' ≤ t' + (6 * digits + 2) → t''' ≤ t'' + (6 * digits + 2)
    → t''' ≤ t + (12 * digits + 4)
cost_of_parts a b d t t' t'' t''' digits e first second one two three =
    elim (cases_lt a b) [
      | inl less ↦ let free : t' ≡ t = first (omega arith) in omega arith
      | inr more ↦ let free : t'' ≡ t' = second (omega arith) in omega arith
    ]
