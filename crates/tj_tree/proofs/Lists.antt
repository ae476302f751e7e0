-- The order as a test on lists, and what an insertion does to it.
use Rattle.std.proofs.Common.{◌≡◌, ◌≢◌, ℕ, suc, zero, ◌+◌, ◌<◌, ◌≤◌, Bool, true, false, cond, eqb, ◌||◌, List, [], ◌∷◌, length, drop, Some, refl, sym, ap, ◌∙◌, subst, inl, inr, arith, slice_get, get_or}
use Rattle.std.proofs.lemmas.Bool.{cases_eq}
use Rattle.std.specs.Prelude.{Contains, ◌↔◌}
use Rattle.std.proofs.lemmas.List.{drop_more, drop_all}
use Rattle.std.proofs.lemmas.Bool.Decides.{nat_tests}
use Rattle.tj_base.specs.declared.cell.TheConstants.{MAX_CELLS}
use Rattle.tj_tree.specs.Forks.{insert_after, IsNumbering, IsEarlier}

-- the list contains n
abbrev pub has : List ℕ → ℕ → Bool
has [] n = false
has (x ∷ xs) n = eqb x n || has xs n

-- a stands in the list, and b behind it
abbrev pub earlier : List ℕ → ℕ → ℕ → Bool
earlier [] a b = false
earlier (x ∷ xs) a b = cond (eqb x a) (has xs b) (earlier xs a b)

-- no number stands twice
abbrev pub AreApart : List ℕ → Type 0
AreApart [] = Unit {0}
AreApart (x ∷ xs) = (has xs x ≡ false) × AreApart xs

-- an insertion adds its number
pub has-insert_after_new : (b c : ℕ) (xs : List ℕ) → has xs b ≡ true → has (insert_after b c xs) c ≡ true
has-insert_after_new b c [] h = cc
has-insert_after_new b c (x ∷ xs) h = grind (arith, nat_tests, has-insert_after_new b c xs)

-- and no other
pub has-insert_after_other : (b c n : ℕ) (xs : List ℕ) → n ≢ c → has (insert_after b c xs) n ≡ has xs n
has-insert_after_other b c n [] h = refl
has-insert_after_other b c n (x ∷ xs) h =
    let rest = has-insert_after_other b c n xs h in grind (arith, nat_tests, rest)

AreApart-at : (b c x : ℕ) (xs : List ℕ) (t : Bool) → eqb x b ≡ t → (eqb x c || has xs c) ≡ false → AreApart (x ∷ xs)
    → (has xs c ≡ false → AreApart (insert_after b c xs)) → AreApart (cond t (x ∷ c ∷ xs) (x ∷ insert_after b c xs))
AreApart-at b c x xs true e new apart rest =
    (grind (arith, nat_tests, new, apart.0), (grind (arith, nat_tests, new), apart.1))
AreApart-at b c x xs false e new apart rest =
    let other : x ≢ c = grind (arith, nat_tests, new) in
    (has-insert_after_other b c x xs other ∙ apart.0, rest (grind (arith, nat_tests, new)))

pub AreApart-insert_after : (b c : ℕ) (xs : List ℕ) → has xs c ≡ false → AreApart xs → AreApart (insert_after b c xs)
AreApart-insert_after b c [] new apart = tt
AreApart-insert_after b c (x ∷ xs) new apart = AreApart-at b c x xs (eqb x b) refl new apart
    (λ h. AreApart-insert_after b c xs h apart.1)

-- what has nothing of b has nothing before b
pub earlier-none : (xs : List ℕ) (a b : ℕ) → has xs b ≡ false → earlier xs a b ≡ false
earlier-none [] a b h = refl
earlier-none (x ∷ xs) a b h = grind (arith, nat_tests, earlier-none xs a b)

-- an insertion leaves the order of others
pub earlier-insert_after_others : (p c a b : ℕ) (xs : List ℕ) → a ≢ c → b ≢ c
    → earlier (insert_after p c xs) a b ≡ earlier xs a b
earlier-insert_after_others p c a b [] na nb = refl
earlier-insert_after_others p c a b (x ∷ xs) na nb =
    let rest = earlier-insert_after_others p c a b xs na nb in
    let same = has-insert_after_other p c b xs nb in
    grind (arith, nat_tests, rest, same)

-- what is inserted is before what its parent is before
pub earlier-insert_after_first : (p c b : ℕ) (xs : List ℕ) → has xs p ≡ true → has xs c ≡ false → b ≢ c
    → earlier (insert_after p c xs) c b ≡ earlier xs p b
earlier-insert_after_first p c b [] hp hc nb = cc
earlier-insert_after_first p c b (x ∷ xs) hp hc nb = grind (arith, nat_tests, earlier-insert_after_first p c b xs)

-- its parent, and what is before its parent, is before it
pub earlier-insert_after_last : (p c a : ℕ) (xs : List ℕ) → has xs p ≡ true → has xs c ≡ false → AreApart xs → a ≢ c
    → earlier (insert_after p c xs) a c ≡ (eqb p a || earlier xs a p)
earlier-insert_after_last p c a [] hp hc apart na = cc
earlier-insert_after_last p c a (x ∷ xs) hp hc apart na =
    let found = has-insert_after_new p c xs in
    let none = earlier-none xs a c in
    let none_twice = earlier-none xs a p in
    let here = apart.0 in
    let rest : has xs p ≡ true → has xs c ≡ false → earlier (insert_after p c xs) a c ≡ (eqb p a || earlier xs a p) =
    λ h k. earlier-insert_after_last p c a xs h k apart.1 na in
    grind (arith, nat_tests, found, none, none_twice, here, rest)

-- it isn't before itself
pub earlier-insert_after_self : (p c : ℕ) (xs : List ℕ) → has xs c ≡ false → earlier (insert_after p c xs) c c ≡ false
earlier-insert_after_self p c [] h = refl
earlier-insert_after_self p c (x ∷ xs) h = grind (arith, nat_tests, earlier-insert_after_self p c xs)

has_at : (xs : List ℕ) (i n : ℕ) → slice_get xs i ≡ Some n → has xs n ≡ true
has_at [] i n h = absurd (cc)
has_at (x ∷ xs) zero n h = grind (arith, nat_tests)
has_at (x ∷ xs) (suc i) n h = let rest = has_at xs i n h in grind (arith, rest)

index_at : (x n : ℕ) (xs : List ℕ) (b : Bool) → eqb x n ≡ b
    → ((has xs n ≡ true) → (i : ℕ) × (slice_get xs i ≡ Some n)) → (b || has xs n) ≡ true
    → (i : ℕ) × (slice_get (x ∷ xs) i ≡ Some n)
index_at x n xs true e rest h = (0, ap Some (grind (arith, nat_tests)))
index_at x n xs false e rest h = let found = rest h in (suc found.0, found.1)

pub index_from_has : (xs : List ℕ) (n : ℕ) → has xs n ≡ true → (i : ℕ) × (slice_get xs i ≡ Some n)
index_from_has [] n h = absurd (cc)
index_from_has (x ∷ xs) n h = index_at x n xs (eqb x n) refl (index_from_has xs n) h

IsEarlier-behind : (x a b : ℕ) (xs : List ℕ) → IsEarlier xs a b → IsEarlier (x ∷ xs) a b
IsEarlier-behind x a b xs h =
    record {
      index = suc h.index;
      further = suc h.further;
      before = omega (arith, h.before);
      at_index = h.at_index;
      at_further = h.at_further;
    }

IsEarlier-at : (x a b : ℕ) (xs : List ℕ) (t : Bool) → eqb x a ≡ t → ((earlier xs a b ≡ true) → IsEarlier xs a b)
    → cond t (has xs b) (earlier xs a b) ≡ true → IsEarlier (x ∷ xs) a b
IsEarlier-at x a b xs true e rest h =
    let found = index_from_has xs b h in
    record {
      index = 0;
      further = suc found.0;
      before = omega arith;
      at_index = ap Some (grind (arith, nat_tests));
      at_further = found.1;
    }
IsEarlier-at x a b xs false e rest h = IsEarlier-behind x a b xs (rest h)

pub IsEarlier-from_earlier : (xs : List ℕ) (a b : ℕ) → earlier xs a b ≡ true → IsEarlier xs a b
IsEarlier-from_earlier [] a b h = absurd (cc)
IsEarlier-from_earlier (x ∷ xs) a b h = IsEarlier-at x a b xs (eqb x a) refl (IsEarlier-from_earlier xs a b) h

earlier_indexes : (xs : List ℕ) (a b i j : ℕ) → i < j → slice_get xs i ≡ Some a → slice_get xs j ≡ Some b
    → earlier xs a b ≡ true
earlier_indexes [] a b i j l p q = absurd (cc)
earlier_indexes (x ∷ xs) a b i zero l p q = absurd (omega arith)
earlier_indexes (x ∷ xs) a b zero (suc j) l p q = let found = has_at xs j b q in grind (arith, nat_tests, found)
earlier_indexes (x ∷ xs) a b (suc i) (suc j) l p q =
    let found = has_at xs j b q in
    let rest = earlier_indexes xs a b i j (omega arith) p q in
    grind (arith, nat_tests, found, rest)

pub earlier_from_IsEarlier : (xs : List ℕ) (a b : ℕ) → IsEarlier xs a b → earlier xs a b ≡ true
earlier_from_IsEarlier xs a b h = earlier_indexes xs a b h.index h.further h.before h.at_index h.at_further

pub length-insert_after : (b c : ℕ) (xs : List ℕ) → has xs b ≡ true → length (insert_after b c xs) ≡ length xs + 1
length-insert_after b c [] h = absurd (cc)
length-insert_after b c (x ∷ xs) h = grind (arith, nat_tests, length-insert_after b c xs)

has_read : (xs : List ℕ) (i n : ℕ) → i < length xs → get_or xs i n ≡ n → has xs n ≡ true
has_read [] i n l h = absurd (omega arith)
has_read (x ∷ xs) zero n l h = grind (arith, nat_tests)
has_read (x ∷ xs) (suc i) n l h = let rest = has_read xs i n (omega arith) h in grind (arith, rest)

pub has_from_Contains : (xs : List ℕ) (n : ℕ) → Contains xs n → has xs n ≡ true
has_from_Contains xs n h = has_read xs h.0 n h.1 h.2

read_from_get : (xs : List ℕ) (i n d : ℕ) → slice_get xs i ≡ Some n → (i < length xs) × (get_or xs i d ≡ n)
read_from_get [] i n d h = absurd (cc)
read_from_get (x ∷ xs) zero n d h = (omega arith, cc)
read_from_get (x ∷ xs) (suc i) n d h = let rest = read_from_get xs i n d h in (omega (arith, rest.0), rest.1)

pub Contains-from_has : (xs : List ℕ) (n : ℕ) → has xs n ≡ true → Contains xs n
Contains-from_has xs n h =
    let found = index_from_has xs n h in
    let read = read_from_get xs found.0 n n found.1 in
    (found.0, read.0, read.1)

numbers_grow : (b : ℕ) (xs : List ℕ) → b < length xs → ((n : ℕ) → n < length xs → Contains xs n) → (n : ℕ)
    → n < length (insert_after b (length xs) xs) → Contains (insert_after b (length xs) xs) n
numbers_grow b xs l all n h = Contains-from_has _ n (
    elim (cases_eq n (length xs)) [
      | inl same ↦ subst (λ k. has (insert_after b (length xs) xs) k ≡ true) (sym same)
          (has-insert_after_new b (length xs) xs (has_from_Contains xs b (all b l)))
      | inr other ↦
          let grown = length-insert_after b (length xs) xs (has_from_Contains xs b (all b l)) in
          let below : n < length xs = omega (arith, grown, other) in
          has-insert_after_other b (length xs) n xs other ∙ has_from_Contains xs n (all n below)
    ])

-- the next number, put in behind one that is there, keeps a numbering
pub IsNumbering-insert_after : (b : ℕ) (xs ys : List ℕ) → b < length xs → length xs < MAX_CELLS → IsNumbering xs
    → ys ≡ insert_after b (length xs) xs → IsNumbering ys
IsNumbering-insert_after b xs ys l few is e =
    let grown = length-insert_after b (length xs) xs (has_from_Contains xs b (is.each b l)) in
    subst IsNumbering (sym e) (record { each = numbers_grow b xs l is.each; few = omega (arith, grown) })

-- the test tells the order
pub earlier_tells : (xs : List ℕ) (a b : ℕ) (r : Bool) → r ≡ earlier xs a b → (r ≡ true) ↔ IsEarlier xs a b
earlier_tells xs a b r e = (λ h. IsEarlier-from_earlier xs a b (sym e ∙ h), λ h. e ∙ earlier_from_IsEarlier xs a b h)

-- a walk of the list that has passed a finds b
pub earlier_found : (xs : List ℕ) (a b i : ℕ) (p : Bool) → i < length xs → p ≡ true → get_or xs i 0 ≡ b
    → cond p (has (drop i xs) b) (earlier (drop i xs) a b) ≡ earlier xs a b → true ≡ earlier xs a b
earlier_found xs a b i true l e h inv =
    let split : has (drop i xs) b ≡ has (get_or xs i 0 ∷ drop (i + 1) xs) b = ap (λ (ys : List ℕ). has ys b)
    (drop_more xs i 0 l) in
    grind (arith, nat_tests, split, h, inv)
earlier_found xs a b i false l e h inv = absurd (cc)

-- a walk of the whole list that has found nothing
pub earlier_missed : (xs : List ℕ) (a b i : ℕ) (p : Bool) → length xs ≤ i
    → cond p (has (drop i xs) b) (earlier (drop i xs) a b) ≡ earlier xs a b → false ≡ earlier xs a b
earlier_missed xs a b i true l inv = ap (λ (ys : List ℕ). has ys b) (sym (drop_all i xs l)) ∙ inv
earlier_missed xs a b i false l inv = ap (λ (ys : List ℕ). earlier ys a b) (sym (drop_all i xs l)) ∙ inv
