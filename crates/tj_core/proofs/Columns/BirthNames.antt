-- Names as lists of births make them, and the fork order read from their ends.
use Rattle.std.proofs.Common.{◌≡◌, ℕ, zero, suc, ◌+◌, ◌-◌, ◌<◌, ◌≤◌, Bool, true, false, nat_eq, nat_lt, ◌&&◌, ◌||◌, List, [], ◌∷◌, ◌++◌, length, take, get_or, refl, sym, ap, ◌∙◌, ⊎_elim, arith}
use Rattle.std.proofs.Math.Seq.{get_or-append_seam}
use Rattle.std.proofs.Math.ListN.{get_or-append, get_or-eq_default}
use Rattle.std.proofs.lemmas.List.{length-append, take-append-le, length-take-le}
use Rattle.std.proofs.lemmas.Bool.{cases_lt, lt-ltb, ltb-true, false_from_ne_true}
use Rattle.tj_base.specs.ForkOrder.{Name, child, before}
use Rattle.tj_core.specs.declared.births.Birth.{Birth}
use Rattle.tj_core.specs.Inner.Births.{names_after, names_of, name_of, birth_at, maker_of, AreBorn}

-- the names after one birth
abbrev with_name : List Name → Birth → List Name
with_name names b = names ++ child (get_or names b.maker []) b.number ∷ []

length-with_name : (names : List Name) (b : Birth) → length (with_name names b) ≡ suc (length names)
length-with_name names b = length-append names (child (get_or names b.maker []) b.number ∷ []) ∙ omega arith

-- a birth adds one name at the end
pub names_after-snoc : (names : List Name) (bs : List Birth) (b : Birth) → names_after names (bs ++ b ∷ []) ≡ with_name
    (names_after names bs) b
names_after-snoc names [] b = refl
names_after-snoc names (x ∷ bs) b = names_after-snoc (with_name names x) bs b

pub length-names_after : (names : List Name) (bs : List Birth) → length (names_after names bs) ≡ length names + length
    bs
length-names_after names [] = omega arith
length-names_after names (b ∷ bs) = let e = length-names_after (with_name names b) bs in let l = length-with_name names
    b in omega arith

-- names stay
names_after-old : (names : List Name) (bs : List Birth) (i : ℕ) → i < length names → get_or (names_after names bs) i []
    ≡ get_or names i []
names_after-old names [] i h = refl
names_after-old names (b ∷ bs) i h =
    let l = length-with_name names b in
    names_after-old (with_name names b) bs i (omega arith) ∙ get_or-append names
    (child (get_or names b.maker []) b.number ∷ []) [] i h

-- the name of what is born at index i
names_after-new : (names : List Name) (bs : List Birth) (i : ℕ) → i < length bs → (birth_at bs i).maker < length names
    + i
    → get_or (names_after names bs) (length names + i) [] ≡ child
    (get_or (names_after names bs) (birth_at bs i).maker []) (birth_at bs i).number
names_after-new names [] i h m = absurd (omega arith)
names_after-new names (b ∷ bs) zero h m =
    let e : length names + 0 ≡ length names = omega arith in let l = length-with_name names b in
    rw e (names_after-old (with_name names b) bs (length names) (omega arith)
    ∙ (get_or-append_seam names (child (get_or names b.maker []) b.number) [] []
    ∙ ap (λ (n : Name). child n b.number)
    (sym (names_after-old (with_name names b) bs b.maker (omega arith) ∙ get_or-append names
    (child (get_or names b.maker []) b.number ∷ []) [] b.maker (omega arith)))))
names_after-new names (b ∷ bs) (suc i) h m =
    let l = length-with_name names b in let e : length names + suc i ≡ length (with_name names b) + i = omega arith in
    rw e (names_after-new (with_name names b) bs i (omega arith) (omega arith))

-- the name of a cell other than the root is its maker's and its number
pub name_of-birth : (bs : List Birth) (c : ℕ) → AreBorn bs → c < length bs → name_of bs (suc c) ≡ child
    (name_of bs (maker_of bs (suc c))) (birth_at bs c).number
name_of-birth bs c born h =
    let e : suc c ≡ 1 + c = omega arith in let m = born c h in
    ap (λ (i : ℕ). name_of bs i) e ∙ names_after-new ([] ∷ []) bs c h (omega arith)

pub name_of-root : (bs : List Birth) → name_of bs 0 ≡ []
name_of-root bs = names_after-old ([] ∷ []) bs 0 (omega arith)

-- a cell that isn't there has the root's name
pub name_beyond : (bs : List Birth) (c : ℕ) → length bs < c → name_of bs 0 ≡ name_of bs c
name_beyond bs c h =
    let l = length-names_after ([] ∷ []) bs in
    name_of-root bs ∙ sym (get_or-eq_default (names_of bs) [] (omega arith))

-- the fork order where no difference comes before the end of one of the names
abbrev pub before_else : Bool → Name → Name → Bool
before_else v [] ys = v
before_else v (x ∷ xs) [] = v
before_else v (x ∷ xs) (y ∷ ys) = nat_lt y x || (nat_eq x y && before_else v xs ys)

ge-ltb : (a b : ℕ) → b ≤ a → nat_lt a b ≡ false
ge-ltb a b h = false_from_ne_true (nat_lt a b) (λ e. let l = ltb-true a b e in omega arith)

-- a difference next to the ends of two equally long names comes before any later one
pub before_else-snoc : (v : Bool) (a b : Name) (x y : ℕ) → length a ≡ length b → before_else v (a ++ x ∷ [])
    (b ++ y ∷ []) ≡ before_else (nat_lt y x || (nat_eq x y && v)) a b
before_else-snoc v [] [] x y e = refl
before_else-snoc v [] (k ∷ b) x y e = absurd (omega arith)
before_else-snoc v (j ∷ a) [] x y e = absurd (omega arith)
before_else-snoc v (j ∷ a) (k ∷ b) x y e = ap (λ z. nat_lt k j || (nat_eq j k && z))
    (before_else-snoc v a b x y (omega arith))

-- the order of two names by their beginnings of the same length
pub before-take : (xs ys : Name) (n : ℕ) (v : Bool) → (length xs < length ys → (v ≡ true) × (n ≡ length xs))
    → (length ys ≤ length xs → (v ≡ false) × (n ≡ length ys)) → before xs ys ≡ before_else v (take n xs) (take n ys)
before-take [] [] n v f g = let h = g (omega arith) in rw h.1 (sym h.0)
before-take [] (y ∷ ys) n v f g = let h = f (omega arith) in rw h.1 (sym h.0)
before-take (x ∷ xs) [] n v f g = let h = g (omega arith) in rw h.1 (sym h.0)
before-take (x ∷ xs) (y ∷ ys) zero v f g = ⊎_elim
    (λ (l : length xs < length ys). let h = (f (omega arith)).1 in absurd (omega arith))
    (λ (l : length ys ≤ length xs). let h = (g (omega arith)).1 in absurd (omega arith))
    (cases_lt (length xs) (length ys))
before-take (x ∷ xs) (y ∷ ys) (suc n) v f g =
    ap (λ b. nat_lt y x || (nat_eq x y && b)) (before-take xs ys n v
    (λ l. let h = f (omega arith) in (h.0, (let e = h.1 in omega arith)))
    (λ l. let h = g (omega arith) in (h.0, (let e = h.1 in omega arith))))

-- the beginnings of two names, of the length that both have
pub levels : (xs ys : Name)
    → (length (take (length xs - (length xs - length ys)) xs) ≡ length (take (length ys - (length ys - length xs)) ys))
    × (before xs ys ≡ before_else (nat_lt (length xs) (length ys)) (take (length xs - (length xs - length ys)) xs)
    (take (length ys - (length ys - length xs)) ys))
levels xs ys =
    let n = length xs - (length xs - length ys) in
    let same : length ys - (length ys - length xs) ≡ n = omega arith in (
      length-take-le n xs (omega arith)
          ∙ (sym same ∙ sym (length-take-le (length ys - (length ys - length xs)) ys (omega arith))),
      before-take xs ys n (nat_lt (length xs) (length ys)) (λ l. (lt-ltb (length xs) (length ys) l, omega arith))
          (λ l. (ge-ltb (length xs) (length ys) l, omega arith))
          ∙ (λ j. before_else (nat_lt (length xs) (length ys)) (take n xs) (take (sym same j) ys)),
    )

module _ (bs : List Birth) (born : AreBorn bs) where
  -- a cell with a name is not the root
  pub name-nonzero : (c : ℕ) → 0 < length (name_of bs c) → 0 < c
  name-nonzero zero h = let e = name_of-root bs in absurd (let k = ap length e in omega arith)
  name-nonzero (suc c) h = omega arith

  -- the name of a cell above, for a cell that isn't the root
  pub name-above : (c : ℕ) → 0 < c → c < suc (length bs) → name_of bs c ≡ name_of bs (maker_of bs c)
      ++ (birth_at bs (c - 1)).number ∷ []
  name-above zero h l = absurd (omega arith)
  name-above (suc c) h l = let e : suc c - 1 ≡ c = omega arith in rw e (name_of-birth bs c born (omega arith))

  pub length-name-above : (c : ℕ) → 0 < c → c < suc (length bs) → length (name_of bs c) ≡ suc
      (length (name_of bs (maker_of bs c)))
  length-name-above c h l = let e = ap length (name-above c h l) in
      e ∙ (length-append (name_of bs (maker_of bs c)) ((birth_at bs (c - 1)).number ∷ []) ∙ omega arith)

  -- one step up on the way to a cell above
  pub climb-step : (c left : ℕ) → 0 < c → c < suc (length bs) → 0 < left → left ≤ length (name_of bs c)
      → take (length (name_of bs c) - left) (name_of bs c) ≡ take (length (name_of bs (maker_of bs c)) - (left - 1))
      (name_of bs (maker_of bs c))
  climb-step c left h l p q =
      let m = name_of bs (maker_of bs c) in let k = (birth_at bs (c - 1)).number in
      let e = length-name-above c h l in
      let i : length (name_of bs c) - left ≡ length m - (left - 1) = omega arith in
      (λ j. take (i j) (name-above c h l j)) ∙ take-append-le (length m - (left - 1)) m (k ∷ []) (omega arith)

  -- one step up from two equally deep cells
  pub level-step : (v : Bool) (a b : ℕ) → 0 < a → a < suc (length bs) → b < suc (length bs) → length (name_of bs a)
      ≡ length (name_of bs b)
      → (0 < b) × (length (name_of bs (maker_of bs a)) ≡ length (name_of bs (maker_of bs b)))
      × (before_else v (name_of bs a) (name_of bs b) ≡ before_else
      (nat_lt (birth_at bs (b - 1)).number (birth_at bs (a - 1)).number
      || (nat_eq (birth_at bs (a - 1)).number (birth_at bs (b - 1)).number && v)) (name_of bs (maker_of bs a))
      (name_of bs (maker_of bs b)))
  level-step v a b h la lb e =
      let ka = length-name-above a h la in
      let hb : 0 < b = name-nonzero b (omega arith) in
      let kb = length-name-above b hb lb in
      let s : length (name_of bs (maker_of bs a)) ≡ length (name_of bs (maker_of bs b)) = omega arith in (
        hb,
        s,
        (λ j. before_else v (name-above a h la j) (name-above b hb lb j)) ∙ before_else-snoc v
            (name_of bs (maker_of bs a)) (name_of bs (maker_of bs b)) (birth_at bs (a - 1)).number
            (birth_at bs (b - 1)).number s,
      )
