-- What is in hand, and who makes it, after one seat's hand has changed.
use Rattle.tj_words.proofs.Prelude.{Bool, Hand, List, None, Option, Some, [], ap, at_put, cond, eq-eqb, false}
use Rattle.tj_words.proofs.Prelude.{get_elem?, hand_in, making, nat_eq, ne_eqb, put, refl, set, some, some-injective}
use Rattle.tj_words.proofs.Prelude.{some-ne-none, subst, suc, sym, true, zero, ℕ, ◌∙◌, ◌∷◌, ◌≡◌, ◌≢◌}

-- the hand is of this number, its cell or its maker, if it is one
abbrev pub IsOf : (Hand → ℕ) → ℕ → Option Hand → Type 0
IsOf number c None = Unit {0}
IsOf number c (Some h) = number h ≡ c

-- what a hand says, where none says this
abbrev pub told : {A : Type 0} → A → (Hand → A) → Option Hand → A
told none says None = none
told none says (Some h) = says h

-- a number of each hand, and what a hand says of it
module _ {A : Type 0} (number : Hand → ℕ) (says : Hand → A) where
  -- what one hand says of a number, where the others say the rest
  abbrev first : Option Hand → ℕ → A → A
  first None c rest = rest
  first (Some h) c rest = cond (nat_eq (number h) c) (says h) rest

  -- a hand of another number says nothing of it, and one of its own what it says
  first_skips : (o : Option Hand) (c : ℕ) (rest : A) → ((g : Hand) → o ≡ Some g → number g ≢ c)
      → first o c rest ≡ rest
  first_skips None c rest n = refl
  first_skips (Some h) c rest n = ap (λ (b : Bool). cond b (says h) rest) (ne_eqb (number h) c (n h refl))

  first_else : (o : Option Hand) (c d : ℕ) (rest : A) → IsOf number c o → d ≢ c → first o d rest ≡ rest
  first_else None c d rest i n = refl
  first_else (Some h) c d rest i n =
      ap (λ (b : Bool). cond b (says h) rest) (ne_eqb (number h) d (λ e. n (sym e ∙ i)))

  first_own : (o : Option Hand) (c : ℕ) (rest : A) → IsOf number c o → first o c rest ≡ told rest says o
  first_own None c rest i = refl
  first_own (Some h) c rest i = ap (λ (b : Bool). cond b (says h) rest) (eq-eqb (number h) c i)

  -- what is so of what each hand says, and of the rest, is so of both
  first_both : (P : A → Type 0) → ((g : Hand) → P (says g)) → (o : Option Hand) (c : ℕ) (rest : A) → P rest
      → P (first o c rest)
  first_both P own None c rest p = p
  first_both P own (Some g) c rest p = by (nat_eq (number g) c)
    where
      by : (b : Bool) → P (cond b (says g) rest)
      by true = own g
      by false = p

  -- what all hands say of a number
  module _ (none : A) (F : List (Option Hand) → ℕ → A) (nil : (c : ℕ) → F [] c ≡ none)
      (cons : (o : Option Hand) (hands : List (Option Hand)) (c : ℕ) → F (o ∷ hands) c ≡ first o c (F hands c)) where
    nobody : (hands : List (Option Hand)) (c : ℕ)
        → ((j : ℕ) (g : Hand) → get_elem? hands j ≡ some (Some g) → number g ≢ c) → F hands c ≡ none
    nobody [] c n = nil c
    nobody (o ∷ hands) c n =
        cons o hands c
        ∙ (first_skips o c (F hands c) (λ g q. n 0 g (ap (λ (i : Option Hand). some i) q))
        ∙ nobody hands c (λ j g e. n (suc j) g e))

    -- of one that no other seat's hand has the hand that is set tells
    first_set : (hands : List (Option Hand)) (id c : ℕ) (o new : Option Hand) → get_elem? hands id ≡ some o
        → ((j : ℕ) (g : Hand) → j ≢ id → get_elem? hands j ≡ some (Some g) → number g ≢ c)
        → F (set hands id new) c ≡ first new c none
    first_set [] id c o new e a = absurd (some-ne-none o (sym e))
    first_set (m ∷ hands) zero c o new e a =
        cons new hands c
        ∙ ap (first new c) (nobody hands c (λ j g q. a (suc j) g (λ z. let d : suc j ≡ 0 = z in cc) q))
    first_set (m ∷ hands) (suc id) c o new e a =
        cons m (set hands id new) c
        ∙ (first_skips m c (F (set hands id new) c)
        (λ g q. a 0 g (λ z. let d : 0 ≡ suc id = z in cc) (ap (λ (i : Option Hand). some i) q))
        ∙ first_set hands id c o new e (λ j g n q. a (suc j) g (λ z. n (cc)) q))

    -- of one of which the new hand says what the old one said the same is said
    first_kept : (hands : List (Option Hand)) (id c : ℕ) (o new : Option Hand) → get_elem? hands id ≡ some o
        → ((rest : A) → first new c rest ≡ first o c rest) → F (set hands id new) c ≡ F hands c
    first_kept [] id c o new e same = absurd (some-ne-none o (sym e))
    first_kept (m ∷ hands) zero c o new e same =
        cons new hands c
        ∙ (same (F hands c)
        ∙ (ap (λ i. first i c (F hands c)) (sym (some-injective m o e)) ∙ sym (cons m hands c)))
    first_kept (m ∷ hands) (suc id) c o new e same =
        cons m (set hands id new) c
        ∙ (ap (first m c) (first_kept hands id c o new e same) ∙ sym (cons m hands c))

    -- so where a hand becomes another of one number, which no other seat's hand has, the new one tells of it
    first_put : (hands : List (Option Hand)) (id c : ℕ) (o new : Option Hand) → get_elem? hands id ≡ some o
        → IsOf number c o → IsOf number c new
        → ((j : ℕ) (g : Hand) → j ≢ id → get_elem? hands j ≡ some (Some g) → number g ≢ c)
        → F (set hands id new) ≡ put (F hands) c (told none says new)
    first_put hands id c o new at was now others j d =
        at_put (F hands) c (told none says new) (λ d y. F (set hands id new) d ≡ y) d
        (first_set hands id c o new at others ∙ first_own new c none now)
        (λ n. first_kept hands id d o new at
        (λ rest. first_else new c d rest now n ∙ sym (first_else o c d rest was n))) j

    -- what is so of what each hand says is so of what is told of the number of one of them
    first_tells : (P : A → Type 0) → ((g : Hand) → P (says g)) → (hands : List (Option Hand)) (j : ℕ) (h : Hand)
        → get_elem? hands j ≡ some (Some h) → P (F hands (number h))
    first_tells P own [] j h e = absurd (some-ne-none (Some h) (sym e))
    first_tells P own (m ∷ hands) zero h e = subst P (sym (cons m hands (number h)
        ∙ (ap (λ o. first o (number h) (F hands (number h))) (some-injective m (Some h) e)
        ∙ first_own (Some h) (number h) (F hands (number h)) refl))) (own h)
    first_tells P own (m ∷ hands) (suc j) h e = subst P (sym (cons m hands (number h)))
        (first_both P own m (number h) (F hands (number h)) (first_tells P own hands j h e))

hand_cons : (o : Option Hand) (hands : List (Option Hand)) (c : ℕ)
    → hand_in (o ∷ hands) c ≡ first (λ (h : Hand). h.cell) (λ (h : Hand). Some h) o c (hand_in hands c)
hand_cons None hands c = refl
hand_cons (Some h) hands c = refl

-- the cells in hand, where one seat's hand becomes another, and each is of cell c, if there is one
pub hand_put : (hands : List (Option Hand)) (id c : ℕ) (o new : Option Hand) → get_elem? hands id ≡ some o
    → IsOf (λ (h : Hand). h.cell) c o → IsOf (λ (h : Hand). h.cell) c new
    → ((j : ℕ) (g : Hand) → j ≢ id → get_elem? hands j ≡ some (Some g) → g.cell ≢ c)
    → hand_in (set hands id new) ≡ put (hand_in hands) c (told None (λ (h : Hand). Some h) new)
hand_put = first_put (λ (h : Hand). h.cell) (λ (h : Hand). Some h) None hand_in (λ c. refl) hand_cons

-- what a seat has in hand is found, or something else is
pub hand_finds : (hands : List (Option Hand)) (j : ℕ) (h : Hand) → get_elem? hands j ≡ some (Some h)
    → (g : Hand) × (hand_in hands h.cell ≡ Some g)
hand_finds = first_tells (λ (h : Hand). h.cell) (λ (h : Hand). Some h) None hand_in (λ c. refl) hand_cons
    (λ o. (g : Hand) × (o ≡ Some g)) (λ g. (g, refl))

makes_cons : (o : Option Hand) (hands : List (Option Hand)) (t : ℕ)
    → making (o ∷ hands) t ≡ first (λ (h : Hand). h.maker) (λ (h : Hand). 1) o t (making hands t)
makes_cons None hands t = refl
makes_cons (Some h) hands t = refl

-- the same of how many cells in hand a task makes
pub making_put : (hands : List (Option Hand)) (id t : ℕ) (o new : Option Hand) → get_elem? hands id ≡ some o
    → IsOf (λ (h : Hand). h.maker) t o → IsOf (λ (h : Hand). h.maker) t new
    → ((j : ℕ) (g : Hand) → j ≢ id → get_elem? hands j ≡ some (Some g) → g.maker ≢ t)
    → making (set hands id new) ≡ put (making hands) t (told 0 (λ (h : Hand). 1) new)
making_put = first_put (λ (h : Hand). h.maker) (λ (h : Hand). 1) 0 making (λ t. refl) makes_cons

-- a hand of the same maker leaves them
pub makes_kept : (hands : List (Option Hand)) (id : ℕ) (h h' : Hand) → get_elem? hands id ≡ some (Some h)
    → h'.maker ≡ h.maker → (t : ℕ) → making (set hands id (Some h')) t ≡ making hands t
makes_kept hands id h h' at e t = first_kept (λ (h : Hand). h.maker) (λ (h : Hand). 1) 0 making (λ t. refl) makes_cons
    hands id t (Some h) (Some h') at (λ rest. ap (λ m. cond (nat_eq m t) 1 rest) e)

-- the maker of a cell in hand makes one, and a task that is no seat's maker none
pub makes_one : (hands : List (Option Hand)) (j : ℕ) (h : Hand) → get_elem? hands j ≡ some (Some h)
    → making hands h.maker ≡ 1
makes_one = first_tells (λ (h : Hand). h.maker) (λ (h : Hand). 1) 0 making (λ t. refl) makes_cons
    (λ m. m ≡ 1) (λ g. refl)

pub makes_none : (hands : List (Option Hand)) (t : ℕ)
    → ((j : ℕ) (h : Hand) → get_elem? hands j ≡ some (Some h) → h.maker ≢ t) → making hands t ≡ 0
makes_none = nobody (λ (h : Hand). h.maker) (λ (h : Hand). 1) 0 making (λ t. refl) makes_cons
