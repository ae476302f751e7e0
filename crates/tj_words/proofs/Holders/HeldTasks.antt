-- Tasks that seats hold and cells in hand, as searches through the views find them.
use Rattle.tj_words.proofs.Prelude.{Bool, Custody, Hand, IsIn, List, None, OfSeat, Option, Some, [], ap, arith, cond}
use Rattle.tj_words.proofs.Prelude.{dite, eq-eqb, find_in, get_elem?, get_or, hand_in, held_in, length, ne_eqb, or_else}
use Rattle.tj_words.proofs.Prelude.{refl, some, some-injective, some-ne-none, suc, sym, zero, ℕ, ℕ_discrete, ◌<◌, ◌∙◌}
use Rattle.tj_words.proofs.Prelude.{◌∷◌, ◌≡◌, ◌≢◌}

-- nothing is something
pub none_some : {A : Type 0} {Z : Type 0} (o : Option A) (a : A) → o ≡ None → o ≡ Some a → Z
none_some o a e q = let d : None ≡ Some a = sym e ∙ q in absurd (cc)

-- what can't be something is nothing
pub none_unless : {A : Type 0} (o : Option A) → ((a : A) → o ≢ Some a) → o ≡ None
none_unless None n = refl
none_unless (Some a) n = absurd (n a refl)

-- one thing at most
pub one_some : {A : Type 0} (a b : A) → Some a ≡ Some b → a ≡ b
one_some a b e = cc

module _ {B : Type 0} (k : Custody B) (ks : List (Custody B)) (t : ℕ) where
  -- a list has its first element for the task of that, and for each other one what the rest has
  pub held_first : k.task ≡ t → held_in (k ∷ ks) t ≡ Some k
  held_first e = ap (λ (b : Bool). cond b (Some k) (held_in ks t)) (eq-eqb k.task t e)

  pub held_rest : k.task ≢ t → held_in (k ∷ ks) t ≡ held_in ks t
  held_rest n = ap (λ (b : Bool). cond b (Some k) (held_in ks t)) (ne_eqb k.task t n)

module _ {B : Type 0} where
  -- a seat has this for the task
  abbrev Has : List (List (Custody B)) → ℕ → Custody B → ℕ → Type 0
  Has seats t k j = OfSeat (λ ks. held_in ks t ≡ Some k) seats j

  -- what is found is with some seat
  pub found : (seats : List (List (Custody B))) (t : ℕ) (k : Custody B) → find_in seats t ≡ Some k
      → (j : ℕ) × Has seats t k j
  found [] t k e = none_some None k refl e
  found (ks ∷ seats) t k e = by (held_in ks t) refl e (λ q. found seats t k q)
    where
      by : (o : Option (Custody B)) → held_in ks t ≡ o → or_else o (find_in seats t) ≡ Some k
          → (find_in seats t ≡ Some k → (j : ℕ) × Has seats t k j)
          → (j : ℕ) × Has (ks ∷ seats) t k j
      by (Some k') q e rec = (0, (ks, refl, q ∙ e))
      by None q e rec = let r = rec e in (suc r.0, r.1)

  -- what a seat has is found, or something else is
  pub finds : (seats : List (List (Custody B))) (t j : ℕ) (k : Custody B) → Has seats t k j
      → (k' : Custody B) × (find_in seats t ≡ Some k')
  finds [] t j k h = absurd (some-ne-none h.0 (sym h.1))
  finds (ks ∷ seats) t j k h = by (held_in ks t) refl (λ i q. finds seats t i k q)
    where
      tail : (j : ℕ) → ((i : ℕ) → Has seats t k i → (k' : Custody B) × (find_in seats t ≡ Some k'))
          → held_in ks t ≡ None → Has (ks ∷ seats) t k j → (k' : Custody B) × (find_in seats t ≡ Some k')
      tail zero rec q h = none_some (held_in ks t) k q (ap (λ l. held_in l t) (some-injective ks h.0 h.1) ∙ h.2)
      tail (suc i) rec q h = rec i h

      by : (o : Option (Custody B)) → held_in ks t ≡ o
          → ((i : ℕ) → Has seats t k i → (k' : Custody B) × (find_in seats t ≡ Some k'))
          → (k' : Custody B) × (or_else o (find_in seats t) ≡ Some k')
      by (Some k') q rec = (k', refl)
      by None q rec = tail j rec q h

-- the hand in which a cell is found is one of those of the seats
pub hand_found : (hands : List (Option Hand)) (c : ℕ) (h : Hand) → hand_in hands c ≡ Some h
    → ((j : ℕ) × (get_elem? hands j ≡ some (Some h))) × (h.cell ≡ c)
hand_found [] c h e = none_some None h refl e
hand_found (None ∷ hands) c h e = let r = hand_found hands c h e in ((suc r.0.0, r.0.1), r.1)
hand_found (Some g ∷ hands) c h e = dite (ℕ_discrete g.cell c)
    (λ q. let i : g ≡ h = one_some g h (sym (ap (λ (b : Bool). cond b (Some g) (hand_in hands c))
    (eq-eqb g.cell c q)) ∙ e) in
    ((0, ap (λ (z : Hand). some (Some z)) i), ap (λ (z : Hand). z.cell) (sym i) ∙ q))
    (λ n. let r = hand_found hands c h (sym (ap (λ (b : Bool). cond b (Some g) (hand_in hands c))
    (ne_eqb g.cell c n)) ∙ e) in ((suc r.0.0, r.0.1), r.1))

-- what a seat has for a task is in its list
pub held_listed : {B : Type 0} (ks : List (Custody B)) (t : ℕ) (k : Custody B) → held_in ks t ≡ Some k → IsIn k ks
held_listed [] t k e = none_some None k refl e
held_listed (k' ∷ ks) t k e = let r = held_listed ks t k in grind arith

-- the element at an index of the list
pub at_index : {A : Type 0} (l : List A) (c : ℕ) (d : A) → c < length l → get_elem? l c ≡ some (get_or l c d)
at_index [] c d h = absurd (omega arith)
at_index (x ∷ xs) zero d h = refl
at_index (x ∷ xs) (suc c) d h = at_index xs c d (omega arith)

-- an element of the list at its index
pub index_is : {A : Type 0} (l : List A) (c : ℕ) (d a : A) → get_elem? l c ≡ some a → get_or l c d ≡ a
index_is [] c d a e = absurd (some-ne-none a (sym e))
index_is (x ∷ xs) zero d a e = some-injective x a e
index_is (x ∷ xs) (suc c) d a e = index_is xs c d a e
