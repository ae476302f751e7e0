-- What a seat has for a task after a change of its list, held against what it had before.
use Rattle.tj_words.proofs.Prelude.{Custody, None, Option, Some, refl, ◌≡◌}

module _ {B : Type 0} where
  -- a seat has this for a task where it had that
  abbrev pub IsNoted : (Custody B → Custody B → Type 0) → Option (Custody B) → Option (Custody B) → Type 0
  IsNoted R None None = Unit {0}
  IsNoted R None (Some k') = ⊥
  IsNoted R (Some k) None = ⊥
  IsNoted R (Some k) (Some k') = R k k'

  module _ (R : Custody B → Custody B → Type 0) where
    pub noted_same : ((m : Custody B) → R m m) → (o : Option (Custody B)) → IsNoted R o o
    noted_same same None = tt
    noted_same same (Some k) = same k

    pub noted_on : ((a b c : Custody B) → R a b → R b c → R a c)
        → (a b c : Option (Custody B)) → IsNoted R a b → IsNoted R b c → IsNoted R a c
    noted_on on None None c i j = j
    noted_on on None (Some y) c i j = absurd i
    noted_on on (Some x) None c i j = absurd i
    noted_on on (Some x) (Some y) None i j = absurd j
    noted_on on (Some x) (Some y) (Some z) i j = on x y z i j

    -- where the seat has something now it had something, and the other way round
    pub noted_before : (o : Option (Custody B)) (k' : Custody B) → IsNoted R o (Some k')
        → (k : Custody B) × (o ≡ Some k) × R k k'
    noted_before None k' i = absurd i
    noted_before (Some k) k' i = (k, refl, i)

    pub noted_after : (k : Custody B) (o : Option (Custody B)) → IsNoted R (Some k) o
        → (k' : Custody B) × (o ≡ Some k') × R k k'
    noted_after k None i = absurd i
    noted_after k (Some k') i = (k', refl, i)

    -- a relation that says less
    pub noted_map : (S : Custody B → Custody B → Type 0) → ((k k' : Custody B) → R k k' → S k k')
        → (o o' : Option (Custody B)) → IsNoted R o o' → IsNoted S o o'
    noted_map S on None None i = tt
    noted_map S on (Some k) (Some k') i = on k k' i
    noted_map S on None (Some k') i = i
    noted_map S on (Some k) None i = i
