-- An entry of a log, told in other terms.
use Rattle.std.proofs.Common.{◌≡◌, ◌≢◌, eqb, eq-eqb, ne_eqb, ℕ, List, ◌∷◌, ap, ◌∙◌}
use prog.Atomic.{either}
use Rattle.tj_log.specs.declared.entry.Did.{Did}
use Rattle.tj_log.specs.declared.entry.Entry.{Entry}

pub logged_so : {l m : List Entry} {did : Did} {i j a b c d n k : ℕ} → i ≡ j → a ≡ b → c ≡ d → n ≡ k
    → m ≡ record { did = did; word = i; first = a; second = c; found = n } ∷ l
    → m ≡ record { did = did; word = j; first = b; second = d; found = k } ∷ l
logged_so {l} {m} {did} p q r s e =
    e ∙ (λ z. record { did = did; word = p z; first = q z; second = r z; found = s z } ∷ l)

-- and so is what a call of the log says, of the entry and of the logs taken in
pub is_logged : {l m : List Entry} {T : Type 0} {did : Did} {i j a b c d n k : ℕ} → i ≡ j → a ≡ b → c ≡ d → n ≡ k
    → m ≡ record { did = did; word = i; first = a; second = c; found = n } ∷ l → T
    → (m ≡ record { did = did; word = j; first = b; second = d; found = k } ∷ l) × T
is_logged p q r s e t = (logged_so p q r s e, t)

-- what an exchange leaves
pub exchange_hit : (k a b : ℕ) → k ≡ a → either (eqb k a) b k ≡ b
exchange_hit k a b e = ap (λ z. either z b k) (eq-eqb k a e)

pub exchange_missed : (k a b : ℕ) → k ≢ a → either (eqb k a) b k ≡ k
exchange_missed k a b n = ap (λ z. either z b k) (ne_eqb k a n)
