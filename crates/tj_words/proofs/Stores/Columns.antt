-- Columns, functions of a cell, of which a step changes one value: what is read of them is kept, or changes there
-- alone.
use Rattle.tj_words.proofs.Prelude.{Contents, Custody, Hand, Law, List, None, Option, Program, Some, ap, find_in}
use Rattle.tj_words.proofs.Prelude.{get_elem?, hand_in, hand_of, held_in, held_of, inl, inr, making, phase_of, put}
use Rattle.tj_words.proofs.Prelude.{refl, set, some, sym, ℕ, ⊎_elim, ◌∙◌, ◌≡◌, ◌≢◌, ◌⊎◌}
use Rattle.tj_words.proofs.Lemmas.{IsAlike, IsNoted, custody, find_changed, find_same, hand_put, hand_seat, held_alone}
use Rattle.tj_words.proofs.Lemmas.{held_here, making_put, one_some}
use Rattle.tj_words.proofs.Holders.NotedPairs.{noted_map}
use Rattle.tj_words.proofs.Holders.NotedEntries.{DoesSame}

module _ {B : Type 0} where
  -- the task does what it did, and has no record at home, or is as it was
  abbrev pub IsAsBefore : Custody B → Custody B → Type 0
  IsAsBefore k k' = (k'.does ≡ k.does) × ((k' ≡ k) ⊎ ((k.home ≡ None) × (k'.home ≡ None)))

  pub before_same : (k : Custody B) → IsAsBefore k k
  before_same k = (refl, inl refl)

  pub before_on : (a b c : Custody B) → IsAsBefore a b → IsAsBefore b c → IsAsBefore a c
  before_on a b c i j = (j.0 ∙ i.0, by i.1 j.1)
    where
      by : (b ≡ a) ⊎ ((a.home ≡ None) × (b.home ≡ None)) → (c ≡ b) ⊎ ((b.home ≡ None) × (c.home ≡ None))
          → (c ≡ a) ⊎ ((a.home ≡ None) × (c.home ≡ None))
      by (inl e) (inl q) = inl (q ∙ e)
      by (inl e) (inr w) = inr (ap (λ (z : Custody B). z.home) (sym e) ∙ w.0, w.1)
      by (inr w) (inl q) = inr (w.0, ap (λ (z : Custody B). z.home) q ∙ w.1)
      by (inr w) (inr z) = inr (w.0, z.1)

  pub before_like : (o o' : Option (Custody B)) → IsNoted IsAsBefore o o' → IsNoted IsAlike o o'
  before_like = noted_map IsAsBefore IsAlike (λ k k' i. ⊎_elim (λ (e : k' ≡ k). inl e)
      (λ (w : (k.home ≡ None) × (k'.home ≡ None)). inr (record { phase = ap phase_of i.0; out = w.0; out_now = w.1 }))
      i.1)

  pub before_doing : (o o' : Option (Custody B)) → IsNoted IsAsBefore o o' → IsNoted DoesSame o o'
  before_doing = noted_map IsAsBefore DoesSame (λ k k' i. i.0)

module _ {B : Type 0} {program : Program B} {cells : ℕ} {x : Contents B} (r : Law program cells x) (id : ℕ) where
  -- what is read of what some seat has for a task is kept, where it is by the seat whose list changes
  pub find_kept : {A : Type 0} (F : Option (Custody B) → A) (R : Custody B → Custody B → Type 0)
      → ((k k' : Custody B) → R k k' → F (Some k') ≡ F (Some k))
      → (ks new : List (Custody B)) → get_elem? x.seats.tasks id ≡ some ks
      → (u : ℕ) → IsNoted R (held_in ks u) (held_in new u)
      → F (find_in (set x.seats.tasks id new) u) ≡ F (held_of x u)
  find_kept F R keeps ks new at u = by (held_in ks u) (held_in new u) refl refl
    where
      by : (o o' : Option (Custody B)) → held_in ks u ≡ o → held_in new u ≡ o' → IsNoted R o o'
          → F (find_in (set x.seats.tasks id new) u) ≡ F (held_of x u)
      by None None e q i = ap F (find_same x.seats.tasks id u ks new at (q ∙ sym e))
      by (Some k) (Some k') e q i =
          ap F (find_changed x.seats.tasks id u ks new at (held_alone r id u (custody r id u k (ks, at, e)).mine) ∙ q)
          ∙ (keeps k k' i ∙ sym (ap F (held_here r id u k (ks, at, e))))
      by o o' e q i = absurd i

  -- a cell leaves the hand
  module _ (h : Hand) (has : get_elem? x.seats.hands id ≡ some (Some h)) where
    pub hand_off : hand_in (set x.seats.hands id None) ≡ put (hand_of x) h.cell None
    hand_off = hand_put x.seats.hands id h.cell (Some h) None has refl tt
        (λ i g n e q. n (r.hands.apart i id g h e has q))

    only_maker : (j : ℕ) (g : Hand) → j ≢ id → get_elem? x.seats.hands j ≡ some (Some g) → g.maker ≢ h.maker
    only_maker j g d e q =
        d (one_some j id (sym (hand_seat r j g e) ∙ (ap r.custody.holder q ∙ hand_seat r id h has)))

    pub making_off : (t : ℕ) → making (set x.seats.hands id None) t ≡ put (making x.seats.hands) h.maker 0 t
    making_off t j = making_put x.seats.hands id h.maker (Some h) None has refl tt only_maker j t
