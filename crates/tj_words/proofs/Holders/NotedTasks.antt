-- A seat's list of tasks in which what it has for one of them is noted anew.
use Rattle.tj_words.proofs.Prelude.{About, BackingOf, Custody, Due, IsSeat, IsSpent, IsWithinLot, Key, List, Push, Some}
use Rattle.tj_words.proofs.Prelude.{View, WithinLot, ap, held_in, hold, inr, least_lot, noted, ℕ, ⊎_elim, ◌≡◌, ◌≤◌}
use Rattle.tj_words.specs.SeatViews.TaskLists.{note}
use Rattle.tj_words.specs.Law.{IsNamed, IsSeatOf, seat_part}
use Rattle.tj_words.proofs.Holders.HeldTasks.{none_some}

-- what is noted of a task that the seat has stands in its place
pub noted_is : {B : Type 0} (ks : List (Custody B)) (t : ℕ) (k : Custody B) (f : Custody B → Custody B)
    → held_in ks t ≡ Some k
    → noted t f ks ≡ hold (f k) ks
noted_is ks t k f e = ap (λ o. note o f ks) e

-- a seat that holds a task isn't spent
pub holder_lot : {B : Type 0} (v : View B) (t : ℕ) (k : Custody B) → held_in v.tasks t ≡ Some k → IsWithinLot v
    → least_lot ≤ v.lot
holder_lot v t k e l = ⊎_elim
    (λ (s : IsSpent v). none_some (held_in v.tasks t) k (ap (λ ks. held_in ks t) s.1) e)
    (λ h. h) l.least

-- it has its lot, with other tokens that fit it
pub holder_within : {B : Type 0} (v : View B) (t : ℕ) (k : Custody B) → held_in v.tasks t ≡ Some k → IsWithinLot v
    → (tokens : ℕ) (ks : List (Custody B)) → tokens ≤ v.lot
    → WithinLot v.about ks v.lot v.refused tokens v.cleared
holder_within v t k e l tokens ks fits = record {
  least = inr (holder_lot v t k e l);
  refused_fit = l.refused_fit;
  tokens_fit = fits;
  cleared_fit = l.cleared_fit;
}

-- and names a table
pub holder_named : {B : Type 0} (v : View B) (t : ℕ) (k : Custody B) → held_in v.tasks t ≡ Some k → IsNamed v
    → (a : About B) × (v.about ≡ Some a)
holder_named v t k e n = ⊎_elim
    (λ (s : IsSpent v). none_some (held_in v.tasks t) k (ap (λ ks. held_in ks t) s.1) e)
    (λ h. h) n

-- a seat that holds a task, with other tokens, tasks, pushes and dues, is one where it is backed
pub holder_seat : {B : Type 0} (key : Key B) (v : View B) (t : ℕ) (k : Custody B) → held_in v.tasks t ≡ Some k
    → IsSeat key v → (tokens : ℕ) (ks : List (Custody B)) (pushes : List Push) (dues : List Due) → tokens ≤ v.lot
    → BackingOf tokens ks pushes v.shuts v.rest dues
    → IsSeatOf key (record (seat_part v) { tokens = tokens; tasks = ks; pushes = pushes; dues = dues })
holder_seat key v t k e h tokens ks pushes dues fits backs = record {
  about = h.about;
  named = inr (holder_named v t k e h.named);
  within_lot = holder_within v t k e h.within_lot tokens ks fits;
  backing = backs;
  known_born = h.known_born;
}
