-- A task that has blocked may be parked or shelved; how it leaves its worker then, or comes back.
use Rattle.tj_run.proofs.Prelude.{Blocked, Bool, ComesBack, GaveBack, HasNoRecord, HasSlot, Held, IsLeft, Laid}
use Rattle.tj_run.proofs.Prelude.{LeftTask, MayParkTask, MayShelve, None, Program, Rec, SeatMe, Verdict, Way, held_at}
use Rattle.tj_run.proofs.Prelude.{refl, rest, shelved, subst, sym, waits_at, ℕ, ◌∷◌, ◌≡◌}
use Rattle.tj_run.specs.Inner.Waits.{HasBlocked}
use Rattle.tj_run.proofs.Waiting.WaitConditions.{IsQuiet, IsToWait, back_parked, left_parked, left_shelved, others_then}
use Rattle.tj_run.proofs.Waiting.WaitConditions.{park_then, shelve_then, slot_then}
use Rattle.tj_detect.specs.declared.blocking.Verdict.TheVariants as verdict

module _ {B : Type 0} {program : Bool → B → Program B} {laid : Laid B} {r : Rec B} {q : ℕ} {wait : Way} {d : Verdict}
    {old m : SeatMe B} (h : HasBlocked program laid r q wait d old m) where
  abbrev x : Rec B
  x = h.before

  abbrev cell : Held
  cell = held_at x.held h.place

  before : IsToWait program laid x h.place h.spare old cell
  before = record { runs = h.runs; waits = h.waits; is = refl }

  -- what holds of the record and the cell as they were before holds of them now
  here : (F : Rec B → ℕ → Type 0) → F (waits_at h.place h.spare x) cell.cell.0 → F r q
  here F y = subst (λ z. F z q) (sym h.record_is) (subst (F (waits_at h.place h.spare x)) (sym h.cell_is) y)

  -- and the contrary
  there : (F : Rec B → ℕ → Type 0) → F r q → F (waits_at h.place h.spare x) cell.cell.0
  there F y = subst (λ z. F z cell.cell.0) h.record_is (subst (F r) h.cell_is y)

  -- its seat took its slot last, and no other
  pub blocked_slot : HasSlot r.cell.0 m
  blocked_slot = here (λ z p. HasSlot z.cell.0 m) (slot_then before h.looked h.read h.looked_slots m h.slots)

  pub blocked_others : HasNoRecord (rest m.1)
  blocked_others = others_then before h.looked h.read h.looked_slots m h.slots

  -- a task that has alarmed is shelved, and has left then
  module _ (alarm : d ≡ verdict.Alarm) where
    alarms : Blocked verdict.Alarm x.cell.0 cell.cell.0 wait h.looked.0 m.0
    alarms = subst (λ z. Blocked z x.cell.0 cell.cell.0 wait h.looked.0 m.0) alarm h.blocked

    pub may_be_shelved : MayShelve program r.cell.0 r m.0
    may_be_shelved = here (λ z p. MayShelve program z.cell.0 z m.0) (shelve_then before h.looked h.read
        h.looked_slots wait m h.slots alarms)

    pub leaves_shelved : {y : Rec B} (n : SeatMe B) → n ≡ (shelved r.cell.0 y m.0, rest m.1) → IsLeft laid old.0 n
    leaves_shelved {y} n e = left_shelved before h.looked h.read h.looked_slots wait m h.slots alarms n
        (there (λ z p. n ≡ (shelved z.cell.0 y m.0, rest m.1)) e)

  -- a task whose walk has ended is parked, and has left then, or comes back
  module _ (quiet : IsQuiet d) where
    pub may_be_parked : MayParkTask program r.cell.0 q wait r m.0
    may_be_parked = here (λ z p. MayParkTask program z.cell.0 p wait z m.0) (park_then before h.looked h.read
        h.looked_slots wait m h.slots d quiet h.blocked)

    pub leaves_parked : (n : SeatMe B) → LeftTask laid.cells r.cell.0 m.0 n.0 → n.1 ≡ rest m.1 → IsLeft laid old.0 n
    leaves_parked n p e = left_parked before h.looked h.read h.looked_slots wait m h.slots d quiet h.blocked n
        (there (λ z c. LeftTask laid.cells z.cell.0 m.0 n.0) p) e

    pub comes_back : (n : SeatMe B) (y : Rec B) → GaveBack program laid.cells r.cell.0 q y m.0 n.0
        → n.1 ≡ (r.cell.0, None) ∷ rest m.1
        → ComesBack program laid y old.0 n
    comes_back n y g e = back_parked before h.looked h.read h.looked_slots wait m h.slots d quiet h.blocked n y
        (there (λ z c. GaveBack program laid.cells z.cell.0 c y m.0 n.0) g)
        (there (λ z c. n.1 ≡ (z.cell.0, None) ∷ rest m.1) e)
