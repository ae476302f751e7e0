-- A seat takes a task out of its slot.
use Rattle.tj_park.proofs.Prelude.{AreCells, Bool, Claimed, Filled, HasSlot, IfSome, IsIn, List, None, Option, Program}
use Rattle.tj_park.proofs.Prelude.{Rec, SeatMe, SlotsOf, Some, View, [], ap, custody_of, held_in, hold, in_left}
use Rattle.tj_park.proofs.Prelude.{more_in_front, record_cells, refl, rest, subst, sym, took_record, ℕ, ◌++◌, ◌∙◌, ◌∷◌}
use Rattle.tj_park.proofs.Prelude.{◌≡◌}
use Rattle.tj_words.specs.Calls.ExchangeViews.{Claims}
use Rattle.tj_words.specs.Calls.TakenRecords.{TakesRecord, IsKnownRecord}
use Rattle.tj_words.specs.SeatViews.Views.{stepped_on}
use Rattle.tj_words.proofs.Holders.SeatTasks.{hold_here}
use Rattle.tj_park.specs.Records.{HasTaken}

module _ {B : Type 0} where
  -- what lies in the slot that the seat took last
  abbrev first_in : SlotsOf B → Option (Rec B)
  first_in [] = None
  first_in (s ∷ slots) = s.1

  -- the record that lay in the slot is taken out
  pub taken_out : (t : ℕ) (r : Rec B) (w : View B) (l : SlotsOf B) (m m' : SeatMe B) (o : Option (Rec B))
      → m ≡ (w, (t, Some r) ∷ l) → m.1 ≡ (t, o) ∷ rest m.1 → m' ≡ (m.0, (t, None) ∷ rest m.1)
      → (o ≡ Some r) × (m' ≡ (w, (t, None) ∷ l))
  taken_out t r w l m m' o e found now = (
    ap first_in (sym found ∙ ap (λ (z : SeatMe B). z.1) e),
    now ∙ ap (λ (z : SeatMe B). (z.0, (t, None) ∷ rest z.1)) e,
  )

  -- a slot in front is the one that was taken last
  pub slot_in_front : (t : ℕ) (o : Option (Rec B)) (w : View B) (l : SlotsOf B) (m : SeatMe B)
      → m ≡ (w, (t, o) ∷ l) → HasSlot t m
  slot_in_front t o w l m e = subst (HasSlot t) (sym e) (o, refl)

  module _ (program : Bool → B → Program B) (t : ℕ) (v : View B) (r : Rec B) (k : TakesRecord program t v r) where
    -- a view that holds the task and knows what was learnt has been given the record
    pub has_taken : (w : View B) → (ks : View B) → w.tasks ≡ hold (custody_of r) ks.tasks
        → w.known ≡ record_cells r ++ v.known
        → w.born ≡ k.born → w.filled ≡ k.more ++ v.filled → w.about ≡ v.about → HasTaken program t r w
    has_taken w ks tasks known born filled about = record {
      held = ap (λ l. held_in l t) tasks
          ∙ subst (λ z. held_in (hold (custody_of r) ks.tasks) z ≡ Some (custody_of r)) k.of_task
          (hold_here (custody_of r) ks.tasks);
      has = record {
        cell = k.of_task;
        owned = refl;
        made = refl;
        knows = λ c i. subst (IsIn c) (sym known) (in_left c (record_cells r) v.known i);
      };
      unfinished = k.unfinished;
      owns_result = k.owns_result;
      owned_apart = k.owned_apart;
      all = λ a e. subst (AreCells a.cells) (sym born) (k.all a (sym about ∙ e));
      known = λ a e. subst (λ (f : List Filled). IsKnownRecord (program a.strict a.root) w.born f r) (sym filled)
          (subst (λ b. IsKnownRecord (program a.strict a.root) b (k.more ++ v.filled) r) (sym born)
          (k.known a (sym about ∙ e)));
    }

  -- a ready task was claimed
  pub claimed : (program : Bool → B → Program B) (t : ℕ) (m m' m'' : SeatMe B) (o : Option (Rec B))
      → (c : Claims program t m m') → m'.1 ≡ (t, o) ∷ rest m'.1 → m'' ≡ (m'.0, (t, None) ∷ rest m'.1)
      → IfSome o (λ r. Claimed program t r m.0 m''.0) × IfSome o (λ _. m''.1 ≡ (t, None) ∷ m.1)
  claimed program t m m' m'' o c found now = (
    subst (λ x. IfSome x (λ r. Claimed program t r m.0 m''.0)) (sym out.0)
        (subst (λ (z : SeatMe B). Claimed program t c.0 m.0 z.0) (sym out.1) is),
    subst (λ x. IfSome x (λ _. m''.1 ≡ (t, None) ∷ m.1)) (sym out.0) (ap (λ (z : SeatMe B). z.1) out.1),
  )
    where
      k : TakesRecord program t m.0 c.0
      k = c.1

      w : View B
      w = stepped_on (took_record c.0 k.born k.more m.0)

      out : (o ≡ Some c.0) × (m'' ≡ (w, (t, None) ∷ m.1))
      out = taken_out t c.0 w m.1 m' m'' o c.2 found now

      is : Claimed program t c.0 m.0 w
      is = record {
        taken = has_taken program t m.0 c.0 k w m.0 refl refl refl refl refl;
        tasks = refl;
        knows = more_in_front m.0 w (record_cells c.0) [] k.more [] [] k.begins ([], refl);
        hand = record { hand = refl; dues = refl };
        wakes = record { pushes = refl; shuts = refl; rest = refl };
        counts = record { tokens = refl; cleared = refl; refused = refl };
        steps = refl;
        plain_loads = refl;
        once_loads = refl;
        records = refl;
        put_home = refl;
      }
