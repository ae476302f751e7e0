-- The steps by which a task ends, over what its end begins with: its promises are broken, and no record lies in the
-- other slots of its seat. By the view that is left the record lies at home for good.
use Rattle.tj_park.proofs.Prelude.{Bool, CellId, HasBroken, HasNoRecord, HasWoken, IsIn, IsTailOf, List}
use Rattle.tj_park.proofs.Prelude.{MayCloseResult, MayFinish, MayLowerLive, MayWake, OrderedHasSame, Program, Rec}
use Rattle.tj_park.proofs.Prelude.{SeatMe, SlotsOf, Option, Some, View, WritesBecome, [], ap, became, drop}
use Rattle.tj_park.proofs.Prelude.{ended_record, inl, lowered_with, refl, rest, result_of, subst, sym, ℕ, ◌∙◌, ◌∷◌}
use Rattle.tj_park.proofs.Prelude.{◌≡◌}
use Rattle.tj_runs.specs.HomeRecords.{EndedRecordsLie, LiesForGood}
use Rattle.tj_words.specs.Calls.LiveViews.{MayEnd, ended, homed}
use Rattle.tj_record.specs.declared.record.Finish.{Finish}
use Rattle.tj_park.specs.Endings.{HasFinished}
use Rattle.tj_park.specs.Inner.Closings.{ClosesResult}
use Rattle.tj_park.specs.Wakes.{HasNotedNothing}
use Rattle.tj_park.proofs.EndSteps as steps

-- t may finish by this record, its promises are broken since, and these are the slots of its seat
pub record HasBegun {B : Type 0} (program : Bool → B → Program B) (t : ℕ) (r : Rec B) (v v1 : View B)
    (mine : SlotsOf B) : Type 0 where
  pub may : MayFinish program t r v
  pub written : WritesBecome (program may.about.strict may.about.root)
  pub ordered : OrderedHasSame
  pub broken : HasBroken t (drop 1 r.owned) [] v v1
  pub others : HasNoRecord (rest mine)

pub begun : {B : Type 0} {program : Bool → B → Program B} {t : ℕ} {r : Rec B} {v v1 : View B} {l : List CellId}
    (mine : SlotsOf B) (may : MayFinish program t r v) → WritesBecome (program may.about.strict may.about.root)
    → OrderedHasSame → l ≡ drop 1 r.owned → HasBroken t l [] v v1 → HasNoRecord (rest mine)
    → HasBegun program t r v v1 mine
begun {t = t} {r = r} {v = v} {v1 = v1} {l = l} mine may written ordered promises broken others = record {
  may = may;
  written = written;
  ordered = ordered;
  broken = subst (λ owned. HasBroken t owned [] v v1) promises broken;
  others = others;
}

module _ {B : Type 0} {program : Bool → B → Program B} {t : ℕ} {r : Rec B} {v v1 : View B} {mine : SlotsOf B}
    (e : HasBegun program t r v v1 mine) where
  -- the result is closed
  abbrev closed : View B
  closed = became t t (result_of e.may.ending.ending) v1

  pub may_close : {f : Option Finish} → f ≡ r.finish → MayCloseResult program t f v1
  may_close is = subst (λ f. MayCloseResult program t f v1) (sym is)
      (steps.may_close program t r v e.may e.written e.ordered v1 e.broken)

  -- the task has ended, and its record is home
  abbrev gone : View B
  gone = record (ended t closed) { put_home = ended_record r ∷ v1.put_home }

  -- the record is put into its slot
  pub laid : {m3 : SeatMe B} {v2 : View B} {f : Option Finish} {r' : Rec B} {slots : SlotsOf B}
      → m3 ≡ (v2, (t, Some r') ∷ rest slots) → ClosesResult t f v1 v2 → f ≡ r.finish → r' ≡ ended_record r
      → slots ≡ mine → m3 ≡ (closed, (t, Some (ended_record r)) ∷ rest mine)
  laid {m3} {v2} {f} {r'} {slots} puts closes how is same =
      steps.laid_is program t r v e.may e.written e.ordered v1 e.broken m3 v2 r' slots mine puts
      (steps.closed_is program t r v e.may e.written e.ordered v1 e.broken v2
      (subst (λ o. ClosesResult t o v1 v2) how closes)) is same

  pub may_end : {m3 : SeatMe B} → m3 ≡ (closed, (t, Some (ended_record r)) ∷ rest mine) → MayEnd program t m3
  may_end {m3} laid =
      steps.may_end_then program t r v e.may e.written e.ordered v1 e.broken (rest mine) e.others m3 laid

  -- the task has ended
  pub at_end : {m3 m4 : SeatMe B} {v2 : View B} {f : Option Finish} {r' : Rec B} {slots : SlotsOf B}
      → m3 ≡ (v2, (t, Some r') ∷ rest slots) → ClosesResult t f v1 v2 → f ≡ r.finish → r' ≡ ended_record r
      → slots ≡ mine → m4 ≡ (homed m3.1 (ended t m3.0), rest m3.1) → m4 ≡ (gone, rest mine)
  at_end {m3} {m4} puts closes how is same ends =
      steps.ended_is program t r v e.may e.written e.ordered v1 e.broken (rest mine) e.others m3 m4
      (laid puts closes how is same) ends

  module _ {m4 : SeatMe B} (end : m4 ≡ (gone, rest mine)) where
    pub may_wake : MayWake t m4
    may_wake = steps.may_wake_then program t r v e.may e.written e.ordered v1 e.broken (rest mine) e.others m4 end

    pub unnoted : HasNotedNothing v1 m4.0
    unnoted = steps.ended_unnoted program t r v e.may e.written e.ordered v1 e.broken (rest mine) e.others m4 end

    -- the record was put home, and no other
    pub sent_home : m4.0.put_home ≡ ended_record r ∷ v.put_home
    sent_home = ap (λ (m : SeatMe B). m.0.put_home) end ∙ ap (λ l. ended_record r ∷ l) e.broken.put_home

    -- some of those who wait for the result were woken
    pub about_woken : {chain left : List ℕ} {v5 : View B} → HasWoken t chain left m4.0 v5 → v5.about ≡ v.about
    about_woken {chain} {left} {v5} woke =
        steps.about_woken program t r v e.may e.written e.ordered v1 e.broken (rest mine) e.others chain left m4 v5 end
        woke

    pub notes_woken : {chain left : List ℕ} {v5 : View B} → HasWoken t chain left m4.0 v5 → IsTailOf v.notes v5.notes
    notes_woken {chain} {left} {v5} woke =
        steps.notes_woken program t r v e.may e.written e.ordered v1 e.broken (rest mine) e.others chain left m4 v5 end
        woke

    -- all of them were
    module _ {chain : List ℕ} {v5 : View B} {s5 : SlotsOf B} (woken : HasWoken t chain [] m4.0 v5) (same : s5 ≡ m4.1)
      where
        all_woken : HasWoken t chain [] gone v5
        all_woken = steps.woke_then program t r v e.may e.written e.ordered v1 e.broken (rest mine) e.others chain m4 v5
            end woken

        slots_are : s5 ≡ rest mine
        slots_are = same ∙ ap (λ (m : SeatMe B). m.1) end

        pub may_lower : MayLowerLive program (v5, s5)
        may_lower = subst (λ s. MayLowerLive program (v5, s)) (sym slots_are)
            (steps.may_lower program t r v e.may e.written e.ordered v1 e.broken (rest mine) e.others chain v5
            all_woken)

        -- the token is given up
        module _ {m6 : SeatMe B} (lowers : m6 ≡ lowered_with v5 s5) where
          lowered : m6 ≡ lowered_with v5 (rest mine)
          lowered = lowers ∙ ap (λ s. lowered_with v5 s) slots_are

          pub finished : HasFinished t r v m6.0
          finished = steps.has_finished program t r v e.may e.written e.ordered v1 e.broken (rest mine) e.others chain
              v5 all_woken m6 lowered

          pub slots_then : m6.1 ≡ rest mine
          slots_then = steps.same_slots program t r v e.may e.written e.ordered v1 e.broken (rest mine) e.others chain
              v5 all_woken m6 lowered

          pub unnoted_last : HasNotedNothing v5 m6.0
          unnoted_last = steps.lowered_unnoted program t r v e.may e.written e.ordered v1 e.broken (rest mine) e.others
              v5 m6 lowered

-- its record lies at home for good
pub lies_for_good : {B : Type 0} (program : Bool → B → Program B) (t : ℕ) (r : Rec B) (v w : View B)
    → EndedRecordsLie B → MayFinish program t r v → HasFinished t r v w → LiesForGood program t (ended_record r) w
lies_for_good program t r v w lie may ends = subst (λ k. LiesForGood program k (ended_record r) w) may.has.cell
    (lie program w (ended_record r) (subst (IsIn (ended_record r)) (sym ends.put_home) (inl refl))
    (may.finish, may.finished))
