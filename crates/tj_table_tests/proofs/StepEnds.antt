-- A task that owns its result alone ends step by step, and nobody waits for it: what each step needs of the seat.
use Rattle.tj_run.proofs.Prelude.{Bool, CellId, Fill, HasNoRecord, HasWoken, IsFilledWith, IsLeft, Laid, List, MayEnd}
use Rattle.tj_run.proofs.Prelude.{MayFill}
use Rattle.tj_run.proofs.Prelude.{MayGiveUp, MayWake, None, Program, Rec, SeatMe, Some, View, WritesBecome}
use Rattle.tj_run.proofs.Prelude.{[], ap, became, drop, length, refl, rest, subst, sym, ℕ, ◌<◌, ◌∙◌, ◌∷◌, ◌≡◌, ◌≢◌}
use Rattle.tj_words.specs.declared.head.Head.{Head}
use Rattle.tj_words.specs.Calls.ChainSteps.{TakesChain, found_taken}
use Rattle.tj_words.specs.Calls.LiveViews.{HasSlot, MayLowerLive, ended, homed, lowered_with}
use Rattle.tj_record.specs.TaskRecords.{ended_record}
use Rattle.tj_park.specs.Inner.Breaks.{HasBroken}
use Rattle.tj_park.specs.Endings.{MayFinish, result_of}
use Rattle.tj_park.specs.Inner.Closings.{MayCloseResult}
use Rattle.tj_park.proofs.BreakSteps.{none_broken}
use Rattle.tj_park.proofs.ResultCloses.{filled_closes, may_close_last, may_fill_last}
use Rattle.tj_park.proofs.WakeLoops.{Waking, none_left, waking_at_first}
use Rattle.tj_table_tests.specs.EndsAlone.{EndsAlone}
use Rattle.tj_run.proofs.Runs.EndConditions.{ended_left, ends_by, may_finish, none_other, slot_is}
use Rattle.tj_words.specs.declared.head.Head.TheVariants as head
use Rattle.tj_record.specs.declared.record.Finish.TheVariants as finish
use Rattle.tj_park.proofs.EndSteps as steps

-- behind one element there is none
pub alone_rest : {A : Type 0} (l : List A) → length l ≡ 1 → drop 1 l ≡ []
alone_rest [] e = absurd (cc)
alone_rest (x ∷ []) e = refl
alone_rest (x ∷ (y ∷ l)) e = absurd (cc)

-- a seat that shut a chain that was empty has woken nobody
pub nobody_woken : {B : Type 0} (cells p : ℕ) (h : Head) (v w : View B) → h ≡ head.Empty → v.rest ≡ None
    → (h ≡ head.Shut → w ≡ found_taken p v) → (h ≢ head.Shut → TakesChain cells p h v w) → HasWoken p [] [] v w
nobody_woken {B} cells p h v w is none again takes =
    subst (λ l. HasWoken p l [] v w) (is_empty k.front k.counted)
    (subst (λ l. HasWoken p k.front l v w)
    (none_left cells h k.left k.begins (λ t e. let z = sym is ∙ e in absurd (cc))) k.woke)
  where
    is_empty : (l : List ℕ) → length l ≡ 0 → l ≡ []
    is_empty [] e = refl
    is_empty (x ∷ l) e = absurd (cc)

    k : Waking {P = Unit {0}} (λ a t b. Unit {0}) cells p h 0 v w tt tt
    k = waking_at_first {P = Unit {0}} (λ a t b. Unit {0}) cells p h v w tt none again takes

-- the same of the record with the number that its cell was read to have
pub ends_at : {B : Type 0} {program : Bool → B → Program B} {laid : Laid B} {r : Rec B} {f : Fill} {me : SeatMe B}
    (t : CellId) → t ≡ r.cell → EndsAlone program laid r f me → EndsAlone program laid (record r { cell = t }) f me
ends_at {B} {program} {laid} {r} {f} {me} t e h =
    subst (λ (z : CellId). EndsAlone program laid (record r { cell = z }) f me) (sym e) h

pub ended_at : {B : Type 0} (r : Rec B) {r' : Rec B} {f : Fill} (t : CellId) → t ≡ r.cell
    → r' ≡ record r { owned = []; owed = []; finish = Some (finish.Done f) }
    → r' ≡ record r { cell = t; owned = []; owed = []; finish = Some (finish.Done f) }
ended_at {B} r {r'} {f} t e is = is
    ∙ ap (λ (z : CellId). record r { cell = z; owned = []; owed = []; finish = Some (finish.Done f) }) (sym e)

module _ {B : Type 0} {program : Bool → B → Program B} {laid : Laid B} {r : Rec B} {f : Fill} {me : SeatMe B}
    (h : EndsAlone program laid r f me) where
  abbrev t : ℕ
  t = r.cell.0

  abbrev r' : Rec B
  r' = ends_by (finish.Done f) r

  may : MayFinish program t r' me.0
  may = may_finish program laid r (finish.Done f) me h.runs h.closing

  written : WritesBecome (program may.about.strict may.about.root)
  written = h.written_by may.about.strict may.about.root may.rooted

  pub few_cell : t < laid.cells
  few_cell = steps.is_cell program t r' me.0 may written h.ordered laid.cells h.runs.worker.cells.few

  -- it owes nothing, so nothing is broken
  broken : HasBroken t (drop 1 r.owned) [] me.0 me.0
  broken = subst (λ l. HasBroken t (drop 1 r.owned) l me.0 me.0) (alone_rest r.owned h.alone)
      (none_broken program t (drop 1 r.owned) me.0 (steps.may_break program t r' me.0 may written h.ordered))

  -- the view once its result is closed
  abbrev done_view : View B
  done_view = became t t (result_of may.ending.ending) me.0

  closes : MayCloseResult program t (Some (finish.Done f)) me.0
  closes = steps.may_close program t r' me.0 may written h.ordered me.0 broken

  -- its result may be given up, and filled
  pub gives_up : MayGiveUp t t me.0
  gives_up = may_close_last program t (Some (finish.Done f)) me.0 closes

  pub fills : MayFill program t f me.0
  fills = may_fill_last program t (Some (finish.Done f)) me.0 closes f refl

  -- once its result is closed its record is put into its slot
  module _ (m3 : SeatMe B) (filled : IsFilledWith t t f me.0 m3.0) (same : m3.1 ≡ me.1) (r'' : Rec B)
      (ends : r'' ≡ record r { owned = []; owed = []; finish = Some (finish.Done f) }) where
    pub slot_next : HasSlot t m3
    slot_next = (
      None,
      subst (λ l. l ≡ (t, None) ∷ rest l) (sym same)
          (slot_is program laid r (finish.Done f) me h.runs h.closing),
    )

    no_other : HasNoRecord (rest me.1)
    no_other = none_other program laid r (finish.Done f) me h.runs h.closing

    is_ended : r'' ≡ ended_record r'
    is_ended = ends ∙ ap (λ l. record r { owned = []; owed = l; finish = Some (finish.Done f) })
        (sym (alone_rest r.owned h.alone))

    abbrev m4 : SeatMe B
    m4 = (m3.0, (t, Some r'') ∷ rest m3.1)

    laid_in : m4 ≡ (done_view, (t, Some (ended_record r')) ∷ rest me.1)
    laid_in = steps.laid_is program t r' me.0 may written h.ordered me.0 broken m4 m3.0 r'' m3.1 me.1 refl
        (steps.closed_is program t r' me.0 may written h.ordered me.0 broken m3.0
        (filled_closes program t (Some (finish.Done f)) me.0 closes m3.0 f refl filled))
        is_ended same

    -- so it may end
    pub ends_next : MayEnd program t m4
    ends_next = steps.may_end_then program t r' me.0 may written h.ordered me.0 broken (rest me.1) no_other m4 laid_in

    -- its record is home
    abbrev gone : View B
    gone = homed ((t, Some (ended_record r')) ∷ rest me.1) (ended t done_view)

    -- then the head of its result is shut
    module _ (m5 : SeatMe B) (over : m5 ≡ (homed m4.1 (ended t m3.0), rest m3.1)) where
      over_is : m5 ≡ (gone, rest me.1)
      over_is = steps.ended_is program t r' me.0 may written h.ordered me.0 broken (rest me.1) no_other m4 m5
          laid_in over

      pub wakes_next : MayWake t m5
      wakes_next = steps.may_wake_then program t r' me.0 may written h.ordered me.0 broken (rest me.1) no_other
          m5 over_is

      -- nobody was there, and the token is given up
      module _ (m6 : SeatMe B) (woke : HasWoken t [] [] m5.0 m6.0) (mine : m6.1 ≡ m5.1) where
        woke_is : HasWoken t [] [] gone m6.0
        woke_is = steps.woke_then program t r' me.0 may written h.ordered me.0 broken (rest me.1) no_other [] m5
            m6.0 over_is woke

        mine_is : m6.1 ≡ rest me.1
        mine_is = mine ∙ ap (λ (m : SeatMe B). m.1) over_is

        pub lowers_next : MayLowerLive program m6
        lowers_next = subst (λ s. MayLowerLive program (m6.0, s)) (sym mine_is)
            (steps.may_lower program t r' me.0 may written h.ordered me.0 broken (rest me.1) no_other [] m6.0
            woke_is)

        pub left_so : (m7 : SeatMe B) → m7 ≡ lowered_with m6.0 m6.1 → IsLeft laid me.0 m7
        left_so m7 e = let lowers : m7 ≡ lowered_with m6.0 (rest me.1)
            = e ∙ ap (λ s. lowered_with m6.0 s) mine_is in
            ended_left program laid r (finish.Done f) me h.runs h.closing m7
            (steps.has_finished program t r' me.0 may written h.ordered me.0 broken (rest me.1) no_other [] m6.0
            woke_is m7 lowers)
            (steps.same_slots program t r' me.0 may written h.ordered me.0 broken (rest me.1) no_other [] m6.0
            woke_is m7 lowers)
