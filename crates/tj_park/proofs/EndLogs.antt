-- The steps of an end in the log of its seat, and what the pool had done to it, one after the other.
use Rattle.std.proofs.Common.{◌≡◌, ◌<◌, ◌≤◌, ◌+◌, ℕ, List, [], ◌∷◌, ◌++◌, length, take, drop, get_or, refl, sym, ap}
use Rattle.std.proofs.Common.{◌∙◌, subst, ⊎_elim, Option, Some, None}
use mathlib.Core.List.{map-append}
use Rattle.std.proofs.lemmas.List.{drop_more, take-append-drop, take_all, take_more}
use Rattle.tj_base.specs.declared.cell.CellId.{CellId}
use Rattle.tj_body.specs.declared.point.Entry.TheVariants as entry
use Rattle.tj_cells.proofs.CallLogs.{grows_by, grows_on, grows_still}
use Rattle.tj_cells.proofs.CallsKnowMore.{became_more}
use Rattle.tj_cells.specs.CallLogs.{Grows, Makes, MakesClosed, Seat, phase_entry}
use Rattle.tj_cells.specs.FilledCells.{became}
use Rattle.tj_words.specs.Words.Lists.{cell, numbers}
use Rattle.tj_words.specs.declared.phase.Phase.TheVariants as phase
use Rattle.tj_record.specs.declared.record.Fill.{Fill}
use Rattle.tj_record.specs.declared.record.Finish.{Finish}
use Rattle.tj_record.specs.declared.record.Rec.{Rec}
use Rattle.tj_record.specs.TaskRecords.{ended_record}
use Rattle.tj_words.specs.declared.view.View.{View}
use Rattle.tj_park.proofs.ParkLogs.{closed_grows}
use Rattle.tj_park.proofs.WakeLogs.{wake_grows}
use Rattle.tj_park.specs.EndLogs.{BreaksEach, BreaksSome, EndsTask, FailsToEnd, StoresEnded, closed_with}
use Rattle.tj_park.specs.Inner.Closings.{StepsOfClose}
use Rattle.tj_park.specs.Wakes.{HasNotedNothing, WakesAll, WakesSome}

-- the seat that has broken a promise has noted nothing by that
broke_quietly : {B : Type 0} (t p : ℕ) (v w : View B) → w ≡ became t p entry.Broken v → HasNotedNothing v w
broke_quietly t p v w broke =
    subst (HasNotedNothing v) (sym broke) (record { knows = became_more t p entry.Broken v; notes = refl })

-- a close before a seat that has made no step since
closed_still : {B : Type 0} (p : ℕ) (o : Option Fill) (u v w : Seat B) → MakesClosed p o u v
    → (w.log ≡ v.log) × (w.took ≡ v.took) → MakesClosed p o u w
closed_still p o u v w h s = (h.0, h.1, (s.0 ∙ h.2.0, s.1 ∙ h.2.1))

module _ {B P : Type 0} (puts : P → CellId → P → Type 0) where
  -- one promise more was broken
  one_break_more : (ps : List ℕ) (p n : ℕ) (u v w x : Seat B) (a b c : P) → BreaksEach puts ps u v a b
      → MakesClosed p None v w → HasNotedNothing v.me.0 w.me.0 → WakesAll puts p n w x b c
      → BreaksEach puts (ps ++ p ∷ []) u x a c
  one_break_more [] p n u v w x a b c h closed noted woke = (
    w,
    x,
    c,
    n,
    subst (λ s. MakesClosed p None s w) h.0 closed,
    subst (λ (s : Seat B). HasNotedNothing s.me.0 w.me.0) h.0 noted,
    subst (λ z. WakesAll puts p n w x z c) h.1 woke,
    (refl, refl),
  )
  one_break_more (q ∷ qs) p n u v w x a b c h closed noted woke = (
    h.0,
    h.1,
    h.2,
    h.3,
    h.4,
    h.5,
    h.6,
    one_break_more qs p n h.1 v w x h.2 b c h.7 closed noted woke,
  )

  module _ (t : ℕ) (ps : List CellId) (i : ℕ) (u v w x : Seat B) (a b c : P)
      (h : BreaksEach puts (numbers (take i ps)) u v a b) (few : i < length ps)
      (closed : MakesClosed (get_or ps i (cell 0)).0 None v w)
      (broke : w.me.0 ≡ became t (get_or ps i (cell 0)).0 entry.Broken v.me.0) where
    abbrev this : ℕ
    this = (get_or ps i (cell 0)).0

    -- in the list of the promises of a task, too
    pub breaks_next : (n : ℕ) → WakesAll puts this n w x b c → BreaksEach puts (numbers (take (i + 1) ps)) u x a c
    breaks_next n woke = subst (λ l. BreaksEach puts l u x a c)
        (sym (ap numbers (take_more ps i (cell 0) few)
        ∙ map-append (λ (d : CellId). d.0) (take i ps) (get_or ps i (cell 0) ∷ [])))
        (one_break_more (numbers (take i ps)) this n u v w x a b c h closed
        (broke_quietly t this v.me.0 w.me.0 broke) woke)

    -- the pool refused a task at its wakes
    pub break_fails : (same : P → P → Type 0) → WakesSome puts same this w x b c
        → BreaksSome puts same (numbers ps) u x a c
    break_fails same woke = record {
      done = numbers (take i ps);
      last = this;
      others = numbers (drop (i + 1) ps);
      all = ap numbers (sym (take-append-drop i ps) ∙ ap (λ l. take i ps ++ l) (drop_more ps i (cell 0) few))
          ∙ map-append (λ (d : CellId). d.0) (take i ps) (get_or ps i (cell 0) ∷ drop (i + 1) ps);
      before = v;
      closed = w;
      between = b;
      breaks = h;
      closes = closed;
      noted = broke_quietly t this v.me.0 w.me.0 broke;
      wakes = woke;
    }

  -- all are broken
  pub breaks_all : (ps : List CellId) (i : ℕ) (u v : Seat B) (a b : P)
      → BreaksEach puts (numbers (take i ps)) u v a b → length ps ≤ i → BreaksEach puts (numbers ps) u v a b
  breaks_all ps i u v a b h most = subst (λ l. BreaksEach puts (numbers l) u v a b) (take_all i ps most) h

  -- the result is closed, and Ended stored
  pub stores_ended : (t : ℕ) (r : Rec B) {l : List CellId} {o : Option Finish} (f : Finish) (u v w x y : Seat B)
      (a b : P) → r.finish ≡ Some f → l ≡ drop 1 r.owned → BreaksEach puts (numbers l) u v a b → o ≡ r.finish
      → StepsOfClose t o v w → (x.log ≡ w.log) × (x.took ≡ w.took) → Makes (phase_entry t phase.Ended ∷ []) x y
      → HasNotedNothing v.me.0 y.me.0 → y.me.0.put_home ≡ ended_record r ∷ u.me.0.put_home
      → StoresEnded puts t r u y a b
  stores_ended t r f u v w x y a b finished owed breaks is closes still ends noted home = record {
    broken = v;
    closed = x;
    finish = f;
    finished = finished;
    breaks = subst (λ l. BreaksEach puts (numbers l) u v a b) owed breaks;
    closes = closed_still t (closed_with f) v w x (closes f (is ∙ finished)) still;
    ends = ends;
    noted = noted;
    put_home = home;
  }

  -- promises that are broken make the log longer
  breaks_grow : (ps : List ℕ) (u v : Seat B) (a b : P) → BreaksEach puts ps u v a b → Grows u v
  breaks_grow [] u v a b h = subst (Grows u) (sym h.0) (grows_still u u refl refl)
  breaks_grow (p ∷ ps) u v a b h = grows_on u h.0 v (closed_grows p None u h.0 h.4)
      (grows_on h.0 h.1 v (wake_grows p h.6.chain [] h.0 h.1 h.6.steps) (breaks_grow ps h.1 v h.2 b h.7))

  stored_grows : (t : ℕ) (r : Rec B) (u v : Seat B) (a b : P) → StoresEnded puts t r u v a b → Grows u v
  stored_grows t r u v a b h = grows_on u h.broken v (breaks_grow (numbers (drop 1 r.owned)) u h.broken a b h.breaks)
      (grows_on h.broken h.closed v (closed_grows t (closed_with h.finish) h.broken h.closed h.closes)
      (grows_by h.closed v (phase_entry t phase.Ended ∷ []) h.ends))

  -- so does an end
  pub end_grows : (t : ℕ) (r : Rec B) (u v : Seat B) (a b : P) → EndsTask puts t r u v a b → Grows u v
  end_grows t r u v a b h = grows_on u h.ended v (stored_grows t r u h.ended a h.between h.stores)
      (grows_on h.ended h.woken v (wake_grows t h.wakes.chain [] h.ended h.woken h.wakes.steps)
      (grows_by h.woken v (_ ∷ []) h.lowers))

  -- and one that the pool refused
  pub fails_grow : (same : P → P → Type 0) (t : ℕ) (r : Rec B) (u v : Seat B) (a b : P)
      → FailsToEnd puts same t r u v a b → Grows u v
  fails_grow same t r u v a b f = ⊎_elim
      (λ (h : BreaksSome puts same (numbers (drop 1 r.owned)) u v a b).
      grows_on u h.before v (breaks_grow h.done u h.before a h.between h.breaks)
      (grows_on h.before h.closed v (closed_grows h.last None h.before h.closed h.closes)
      (wake_grows h.last (h.wakes.woken ++ h.wakes.next ∷ []) h.wakes.left h.closed v h.wakes.steps)))
      (λ (h : (ended : Seat B) × (between : P) × StoresEnded puts t r u ended a between
      × WakesSome puts same t ended v between b). grows_on u h.0 v (stored_grows t r u h.0 a h.1 h.2)
      (wake_grows t (h.3.woken ++ h.3.next ∷ []) h.3.left h.0 v h.3.steps)) f
