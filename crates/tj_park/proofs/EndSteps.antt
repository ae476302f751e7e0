-- The steps by which a task ends, once its promises are broken: its result is closed, its record goes home, those who
-- wait for the result are woken, and the token is given up.
use Rattle.tj_park.proofs.Prelude.{AreApart, Backing, Bool, CellId, Close, Entry, Finish, FinishSays, HasAlarmed}
use Rattle.tj_park.proofs.Prelude.{HasBroken, HasNoRecord, HasSeen, HasWoken, Holds, IsIn, IsTailOf, IsToBecome}
use Rattle.tj_park.proofs.Prelude.{KnowsMore, List, MayBreak, MayCloseResult, MayFinish, MayWake, None, OrderedHasSame}
use Rattle.tj_park.proofs.Prelude.{Program, Rec, SeatMe, SlotsOf, Some, ToldBy, View, WritesBecome, [], ap, arith}
use Rattle.tj_park.proofs.Prelude.{backing_idle, became, begins_self, cell, drop, ended_record, finish_cells, gave_up}
use Rattle.tj_park.proofs.Prelude.{in_either, in_left, in_right, inl, inr, inside, length, let_go, map, more_in_front}
use Rattle.tj_park.proofs.Prelude.{more_on, more_same, numbers, record_cells, refl, rest, subst, sym, tail_on}
use Rattle.tj_park.proofs.Prelude.{to_task, with_tokens, without, without_due, ℕ, ⊎_elim, ◌+◌, ◌-◌, ◌<◌, ◌∙◌, ◌∷◌, ◌≡◌}
use Rattle.tj_park.proofs.Prelude.{◌≢◌, ◌≤◌, ◌⊎◌}
use Rattle.tj_record.specs.declared.record.Held.{Held}
use Rattle.tj_words.specs.Calls.LiveViews.{MayEnd, MayLowerLive, Shelves, ended, homed, lowered_with}
use Rattle.tj_words.proofs.Waiters.ChainLists.{no_some}
use Rattle.tj_park.specs.Endings.{HasFinished, result_of}
use Rattle.tj_park.proofs.BreakSteps.{without_first, held_closed, others_closed, alarms_closed}
use Rattle.tj_park.proofs.LeftTasks.{holds_before}
use Rattle.tj_park.proofs.ParkedViews.{lowered_alone, no_record}
use Rattle.tj_park.proofs.EndPoints.{its_name, result_first, to_break, result_becomes, told_ended}
use Rattle.tj_park.proofs.WakeLoops.{noted_tail}
use Rattle.tj_park.specs.Wakes.{HasNotedNothing}
use Rattle.tj_body.specs.declared.point.Entry.TheVariants as entry
use Rattle.tj_words.specs.declared.offsets.Once.TheVariants as once

-- the cells that the record names once the task has ended are cells that it named
ended_cells : {B : Type 0} (r : Rec B) (c : ℕ) → IsIn c (record_cells (ended_record r)) → IsIn c (record_cells r)
    ⊎ IsIn c (numbers (drop 1 r.owned))
ended_cells r c (inl e) = inl (inl e)
ended_cells r c (inr i) = ⊎_elim
    (λ j. inl (inr (in_left c (map (λ (h : Held). h.cell.0) r.held) _ j)))
    (λ j. ⊎_elim (λ k. inr k)
    (λ k. inl (inr (in_right c (map (λ (h : Held). h.cell.0) r.held) _
    (in_right c (numbers r.owned) _ (in_right c (numbers r.owed) (finish_cells r.finish) k)))))
    (in_either c (numbers (drop 1 r.owned)) (finish_cells r.finish) j))
    (in_either c (map (λ (h : Held). h.cell.0) r.held) _ i)

module _ {B : Type 0} (program : Bool → B → Program B) (t : ℕ) (r : Rec B) (v : View B)
    (may : MayFinish program t r v)
    (written : WritesBecome (program may.about.strict may.about.root)) (ordered : OrderedHasSame) where
  abbrev its : Program B
  its = program may.about.strict may.about.root

  abbrev result_entry : Entry
  result_entry = result_of may.ending.ending

  first_owned : r.owned ≡ cell t ∷ drop 1 r.owned
  first_owned = result_first its t may.finish r v may.names_apart may.has.cell may.ending written ordered

  owned_numbers : numbers r.owned ≡ t ∷ numbers (drop 1 r.owned)
  owned_numbers = ap numbers first_owned

  pub some_owned : r.owned ≢ []
  some_owned e = let q = sym first_owned ∙ e in absurd (cc)

  pub is_cell : (cells : ℕ) → length v.born ≤ cells → t < cells
  is_cell cells few = let i = inside v.born t (to_task may.ending.point.name)
      (its_name its t may.finish r v may.names_apart may.has.cell may.ending written ordered) in omega arith

  -- the promises that the task owes may be broken
  pub may_break : MayBreak program t (drop 1 r.owned) v
  may_break = record {
    about = may.about;
    is_about = may.is_about;
    owns = record {
      custody = may.custody;
      held = may.held;
      runs = may.runs;
      out = may.out;
      owned = sym may.has.owned ∙ owned_numbers;
      apart = subst AreApart (sym may.has.owned ∙ owned_numbers) may.owned_apart;
    };
    breaks = to_break its t may.finish r v may.names_apart may.has.cell may.ending written ordered;
    idle = may.idle;
    token_room = (let a = may.token_room in omega arith);
    cleared_room = may.cleared_room;
    alarms = may.alarms;
  }

  -- the promises are broken
  module _ (v1 : View B) (h : HasBroken t (drop 1 r.owned) [] v v1) where
    about_then : v1.about ≡ Some may.about
    about_then = h.knows.about ∙ may.is_about

    says_then : FinishSays v1.born may.finish may.ending.ending
    says_then = subst (λ b. FinishSays b may.finish may.ending.ending) (sym h.born) may.ending.says

    named_known : (c : ℕ) → IsIn c (record_cells r) → IsIn c v1.known
    named_known c i = h.knows.known c (may.has.knows c i)

    pub may_close : MayCloseResult program t r.finish v1
    may_close = record {
      about = may.about;
      is_about = about_then;
      owns = h.owns;
      no_hand = h.idle.hand;
      ending_of = may.finish;
      is = may.finished;
      ending = may.ending.ending;
      says = says_then;
      knows = λ c i. named_known c (inr (in_right c (map (λ (k : Held). k.cell.0) r.held) _
          (in_right c (numbers r.owned) _ (in_right c (numbers r.owed) (finish_cells r.finish) i))));
      becomes = subst (λ b. IsToBecome its b t result_entry) (sym h.born)
          (result_becomes its t may.finish r v may.names_apart may.has.cell may.ending written ordered);
    }

    -- the result is closed
    abbrev closed : View B
    closed = became t t result_entry v1

    pub closed_is : (v2 : View B)
        → ((f : Finish) (e : Close) → r.finish ≡ Some f → FinishSays v1.born f e → v2 ≡ became t t (result_of e) v1)
        → v2 ≡ closed
    closed_is v2 by = by may.finish may.ending.ending may.finished says_then

    -- the task has ended, and its record is home
    abbrev pub gone : View B
    gone = record (ended t closed) { put_home = ended_record r ∷ v1.put_home }

    -- the record was put into the slot
    pub laid_is : (m3 : SeatMe B) (v2 : View B) (r' : Rec B) (mine slots : SlotsOf B)
        → m3 ≡ (v2, (t, Some r') ∷ rest mine)
        → v2 ≡ closed
        → r' ≡ ended_record r
        → mine ≡ slots
        → m3 ≡ (closed, (t, Some (ended_record r)) ∷ rest slots)
    laid_is m3 v2 r' mine slots e a b c = e
        ∙ (ap (λ x. (x, (t, Some r') ∷ rest mine)) a
        ∙ (ap (λ x. (closed, (t, Some x) ∷ rest mine)) b
        ∙ ap (λ x. (closed, (t, Some (ended_record r)) ∷ rest x)) c))

    broken_seen : (c : CellId) → IsIn c (drop 1 r.owned) → HasSeen closed.filled c.0 entry.Broken
    broken_seen c i = ⊎_elim (λ (z : IsIn c []). absurd z) (λ (s : HasSeen v1.filled c.0 entry.Broken). inr s)
        (h.entries c i)

    told_then : ToldBy its v1.born closed.filled (ended_record r)
    told_then = subst (λ b. ToldBy its b closed.filled (ended_record r)) (sym h.born)
        (told_ended its t may.finish r v may.names_apart may.has.cell may.ending written ordered closed.filled
        (λ x i. inr (h.knows.filled x i)) (inl refl) broken_seen may.finished)

    ended_known : (c : ℕ) → IsIn c (record_cells (ended_record r)) → IsIn c v1.known
    ended_known c i = ⊎_elim (λ j. named_known c j)
        (λ (j : IsIn c (numbers (drop 1 r.owned))).
        named_known c (inr (in_right c (map (λ (k : Held). k.cell.0) r.held) _
        (in_left c (numbers r.owned) _ (subst (IsIn c) (sym owned_numbers) (inr j)))))) (ended_cells r c i)

    module _ (slots : SlotsOf B) (none : HasNoRecord slots) where
      -- the record goes home
      pub may_end : MayEnd program t (closed, (t, Some (ended_record r)) ∷ slots)
      may_end = record {
        custody = gave_up t h.owns.custody;
        held = held_closed t t result_entry v1 h.owns.custody h.owns.held;
        runs = refl;
        no_hand = λ k e. no_some h.idle.hand e;
        record_of = ended_record r;
        puts = record {
          slot = refl;
          cell = may.has.cell;
          owned = sym (ap (without t) h.owns.owned ∙ without_first t []);
          made = may.has.made ∙ sym (h.made may.custody may.held);
          knows = ended_known;
          told = (may.about, about_then, told_then);
        };
        finish = may.finish;
        finished = may.finished;
        owns_none = refl;
        room = (let a = h.counts.tokens in let l = h.knows.lot in let k = may.token_room in omega arith);
      }

      -- those who wait for the result are woken
      pub may_wake_last : MayWake t (gone, slots)
      may_wake_last = record {
        wakes = record {
          backed = inl (omega arith);
          alarms = λ a. omega arith;
          token_room = (let a = h.counts.tokens in let l = h.knows.lot in let k = may.token_room in omega arith);
          cleared_room = (let a = h.counts.cleared in let l = h.knows.lot in let k = may.cleared_room in omega arith);
          no_record = none;
        };
        entry = (record { cell = t; entry = result_entry }, inl refl, refl);
        no_rest = h.idle.rest;
      }

      pub may_end_then : (m3 : SeatMe B) → m3 ≡ (closed, (t, Some (ended_record r)) ∷ slots) → MayEnd program t m3
      may_end_then m3 e = subst (λ m. MayEnd program t m) (sym e) may_end

      pub ended_is : (m3 m4 : SeatMe B) → m3 ≡ (closed, (t, Some (ended_record r)) ∷ slots)
          → m4 ≡ (homed m3.1 (ended t m3.0), rest m3.1)
          → m4 ≡ (gone, slots)
      ended_is m3 m4 a b = b ∙ ap (λ (m : SeatMe B). (homed m.1 (ended t m.0), rest m.1)) a

      ended_more : KnowsMore v1 gone
      ended_more = more_in_front v1 gone [] (_ ∷ []) (_ ∷ []) [] [] (begins_self v1.born) ([], refl)

      -- the seat knows what it knew, and has noted nothing
      pub ended_unnoted : (m4 : SeatMe B) → m4 ≡ (gone, slots) → HasNotedNothing v1 m4.0
      ended_unnoted m4 e = subst (λ (m : SeatMe B). HasNotedNothing v1 m.0) (sym e)
          (record { knows = ended_more; notes = refl })

      pub lowered_unnoted : (v5 : View B) (m6 : SeatMe B) → m6 ≡ lowered_with v5 slots → HasNotedNothing v5 m6.0
      lowered_unnoted v5 m6 e = subst (λ (m : SeatMe B). HasNotedNothing v5 m.0) (sym (e ∙ lowered_alone v5 slots none))
          (record { knows = more_same v5 (with_tokens (v5.tokens - 1) v5) ([], refl); notes = refl })

      pub may_wake_then : (m4 : SeatMe B) → m4 ≡ (gone, slots) → MayWake t m4
      may_wake_then m4 e = subst (λ m. MayWake t m) (sym e) may_wake_last

      pub woke_then : (chain : List ℕ) (m4 : SeatMe B) (v5 : View B) → m4 ≡ (gone, slots)
          → HasWoken t chain [] m4.0 v5
          → HasWoken t chain [] gone v5
      woke_then chain m4 v5 e k = subst (λ (m : SeatMe B). HasWoken t chain [] m.0 v5) e k

      -- of which table the seat is stays known, where some were woken
      pub about_woken : (chain left : List ℕ) (m4 : SeatMe B) (v5 : View B) → m4 ≡ (gone, slots)
          → HasWoken t chain left m4.0 v5 → v5.about ≡ v.about
      about_woken chain left m4 v5 e k = ap (λ (u : View B). u.about) k.view
          ∙ (ap (λ (m : SeatMe B). m.0.about) e ∙ h.knows.about)

      -- and what it noted stands in front of its notes
      pub notes_woken : (chain left : List ℕ) (m4 : SeatMe B) (v5 : View B) → m4 ≡ (gone, slots)
          → HasWoken t chain left m4.0 v5 → IsTailOf v.notes v5.notes
      notes_woken chain left m4 v5 e k = tail_on v.notes m4.0.notes v5.notes
          (subst (λ (m : SeatMe B). IsTailOf v.notes m.0.notes) (sym e) h.knows.notes)
          (noted_tail t chain left m4.0 m4.0.notes v5.notes k.noted)

      no_dues : without_due t once.Tag (without_due t once.Bits v1.dues) ≡ []
      no_dues = ap (λ d. without_due t once.Tag (without_due t once.Bits d)) h.idle.dues

      module _ (chain : List ℕ) (v5 : View B) (woke : HasWoken t chain [] gone v5) where
        abbrev woken : View B
        woken = record gone {
          steps = v5.steps;
          plain_loads = gone.plain_loads + length chain;
          shuts = without t (t ∷ v1.shuts);
          rest = None;
          closed = t ∷ v1.closed;
          notes = v5.notes;
        }

        abbrev last : View B
        last = with_tokens (woken.tokens - 1) woken

        no_shuts : without t (t ∷ v1.shuts) ≡ []
        no_shuts = ap (λ l. without t (t ∷ l)) h.idle.shuts ∙ without_first t []

        tasks_last : last.tasks ≡ let_go t v.tasks
        tasks_last = others_closed t t result_entry v1 h.owns.custody h.owns.held ∙ h.others

        alarms_last : Holds HasAlarmed last → 0 < last.tokens
        alarms_last a = let k = alarms_closed t t result_entry v1 h.owns.custody h.owns.held h.alarms
            (holds_before HasAlarmed t closed a) in omega arith

        backing_last : Backing last
        backing_last = backing_idle last h.idle.pushes no_shuts refl
            (λ d. absurd (subst (λ l. IsIn d.0 l) no_dues d.1)) alarms_last

        pub may_lower : MayLowerLive program (v5, slots)
        may_lower = subst (λ (x : View B). MayLowerLive program (x, slots)) (sym woke.view) (record {
          token = (omega arith);
          shelves = no_record (λ u k. Shelves program u k (woken, slots)) slots none;
          backing = subst (λ (m : View B × SlotsOf B). Backing m.0) (sym (lowered_alone woken slots none)) backing_last;
        })

        knows_last : KnowsMore v last
        knows_last = more_on v v1 last h.knows
            (more_in_front v1 last [] (_ ∷ []) (_ ∷ []) [] (t ∷ []) (begins_self v1.born)
            (noted_tail t chain [] gone v1.notes v5.notes woke.noted))

        finished_last : HasFinished t r v last
        finished_last = record {
          knows = knows_last;
          born = h.born;
          tasks = tasks_last;
          hand = record { hand = h.hand.hand; dues = no_dues ∙ sym may.idle.dues };
          wakes = record {
            pushes = h.idle.pushes ∙ sym may.idle.pushes;
            shuts = no_shuts ∙ sym may.idle.shuts;
            rest = sym may.idle.rest;
          };
          counts = record {
            tokens = (let a = h.counts.tokens in omega arith);
            cleared = h.counts.cleared;
            refused = h.counts.refused;
          };
          broken = broken_seen;
          finish = may.finish;
          finished = may.finished;
          ending = may.ending.ending;
          says = may.ending.says;
          result = inl refl;
          put_home = ap (λ l. ended_record r ∷ l) h.put_home;
        }

        -- the token is given up
        lowers : (m6 : SeatMe B) → m6 ≡ lowered_with v5 slots → m6 ≡ (last, slots)
        lowers m6 e = e ∙ (ap (λ (x : View B). lowered_with x slots) woke.view ∙ lowered_alone woken slots none)

        pub has_finished : (m6 : SeatMe B) → m6 ≡ lowered_with v5 slots → HasFinished t r v m6.0
        has_finished m6 e = subst (λ (m : SeatMe B). HasFinished t r v m.0) (sym (lowers m6 e)) finished_last

        pub same_slots : (m6 : SeatMe B) → m6 ≡ lowered_with v5 slots → m6.1 ≡ slots
        same_slots m6 e = ap (λ (m : SeatMe B). m.1) (lowers m6 e)
