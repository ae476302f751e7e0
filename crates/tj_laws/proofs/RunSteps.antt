-- The run of a table grows by a step call of its first seat: the step stands in the past then, as a log would have it.
use Rattle.std.proofs.Common.{◌≡◌, ◌≢◌, ◌<◌, ◌∙◌, ℕ, Bool, Option, refl, sym, ap, set}
use Rattle.std.proofs.Common.{length}
use mathlib.Core.Option.{none, some}
use lib.ListN.{get_elem?}
use Rattle.atomic_table.specs.Table.{Act, State, Valid, carried_after, step, stepped}
use Rattle.tj_body.specs.Programs.{Program}
use Rattle.tj_log.specs.Logs.{numbers}
use Rattle.tj_log.specs.Runs.{IsPlain, IsRun, IsStep, Past, left, slots_of, steps, tell}
use Rattle.tj_log.specs.declared.entry.Entry.{Entry}
use Rattle.tj_record.specs.declared.record.Rec.{Rec}
use Rattle.tj_words.specs.CallLaws.CallRuns.{asked_by}
use Rattle.tj_words.specs.CallLaws.RestedRuns.{Ruled}
use Rattle.tj_words.specs.CallLaws.StepCalls.{StepCall, place_of, told_by}
use Rattle.tj_words.specs.CallLaws.StepLogs.{did_of, entry_of, table_terms}
use Rattle.tj_words.specs.Calls.LiveViews.{SlotsOf}
use Rattle.tj_words.specs.Law.{Rule}
use Rattle.tj_words.specs.SeatViews.SeatSteps.{SeatMe}
use Rattle.tj_words.specs.Words.Offsets.{word, words_for}
use Rattle.tj_words.specs.declared.table.Key.{Key}
use Rattle.tj_words.specs.declared.view.View.{View}
use Rattle.tj_words.proofs.Calls.StepActs.{acts_so}
use Rattle.tj_words.proofs.Stores.SeatLists.{word_else}
use Rattle.tj_laws.proofs.FirstAlarms.{first_set}

module _ {B : Type 0} (program : Bool → B → Program B) (key : Key B) where
  -- a table that came by a run to this moment, at which its first seat is this one
  pub record Ran (m : SeatMe B) : Type 0 where
    pub now : Ruled program key
    pub past : Past (Option (Rec B)) (View B)
    pub run : IsRun (table_terms program key) now.now past
    pub at : get_elem? now.now.views 0 ≡ some m.0
    pub slots : numbers m.1 ≡ slots_of 0 past

  -- what the seat has put into its slots since is no step
  abbrev pub with_slots : (m : SeatMe B) → Ran m → (slots : SlotsOf B) → numbers slots ≡ numbers m.1 → Ran (m.0, slots)
  with_slots m h slots e = record { now = h.now; past = h.past; run = h.run; at = h.at; slots = e ∙ h.slots }

  -- what a call finds then
  abbrev pub found_by : Ruled program key → StepCall → ℕ
  found_by u c = word u.now.words (place_of c)

  -- what is allowed and told of a call with these operands
  abbrev pub MayGo : Ruled program key → SeatMe B → StepCall → ℕ → ℕ → (SeatMe B → Type 0) → Type 0
  MayGo u m c a b T = (w : View B) × (x : Act (Option (Rec B))) × Valid u.now.homes m.1 x
      × Rule program key (stepped u.now (place_of c) (left (did_of c) a b (found_by u c)) 0 m.1 w x)
      × T (w, carried_after m.1 x) × IsPlain x

  -- the run goes on by this call of the first seat, which is this one then
  pub record GoesOn (m : SeatMe B) (h : Ran m) (c : StepCall) (a b : ℕ) (m' : SeatMe B) : Type 0 where
    pub ran : Ran m'
    pub words : ran.now.now.words ≡ set h.now.now.words (place_of c) (left (did_of c) a b (found_by h.now c))
    pub act : Act (Option (Rec B))
    pub past : ran.past
        ≡ steps h.past h.now.now 0 (entry_of c a b (tell (did_of c) a (found_by h.now c))) m.1 act

  -- a call that is allowed and asked for leads to one
  pub goes_on : (m : SeatMe B) (h : Ran m) (c : StepCall) (a b : ℕ) (m' : SeatMe B) (T : SeatMe B → Type 0)
      → place_of c < words_for key.cells → MayGo h.now m c a b T
      → asked_by program key c (step (length h.now.now.homes) (place_of c) a b none) m
      → ((z : SeatMe B) → T z
      → told_by program key.cells c (left (did_of c) a b (found_by h.now c))
      (step (length h.now.now.homes) (place_of c) a b none) m (found_by h.now c) z × (z ≡ m'))
      → GoesOn m h c a b m'
  goes_on m h c a b m' T inside may asks then =
      let k = found_by h.now c in
      let n = left (did_of c) a b k in
      let z : SeatMe B = (may.0, carried_after m.1 may.1) in
      let t = then z may.4 in
      let o = acts_so program key (step (length h.now.now.homes) (place_of c) a b none) n k m z c t.0 in
      let e : Entry = entry_of c a b (tell (did_of c) a k) in
      let next : State (Option (Rec B)) (View B) = stepped h.now.now (place_of c) n 0 m.1 may.0 may.1 in
      let made : IsStep (table_terms program key) 0 e (slots_of 0 h.past) m.1 may.1 h.now.now next = record {
        view = m.0;
        view_after = may.0;
        at = h.at;
        slots = h.slots;
        may = may.2;
        plain = may.5;
        found = refl;
        told = record {
          call = c;
          does = refl;
          at = refl;
          inside = inside;
          asks = asks;
          told = t.0;
          act = o.0;
          acts = o.1;
          plain = o.2;
          slots = o.3;
        };
        after = refl;
      } in record {
        ran = record {
          now = record { now = next; rule = may.3 };
          past = steps h.past h.now.now 0 e m.1 may.1;
          run = record {
            holds = may.3;
            came = (h.now.rule, made, h.run.came);
            words = h.run.words;
            slots = h.run.slots;
            opens = h.run.opens;
            start = h.run.start;
          };
          at = first_set h.now.now.views may.0 m.0 h.at ∙ ap (λ (y : SeatMe B). some y.0) t.1;
          slots = ap (λ (y : SeatMe B). numbers y.1) (sym t.1);
        };
        words = refl;
        act = may.1;
        past = refl;
      }

  -- a word that the call doesn't store stays
  pub kept : (m : SeatMe B) (h : Ran m) (c : StepCall) (a b : ℕ) (m' : SeatMe B) (g : GoesOn m h c a b m') (j : ℕ)
      → j ≢ place_of c → word g.ran.now.now.words j ≡ word h.now.now.words j
  kept m h c a b m' g j ne = ap (λ l. word l j) g.words ∙ word_else h.now.now.words (place_of c) j _ ne
