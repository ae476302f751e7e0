-- A step that stored Ended put a record with a finish home, which lies there by what stands: each step of the past of a
-- table's run leads to a moment of that run.
use Rattle.std.proofs.Common.{◌≡◌, ◌∙◌, ℕ, Bool, true, List, [], ◌∷◌, Option, refl, sym, ap, subst, inl, inr, map}
use Rattle.std.proofs.Common.{eqb-true, length, slice_index}
use mathlib.Core.Option.{none, some}
use lib.ListN.{get_elem?}
use Rattle.atomic_table.proofs.Lists.{set_here}
use Rattle.atomic_table.specs.Table.{State, Step, carried_after, step}
use Rattle.tj_body.proofs.Lists.{in_left, in_right}
use Rattle.tj_body.specs.Points.{IsIn}
use Rattle.tj_body.specs.Programs.{Program}
use Rattle.tj_log.proofs.Entries.{at_bound}
use Rattle.tj_log.proofs.OwnSteps.{logs_of_runs}
use Rattle.tj_log.specs.Laws.{StandsIn}
use Rattle.tj_log.specs.Runs.{IsRun, IsStep, Past, begins, joins, slots_of, splits, steps}
use Rattle.tj_log.specs.declared.entry.Did.TheVariants.{Store}
use Rattle.tj_log.specs.declared.entry.Entry.{Entry}
use Rattle.tj_record.specs.declared.record.Rec.{Rec}
use Rattle.tj_words.proofs.Stores.TableWords.{is_word, is_word_here}
use Rattle.tj_words.proofs.Stores.TableWords as table_word
use Rattle.tj_words.specs.CallLaws.CallRuns.{CallRunsAreRuns, asked_by}
use Rattle.tj_words.specs.CallLaws.LoggedRuns.{states_of}
use Rattle.tj_words.specs.CallLaws.RestedRuns.{Ruled}
use Rattle.tj_words.specs.CallLaws.StepCalls.{StepCall, told_by}
use Rattle.tj_words.specs.CallLaws.StepCalls as call
use Rattle.tj_words.specs.CallLaws.StepLogs.{did_of, entry_of, table_terms}
use Rattle.tj_words.specs.Calls.LiveViews.{MayEnd, put_with}
use Rattle.tj_words.specs.Calls.PhaseViews.{MayPutPhase, PutsPhase}
use Rattle.tj_words.specs.LawParts.Contents.{contents_of}
use Rattle.tj_words.specs.SeatViews.SeatSteps.{SeatMe}
use Rattle.tj_words.specs.Words.Offsets.{phase_at}
use Rattle.tj_words.specs.declared.phase.Phase.TheVariants as phase
use Rattle.tj_words.specs.declared.table.Key.{Key}
use Rattle.tj_words.specs.declared.view.View.{View}
use Rattle.tj_runs.specs.LastingWords.{CountNeverFalls}
use Rattle.tj_runs.specs.OwnRuns.{AreTheLast, OwnRunsStand}
use Rattle.tj_runs.proofs.HomeRecords.{ended_records_lie}
use Rattle.tj_runs.proofs.StepWords.{placed, word_of}
use Rattle.tj_runs.specs.HomeRecords.{LiesEnded}
use Rattle.tj_laws.specs.EndedStores.{EndedStoresLie}

-- what stands at a moment of a past is one of its states
in_states : {S V : Type 0} (z : State S V) (came : Past S V) (now : State S V) (past : Past S V)
    → StandsIn z came now past → IsIn z (states_of now past)
in_states z came now begins h = inl h.0
in_states z came now (steps past s id e slots act) (inl h) =
    in_right z (states_of s past) (now ∷ []) (inl h.0)
in_states z came now (steps past s id e slots act) (inr h) =
    in_left z (states_of s past) (now ∷ []) (in_states z came s past h)
in_states z came now (splits past s id) (inl h) = in_right z (states_of s past) (now ∷ []) (inl h.0)
in_states z came now (splits past s id) (inr h) =
    in_left z (states_of s past) (now ∷ []) (in_states z came s past h)
in_states z came now (joins past s a b) (inl h) = in_right z (states_of s past) (now ∷ []) (inl h.0)
in_states z came now (joins past s a b) (inr h) =
    in_left z (states_of s past) (now ∷ []) (in_states z came s past h)

-- a store on PHASE is that call
store_is : (a : StepCall) (t : ℕ) → is_word (word_of a) (table_word.Phase t) ≡ true → Store ≡ did_of a
    → a ≡ call.puts_phase t
store_is (call.puts_phase c) t on does = ap call.puts_phase (eqb-true c t on)
store_is (call.swaps_phase c) t on does = absurd (cc)
store_is (call.sees_phase c) t on does = absurd (cc)
store_is (call.sees_phase_by u c) t on does = absurd (cc)
store_is a t on does = absurd (cc)

module _ {B : Type 0} (program : Bool → B → Program B) (key : Key B) where
  -- what is among the states of a run stands at one of its moments
  at_moment : (z : State (Option (Rec B)) (View B)) (u : Ruled program key) (later : List (Ruled program key))
      → IsIn z (map (λ (v : Ruled program key). v.now) (u ∷ later))
      → (w : Ruled program key) × (more : List (Ruled program key)) × AreTheLast program key u later w more
      × (w.now ≡ z)
  at_moment z u [] (inl e) = (u, [], (refl, refl), sym e)
  at_moment z u [] (inr i) = absurd i
  at_moment z u (x ∷ xs) (inl e) = (u, x ∷ xs, inl (refl, refl), sym e)
  at_moment z u (x ∷ xs) (inr i) = let h = at_moment z x xs i in (h.0, h.1, inr h.2, h.3)

pub ended_stores_lie : (B : Type 0) → CallRunsAreRuns B → CountNeverFalls B → OwnRunsStand B → EndedStoresLie B
ended_stores_lie B runs counts own program key s run x y came id t n slots act ends stands = (
  may.record_of,
  (made.view, made.view_after, made.at, there, noted),
  subst (λ k. LiesEnded (contents_of s) k may.record_of) may.puts.cell
      (ended_records_lie B runs counts own program made.view_after may.record_of
      (subst (IsIn may.record_of) (sym noted) (inl refl)) (may.finish, may.finished) key s run moment.0 moment.1
      moment.2 id (subst (λ (z : State (Option (Rec B)) (View B)). get_elem? z.views id ≡ some made.view_after)
      (sym moment.3) there)),
)
  where
    e : Entry
    e = entry_of (call.puts_phase t) n 0 n

    ran : IsRun (table_terms program key) y (steps came x id e slots act)
    ran = (logs_of_runs (table_terms program key)).earlier s y run.past (steps came x id e slots act) run.logged stands

    made : IsStep (table_terms program key) id e (slots_of id came) slots act x y
    made = ran.came.1

    operands : Step (Option (Rec B))
    operands = step (length x.homes) (phase_at t) n 0 none

    is : made.told.call ≡ call.puts_phase t
    is = store_is made.told.call t
        (is_word_here (table_word.Phase t) (word_of made.told.call)
        (sym (placed made.told.call) ∙ sym made.told.at))
        made.told.does

    may : MayEnd program t (made.view, slots)
    may = subst (λ q. MayPutPhase program t q (made.view, slots)) ends
        (subst (λ a. asked_by program key a operands (made.view, slots)) is made.told.asks).1

    puts : PutsPhase t phase.Ended (made.view, slots) (made.view_after, carried_after slots act)
    puts = subst (λ q. PutsPhase t q (made.view, slots) (made.view_after, carried_after slots act)) ends
        (subst (λ a. told_by program key.cells a n operands (made.view, slots) (slice_index x.words (phase_at t))
        (made.view_after, carried_after slots act)) is made.told.told).1

    noted : made.view_after.put_home ≡ may.record_of ∷ made.view.put_home
    noted = ap (λ (z : SeatMe B). z.0.put_home) puts ∙ ap (λ l. put_with l made.view.put_home) may.puts.slot

    there : get_elem? y.views id ≡ some made.view_after
    there = ap (λ (z : State (Option (Rec B)) (View B)). get_elem? z.views id) made.after
        ∙ set_here x.views id made.view_after (at_bound x.views id made.view made.at)

    moment : (w : Ruled program key) × (more : List (Ruled program key))
        × AreTheLast program key run.first run.later w more × (w.now ≡ y)
    moment = at_moment program key y run.first run.later (subst (IsIn y) (sym run.same)
        (in_states y (steps came x id e slots act) s run.past stands))
