-- What stands in the log of a seat is a step of the table's run: so a store of a phase that is for good stands, and an
-- exchange for Running took what lay in the slot.
use Rattle.std.proofs.Common.{◌≡◌, ℕ, suc, Bool, true, List, [], ◌∷◌, length, set, Option, Some, sym, ap, ◌∙◌}
use Rattle.std.proofs.Common.{subst, inl, inr, ⊎_elim, arith, eqb-true}
use lib.ListN.{get_elem?}
use Rattle.atomic_table.proofs.Lists.{set_here}
use Rattle.atomic_table.specs.Table.{Act, State, Step, carried_after, chain, gives, keeps, takes}
use Rattle.tj_body.proofs.Lists.{in_left, in_right}
use Rattle.tj_body.specs.Points.{IsIn}
use Rattle.tj_body.specs.Programs.{Program}
use Rattle.tj_log.proofs.Entries.{at_bound}
use Rattle.tj_log.proofs.OwnSteps.{logs_of_runs}
use Rattle.tj_log.proofs.PutSlots.{as_put}
use Rattle.tj_log.specs.Laws.{IsLastPut}
use Rattle.tj_log.specs.Runs.{IsPlain, IsRun, log_of, steps}
use Rattle.tj_log.specs.declared.entry.Did.TheVariants.{Exchange, Store}
use Rattle.tj_log.specs.declared.entry.Entry.{Entry}
use Rattle.tj_words.proofs.Stores.SeatLists.{word_here}
use Rattle.tj_words.proofs.Stores.TableWords.{is_word, is_word_here}
use Rattle.tj_words.proofs.Stores.TableWords as table_word
use Rattle.tj_words.specs.CallLaws.CallRuns.{AreAskedMoments, IsAskedStep}
use Rattle.tj_words.specs.CallLaws.LoggedRuns.{AreStepsOf, IsEntry, in_order}
use Rattle.tj_words.specs.CallLaws.RestedRuns.{Ruled, last_moment}
use Rattle.tj_words.specs.CallLaws.StepCalls.{StepCall, place_of, told_by}
use Rattle.tj_words.specs.CallLaws.StepCalls as call
use Rattle.tj_words.specs.CallLaws.StepLogs.{did_of, entry_of, table_terms}
use Rattle.tj_words.specs.Calls.ExchangeViews.{MaySwap, Swaps}
use Rattle.tj_words.specs.SeatViews.SeatSteps.{SeatMe}
use Rattle.tj_words.specs.Words.Offsets.{phase_at, word}
use Rattle.tj_words.specs.Words.Phases.{phase_in}
use Rattle.tj_words.specs.declared.phase.Phase.{Phase}
use Rattle.tj_words.specs.declared.phase.Phase.TheVariants as phase
use Rattle.tj_record.specs.declared.record.Rec.{Rec}
use Rattle.tj_words.specs.declared.table.Key.{Key}
use Rattle.tj_words.specs.declared.view.View.{View}
use Rattle.tj_runs.proofs.PhaseRows.{phases_for_good}
use Rattle.tj_runs.proofs.StepWords.{placed, word_of}
use Rattle.tj_laws.specs.LoggedPhases.{LoggedPhasesStand, RecordsAreAsPut}
use Rattle.tj_runs.specs.PhaseChanges.{IsForGood}

-- what stands in a log stands in it in the order of the steps, too
in_ordered : {A : Type 0} (x : A) (l : List A) → IsIn x l → IsIn x (in_order l)
in_ordered x [] i = absurd i
in_ordered x (y ∷ ys) (inl e) = in_right x (in_order ys) (y ∷ []) (inl e)
in_ordered x (y ∷ ys) (inr i) = in_left x (in_order ys) (y ∷ []) (in_ordered x ys i)

no_more : {A : Type 0} (x : A) (xs : List A) → [] ≡ x ∷ xs → ⊥
no_more x xs e = cc

-- the take of the slot in front
abbrev first_taken : {S : Type 0} → List (ℕ × S) → Act S
first_taken [] = keeps
first_taken (z ∷ zs) = takes z.0 z.1

-- a seat that has one slot more has taken it
taken_so : {S : Type 0} (slots : List (ℕ × S)) (act : Act S) (k : ℕ) (y : S) → IsPlain act
    → carried_after slots act ≡ (k, y) ∷ slots → act ≡ takes k y
taken_so {S} slots keeps k y plain e =
    let l : length slots ≡ suc (length slots) = ap (λ (z : List (ℕ × S)). length z) e in absurd (omega arith)
taken_so {S} slots (takes j x) k y plain e = ap first_taken e
taken_so {S} [] gives k y plain e = absurd (no_more (k, y) [] e)
taken_so {S} (x ∷ xs) gives k y plain e =
    let l : length xs ≡ suc (suc (length xs)) = ap (λ (z : List (ℕ × S)). length z) e in absurd (omega arith)
taken_so slots (chain a b) k y plain e = absurd plain

module _ {B : Type 0} (program : Bool → B → Program B) (key : Key B) where
  -- a store on PHASE leaves its operand
  stored_number : (a : StepCall) (t n k : ℕ) (st : Step (Option (Rec B))) (m m' : SeatMe B)
      → is_word (word_of a) (table_word.Phase t) ≡ true → Store ≡ did_of a → told_by program key.cells a n st m k m'
      → n ≡ st.first
  stored_number (call.puts_phase c) t n k st m m' on does told = told.0
  stored_number (call.swaps_phase c) t n k st m m' on does told = absurd (cc)
  stored_number (call.sees_phase c) t n k st m m' on does told = absurd (cc)
  stored_number (call.sees_phase_by u c) t n k st m m' on does told = absurd (cc)
  stored_number a t n k st m m' on does told = absurd (cc)

  -- an exchange from Ready, or from Parked, for Running takes the record, and the view says so
  swap_takes : (t : ℕ) (was to : Phase) (m m' : SeatMe B) → MaySwap t was to m.0 → Swaps program t was to m m'
      → to ≡ phase.Running → (r : Rec B) × (m'.1 ≡ (t, Some r) ∷ m.1) × (m'.0.records ≡ r ∷ m.0.records)
  swap_takes t was to m m' (inl h) s runs = let c = s.claims h.0 in
      (c.0, ap (λ (z : SeatMe B). z.1) c.2, ap (λ (z : SeatMe B). z.0.records) c.2)
  swap_takes t was to m m' (inr h) s runs = let c = s.goes_back h.0 h.1 h.2 runs in
      (c.0, ap (λ (z : SeatMe B). z.1) c.3, ap (λ (z : SeatMe B). z.0.records) c.3)

  -- so does an exchange on PHASE that succeeds, whatever call it is
  exchange_takes : (a : StepCall) (t n k : ℕ) (st : Step (Option (Rec B))) (m m' : SeatMe B)
      → is_word (word_of a) (table_word.Phase t) ≡ true → Exchange ≡ did_of a → told_by program key.cells a n st m k m'
      → k ≡ st.first → phase_in st.second ≡ phase.Running
      → (r : Rec B) × (m'.1 ≡ (t, Some r) ∷ m.1) × (m'.0.records ≡ r ∷ m.0.records)
  exchange_takes (call.swaps_phase c) t n k st m m' on does told found runs =
      let e : c ≡ t = eqb-true c t on in
      subst (λ z. (r : Rec B) × (m'.1 ≡ (z, Some r) ∷ m.1) × (m'.0.records ≡ r ∷ m.0.records)) e
      (swap_takes c (phase_in st.first) (phase_in st.second) m m' told.2.0 (told.2.1.0 found) runs)
  exchange_takes (call.puts_phase c) t n k st m m' on does told found runs = absurd (cc)
  exchange_takes (call.sees_phase c) t n k st m m' on does told found runs = absurd (cc)
  exchange_takes (call.sees_phase_by u c) t n k st m m' on does told found runs = absurd (cc)
  exchange_takes a t n k st m m' on does told found runs = absurd (cc)

  module _ (j t n : ℕ) (good : IsForGood (phase_in n)) where
    -- after the step the phase is this
    stored : (s z : State (Option (Rec B)) (View B)) (k : IsAskedStep program key s z)
        → IsEntry program key j (entry_of (call.puts_phase t) n 0 n) s z k
        → phase_in (word z.words (phase_at t)) ≡ phase_in n
    stored s z (inr b) h = absurd h
    stored s z (inl c) h =
        let place : phase_at t ≡ place_of c.made.call = ap (λ (x : Entry). x.word) h.is in
        let does : Store ≡ did_of c.made.call = ap (λ (x : Entry). x.did) h.is in
        let first : n ≡ c.made.operands.first = ap (λ (x : Entry). x.first) h.is in
        let after : word z.words (phase_at t) ≡ word (set s.words (place_of c.made.call) c.made.number) (phase_at t) =
        ap (λ (y : State (Option (Rec B)) (View B)). word y.words (phase_at t)) c.made.makes.after in
        let left : word z.words (phase_at t) ≡ c.made.number = after
        ∙ (ap (word (set s.words (place_of c.made.call) c.made.number)) place
        ∙ word_here s.words (place_of c.made.call) c.made.number c.made.makes.inside) in
        let on = is_word_here (table_word.Phase t) (word_of c.made.call) (sym (placed c.made.call) ∙ sym place) in
        ap phase_in (left ∙ (stored_number c.made.call t c.made.number (word s.words (place_of c.made.call))
        c.made.operands c.made.seat c.made.seat_after on does c.made.told ∙ sym first))

    -- and it stays
    stands_then : (es : List Entry) (u : Ruled program key) (later : List (Ruled program key))
        (a : AreAskedMoments program key u later) → AreStepsOf program key j es u later a
        → IsIn (entry_of (call.puts_phase t) n 0 n) es
        → phase_in (word (last_moment program key u later).now.words (phase_at t)) ≡ phase_in n
    stands_then [] u later a h i = absurd i
    stands_then (e ∷ es) u [] a h i = absurd h
    stands_then (e ∷ es) u (w ∷ ws) a (inl h) (inl q) =
        let now = stored u.now w.now a.0 (subst (λ z. IsEntry program key j z u.now w.now a.0) (sym q) h.0) in
        phases_for_good B program key w ws a.1 t (subst IsForGood (sym now) good) ∙ now
    stands_then (e ∷ es) u (w ∷ ws) a (inl h) (inr i) = stands_then es w ws a.1 h.1 i
    stands_then (e ∷ es) u (w ∷ ws) a (inr h) i = stands_then (e ∷ es) w ws a.1 h i

pub logged_phases_stand : (B : Type 0) → LoggedPhasesStand B
logged_phases_stand B program key s run j t n good logged =
    ap (λ (z : State (Option (Rec B)) (View B)). phase_in (word z.words (phase_at t))) (sym run.end)
    ∙ ⊎_elim
    (λ i. stands_then program key j t n good (in_order (log_of j run.past)) run.first run.later run.moments
    (run.logs j) (in_ordered (entry_of (call.puts_phase t) n 0 n) (log_of j run.past) i))
    (λ (h : (log : List Entry) × IsIn log _ × IsIn (entry_of (call.puts_phase t) n 0 n) log).
    let took = run.taken j h.0 h.1 in
    stands_then program key took.0 t n good (in_order h.0) run.first run.later run.moments took.1
    (in_ordered (entry_of (call.puts_phase t) n 0 n) h.0 h.2))
    logged

pub records_as_put : (B : Type 0) → RecordsAreAsPut B
records_as_put B program key s run x y came id t n m slots act runs stands =
    let terms = table_terms program key in
    let e = entry_of (call.swaps_phase t) n m n in
    let ran : IsRun terms y (steps came x id e slots act) =
    (logs_of_runs terms).earlier s y run.past (steps came x id e slots act) run.logged stands in
    let step = ran.came.1 in
    let told = step.told in
    let place : phase_at t ≡ place_of told.call = told.at in
    let on = is_word_here (table_word.Phase t) (word_of told.call) (sym (placed told.call) ∙ sym place) in
    let took = exchange_takes program key told.call t _ (word x.words (phase_at t)) _ (step.view, slots)
    (step.view_after, carried_after slots act) on told.does told.told (sym step.found) runs in
    let is : act ≡ takes t (Some took.0) = taken_so slots act t (Some took.0) step.plain took.1 in
    let again : IsRun terms y (steps came x id e slots (takes t (Some took.0))) =
    subst (λ a. IsRun terms y (steps came x id e slots a)) is ran in (
      took.0,
      is,
      subst (λ l. IsLastPut t (Some took.0) l came) again.opens.1
          ((as_put terms).taken y x came id e slots t (Some took.0) again),
      (
        step.view,
        step.view_after,
        step.at,
        ap (λ (z : State (Option (Rec B)) (View B)). get_elem? z.views id) step.after
            ∙ set_here x.views id step.view_after (at_bound x.views id step.view step.at),
        took.2,
      ),
    )
