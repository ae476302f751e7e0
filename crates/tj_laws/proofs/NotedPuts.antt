-- A step that gives a slot back with a record in it is one of the four that put a record home, and the seat's view has
-- the record in front then.
use Rattle.std.proofs.Common.{◌≡◌, ℕ, suc, Bool, List, ◌∷◌, length, Option, Some, sym, ap, ◌∙◌}
use Rattle.std.proofs.Common.{refl, subst, ⊎_elim, arith}
use lib.ListN.{get_elem?}
use mathlib.Core.Logic.{dite}
use native.Mathlib.Decide.{dec_le, ℕ_discrete}
use Rattle.atomic_table.proofs.Lists.{set_here}
use Rattle.atomic_table.specs.Table.{Act, State, Step, carried_after, chain, gives, keeps, takes}
use Rattle.tj_base.specs.declared.cell.Sort.{Sort}
use Rattle.tj_base.specs.declared.cell.Sort.TheVariants as sort
use Rattle.tj_body.specs.Programs.{Program}
use Rattle.tj_log.proofs.Entries.{at_bound}
use Rattle.tj_log.proofs.OwnSteps.{logs_of_runs}
use Rattle.tj_log.specs.Runs.{IsPlain, IsRun, left, steps}
use Rattle.tj_log.specs.declared.entry.Did.{Did}
use Rattle.tj_words.specs.CallLaws.CallRuns.{acts_by, phase_act, takes_new}
use Rattle.tj_words.specs.CallLaws.StepCalls.{StepCall, told_by}
use Rattle.tj_words.specs.CallLaws.StepCalls as call
use Rattle.tj_words.specs.CallLaws.StepLogs.{IsTold, table_terms}
use Rattle.tj_words.specs.Calls.ExchangeViews.{MaySwap}
use Rattle.tj_words.specs.Calls.LiveViews.{SlotsOf}
use Rattle.tj_words.specs.Calls.PhaseViews.{PutsPhase}
use Rattle.tj_words.specs.SeatViews.SeatSteps.{SeatMe}
use Rattle.tj_words.specs.Words.Phases.{phase_in}
use Rattle.tj_words.specs.declared.phase.Phase.{Phase}
use Rattle.tj_words.specs.declared.phase.Phase.TheVariants as phase
use Rattle.tj_words.specs.declared.phase.Walk.TheVariants as walk
use Rattle.tj_record.specs.declared.record.Rec.{Rec}
use Rattle.tj_words.specs.declared.table.Key.{Key}
use Rattle.tj_words.specs.declared.view.View.{View}
use Rattle.tj_laws.specs.LoggedPhases.{PutsAreNoted}

-- a seat that has the front slot no longer has given it back
given_so : {S : Type 0} (z : ℕ × S) (slots : List (ℕ × S)) (act : Act S) → IsPlain act
    → slots ≡ carried_after (z ∷ slots) act → act ≡ gives
given_so {S} z slots gives plain e = refl
given_so {S} z slots keeps plain e =
    let l : length slots ≡ suc (length slots) = ap (λ (x : List (ℕ × S)). length x) e in absurd (omega arith)
given_so {S} z slots (takes j x) plain e =
    let l : length slots ≡ suc (suc (length slots)) = ap (λ (x : List (ℕ × S)). length x) e in absurd (omega arith)
given_so z slots (chain a b) plain e = absurd plain

module _ {B : Type 0} where
  -- an exchange doesn't give a slot back, and neither does a draw
  swaps_give_none : (program : Bool → B → Program B) (key : Key B) (t k : ℕ) (st : Step (Option (Rec B)))
      (m : SeatMe B) → MaySwap t (phase_in st.first) (phase_in st.second) m.0
      → acts_by program key (call.swaps_phase t) st k m gives → ⊥
  swaps_give_none program key t k st m may acts = dite (ℕ_discrete k st.first)
      (λ e. ⊎_elim
      (λ h. let z = ((acts.0 e).0 h.1).1 in absurd (cc))
      (λ h. ⊎_elim
      (λ w. let z = (acts.0 e).1 w.0 in absurd (cc))
      (λ w. let z = ((acts.0 e).0 w.0).1 in absurd (cc)) h.3) may)
      (λ e. let z = acts.1 e in absurd (cc))

  new_gives_none : (c : ℕ) (o : Sort) → gives ≡ takes_new B c o → ⊥
  new_gives_none c sort.Promise e = cc
  new_gives_none c sort.Task e = cc

  -- m is the seat before the step, which has the record in the slot that it took last
  module _ (t : ℕ) (r : Rec B) (slots : SlotsOf B) (v : View B) where
    abbrev m : SeatMe B
    m = (v, (t, Some r) ∷ slots)

    -- the store of a phase that gives the slot back
    phase_notes : (q : Phase) (c : ℕ) (m' : SeatMe B) → PutsPhase c q m m' → phase_act {B = B} q ≡ gives
        → m'.0.put_home ≡ r ∷ v.put_home
    phase_notes phase.Ended c m' p e = ap (λ (z : SeatMe B). z.0.put_home) p
    phase_notes (phase.Waiting d way walk.Parked) c m' p e = ap (λ (z : SeatMe B). z.0.put_home) p
    phase_notes (phase.Waiting d way walk.Walking) c m' p e = absurd (cc)
    phase_notes (phase.Waiting d way walk.Alarmed) c m' p e = absurd (cc)
    phase_notes q c m' p e = absurd (cc)

    -- whatever call it is that does so
    call_notes : (program : Bool → B → Program B) (key : Key B) (a : StepCall) (n k : ℕ)
        (st : Step (Option (Rec B))) (m' : SeatMe B) → told_by program key.cells a n st m k m'
        → acts_by program key a st k m gives → m'.0.put_home ≡ r ∷ v.put_home
    call_notes program key (call.puts_phase c) n k st m' told acts =
        phase_notes (phase_in st.first) c m' told.1 (sym acts)
    call_notes program key call.raises_live n k st m' told acts = ap (λ (z : SeatMe B). z.0.put_home) told.1
    call_notes program key call.lowers_live n k st m' told acts = ap (λ (z : SeatMe B). z.0.put_home) told.1
    call_notes program key (call.swaps_phase c) n k st m' told acts =
        absurd (swaps_give_none program key c k st m told.2.0 acts)
    call_notes program key (call.draws c o) n k st m' told acts = dite (dec_le key.cells k)
        (λ l. let z = acts.1 l in absurd (cc))
        (λ l. absurd (new_gives_none k o (acts.0 (omega arith))))
    call_notes program key a n k st m' told acts = absurd (cc)

    told_notes : (program : Bool → B → Program B) (key : Key B) (did : Did) (st : Step (Option (Rec B))) (k : ℕ)
        (m' : SeatMe B) → IsTold program key did st m k m' → slots ≡ m'.1 → m'.0.put_home ≡ r ∷ v.put_home
    told_notes program key did st k m' i same =
        let is : i.act ≡ gives = given_so (t, Some r) slots i.act i.plain (same ∙ i.slots) in
        call_notes program key i.call (left did st.first st.second k) k st m' i.told
        (subst (λ a. acts_by program key i.call st k m a) is i.acts)

pub puts_are_noted : (B : Type 0) → PutsAreNoted B
puts_are_noted B program key s run x y came id e t r slots stands =
    let terms = table_terms program key in
    let ran : IsRun terms y (steps came x id e ((t, Some r) ∷ slots) gives) =
    (logs_of_runs terms).earlier s y run.past (steps came x id e ((t, Some r) ∷ slots) gives) run.logged stands in
    let step = ran.came.1 in (
      step.view,
      step.view_after,
      step.at,
      ap (λ (z : State (Option (Rec B)) (View B)). get_elem? z.views id) step.after
          ∙ set_here x.views id step.view_after (at_bound x.views id step.view step.at),
      told_notes t r slots step.view program key e.did _ _ (step.view_after, slots) step.told refl,
    )
