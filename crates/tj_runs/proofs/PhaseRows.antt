-- Each change of PHASE is one of the rows of the stores and the exchanges.
use Rattle.std.proofs.Common.{◌≡◌, ◌⊎◌, ℕ, Bool, true, false, [], ◌∷◌, Option, Some}
use Rattle.std.proofs.Common.{refl, sym, ap, ◌∙◌, subst, inl, inr, ⊎_elim, arith, eqb-true}
use native.Mathlib.Decide.{ℕ_discrete}
use mathlib.Core.Logic.{dite}
use mathlib.Core.Option.{some}
use lib.ListN.{get_elem?}
use Rattle.atomic_table.specs.Table.{State, Step}
use Rattle.tj_base.specs.declared.cell.CellId.{CellId}
use Rattle.tj_body.specs.Programs.{Program}
use Rattle.tj_events.specs.declared.walk.Way.{Way}
use Rattle.tj_words.specs.declared.phase.Phase.{Phase}
use Rattle.tj_words.specs.declared.phase.Phase.TheVariants as phase
use Rattle.tj_words.specs.declared.phase.Walk.TheVariants as walk
use Rattle.tj_record.specs.declared.record.Rec.{Rec}
use Rattle.tj_words.specs.declared.table.Key.{Key}
use Rattle.tj_words.specs.declared.view.Custody.{Custody}
use Rattle.tj_words.specs.declared.view.Does.{Does}
use Rattle.tj_words.specs.declared.view.Hand.{Hand}
use Rattle.tj_words.specs.declared.view.View.{View}
use Rattle.tj_words.specs.CallLaws.CallRuns.{IsAskedStep, asked_by}
use Rattle.tj_words.specs.CallLaws.RestedRuns.{Ruled}
use Rattle.tj_words.specs.CallLaws.StepCalls.{StepCall, place_of, told_by}
use Rattle.tj_words.specs.CallLaws.StepCalls as call
use Rattle.tj_words.specs.Calls.PhaseViews.{MayPutPhase}
use Rattle.tj_words.specs.Calls.WaitViews.{HasWalker}
use Rattle.tj_words.specs.LawParts.Contents.{contents_of}
use Rattle.tj_words.specs.LawParts.Hands.{hand_phase}
use Rattle.tj_words.specs.LawParts.Holding.{held_in, phase_of}
use Rattle.tj_words.specs.SeatViews.SeatSteps.{SeatMe}
use Rattle.tj_words.specs.Steps.WalkSteps.{MayWait}
use Rattle.tj_words.specs.Words.Offsets.{phase_at, word}
use Rattle.tj_words.specs.Words.Phases.{phase_in}
use Rattle.tj_words.proofs.Prelude.{at_map}
use Rattle.tj_words.proofs.Stores.TableWords.{is_word}
use Rattle.tj_words.proofs.Stores.TableWords as table_word
use Rattle.tj_runs.specs.Moments.{contents_at}
use Rattle.tj_runs.specs.PhaseChanges.{IsExchangedFor, IsForGood, IsStoredOver, PhasesAreForGood}
use Rattle.tj_runs.specs.PhaseChanges.{PhasesGoByRows, StepsGoByRows}
use Rattle.tj_runs.proofs.StepWords.{IsLeftBy, word_of, word_stays}

-- the phase goes by a row, or stays
abbrev pub GoesByRow : Phase → Phase → Type 0
GoesByRow p q = (q ≡ p) ⊎ (IsStoredOver p q ⊎ IsExchangedFor p q)

-- a task that may publish runs
waits_run : (w : Way) (d : Does) → MayWait w d → phase_of d ≡ phase.Running
waits_run w d h = grind arith

-- a row from the phases that stand
by_store : {p q a b : Phase} → p ≡ a → q ≡ b → IsStoredOver a b → GoesByRow p q
by_store {p} {q} e f h = inr (inl (subst (λ (z : Phase). IsStoredOver z q) (sym e) (subst (IsStoredOver _) (sym f) h)))

by_exchange : {p q a b : Phase} → p ≡ a → q ≡ b → IsExchangedFor a b → GoesByRow p q
by_exchange {p} {q} e f h =
    inr (inr (subst (λ (z : Phase). IsExchangedFor z q) (sym e) (subst (IsExchangedFor _) (sym f) h)))

module _ {B : Type 0} (program : Bool → B → Program B) (key : Key B) (u : Ruled program key) (id : ℕ) (m : SeatMe B)
    (at : get_elem? u.now.views id ≡ some m.0) where
  abbrev now : ℕ → Phase
  now c = phase_in (word u.now.words (phase_at c))

  -- PHASE of a task that the seat holds
  pub held_phase : (t : ℕ) (k : Custody B) → held_in m.0.tasks t ≡ Some k → now t ≡ phase_of k.does
  held_phase t k h = (u.rule.law.custody.held id m.0.tasks (at_map (λ (v : View B). v.tasks) u.now.views id m.0 at) t k
      h).does

  walker_phase : (t : ℕ) (c : CellId) (w : Way) → HasWalker t c.0 w m.0 → now t ≡ phase.Waiting c w walk.Walking
  walker_phase t c w h = held_phase t h.custody h.held ∙ ap phase_of h.walks

  -- PHASE of what the seat has in hand
  marked_phase : (h : Hand) → m.0.hand ≡ Some h → now h.cell ≡ hand_phase h.marked
  marked_phase h e = (u.rule.law.hands.each id h
      (at_map (λ (v : View B). v.hand) u.now.views id m.0 at ∙ ap some e)).marked

  by_mark : (b : Bool) (p q : Phase) → p ≡ hand_phase b → q ≡ phase.Promise → GoesByRow p q
  by_mark true p q e f = inl (f ∙ sym e)
  by_mark false p q e f = by_store e f (inr refl)

  -- what may be stored goes by a row
  stored_row : (t : ℕ) (p q : Phase) → q ≡ p → MayPutPhase program t p m → GoesByRow (now t) q
  stored_row t phase.Unborn q e may = absurd may
  stored_row t phase.Ready q e may =
      by_store (held_phase t may.custody may.held ∙ ap phase_of may.unborn) e (inl refl)
  stored_row t phase.Running q e may = absurd may
  stored_row t phase.Ended q e may =
      by_store (held_phase t may.custody may.held ∙ ap phase_of may.runs) e (inl refl)
  stored_row t phase.Promise q e may = by_mark may.hand.marked (now t) q
      (ap now (sym may.its_cell) ∙ marked_phase may.hand may.has) e
  stored_row t (phase.Waiting c w walk.Walking) q e may =
      by_store (held_phase t may.custody may.held ∙ waits_run w may.custody.does may.may) e (inr (c, w, refl))
  stored_row t (phase.Waiting c w walk.Parked) q e may = by_store (walker_phase t c w may.walks) e (inl refl)
  stored_row t (phase.Waiting c w walk.Alarmed) q e may = by_store (walker_phase t c w may.walks) e (inr refl)

  same_row : (c : ℕ) {n : ℕ} → n ≡ word u.now.words (phase_at c) → GoesByRow (now c) (phase_in n)
  same_row c e = inl (ap phase_in e)

  -- a call on PHASE of c leaves a phase that goes by a row
  call_row : (a : StepCall) (c n : ℕ) (st : Step (Option (Rec B))) (m' : SeatMe B)
      → is_word (word_of a) (table_word.Phase c) ≡ true → asked_by program key a st m
      → told_by program key.cells a n st m (word u.now.words (place_of a)) m' → GoesByRow (now c) (phase_in n)
  call_row (call.puts_phase t) c n st m' on ask told =
      let e : t ≡ c = eqb-true t c on in
      subst (λ k. GoesByRow (now k) (phase_in n)) e
      (stored_row t (phase_in st.first) (phase_in n) (ap phase_in told.0) ask.1)
  call_row (call.swaps_phase t) c n st m' on ask told =
      let e : t ≡ c = eqb-true t c on in
      subst (λ k. GoesByRow (now k) (phase_in n)) e
      (dite (ℕ_discrete (word u.now.words (phase_at t)) st.first)
      (λ q. ⊎_elim
      (λ z. by_exchange (ap phase_in q ∙ z.0) (ap phase_in (told.0 q) ∙ z.1) refl)
      (λ z. ⊎_elim
      (λ w. by_exchange (ap phase_in q ∙ z.2) (ap phase_in (told.0 q) ∙ w.0) (inl refl))
      (λ w. by_exchange (ap phase_in q ∙ z.2) (ap phase_in (told.0 q) ∙ w.0) (inr refl)) z.3) told.2.0)
      (λ q. same_row t (told.1 q)))
  call_row (call.sees_phase t) c n st m' on ask told =
      let e : t ≡ c = eqb-true t c on in subst (λ k. GoesByRow (now k) (phase_in n)) e (same_row t told.0)
  call_row (call.sees_phase_by t v) c n st m' on ask told =
      let e : v ≡ c = eqb-true v c on in subst (λ k. GoesByRow (now k) (phase_in n)) e (same_row v told.0)
  call_row a c n st m' on ask told = absurd (cc)

module _ {B : Type 0} (program : Bool → B → Program B) (key : Key B) (u : Ruled program key)
    (t : State (Option (Rec B)) (View B)) where
  -- each step goes by rows
  pub step_rows : IsAskedStep program key u.now t → PhasesGoByRows (contents_of u.now) (contents_of t)
  step_rows (inl k) c = ⊎_elim
      (λ e. inl (ap phase_in e))
      (λ (l : IsLeftBy program key u.now t k.made (table_word.Phase c)).
      subst (λ n. GoesByRow (phase_in (word u.now.words (phase_at c))) (phase_in n)) (sym l.left)
      (call_row program key u k.made.id k.made.seat k.made.makes.at k.made.call c k.made.number k.made.operands
      k.made.seat_after l.on k.asks k.made.told))
      (word_stays program key u.now t k.made (table_word.Phase c))
  step_rows (inr (inl p)) c = inl (ap (λ (z : State (Option (Rec B)) (View B)). phase_in (word z.words (phase_at c)))
      p.after)
  step_rows (inr (inr p)) c = inl (ap (λ (z : State (Option (Rec B)) (View B)). phase_in (word z.words (phase_at c)))
      p.merge.after)

-- no row leads away from a phase that is for good
stuck : (p q : Phase) → IsForGood p → GoesByRow p q → q ≡ p
stuck p q good (inl e) = e
stuck phase.Ended q good (inr (inl h)) = absurd h
stuck phase.Ended q good (inr (inr h)) = absurd h
stuck phase.Promise q good (inr (inl h)) = absurd h
stuck phase.Promise q good (inr (inr h)) = absurd h
stuck (phase.Waiting c w walk.Alarmed) q good (inr (inl h)) = absurd h
stuck (phase.Waiting c w walk.Alarmed) q good (inr (inr h)) = absurd h
stuck (phase.Waiting c w walk.Walking) q good (inr h) = absurd good
stuck (phase.Waiting c w walk.Parked) q good (inr h) = absurd good
stuck phase.Unborn q good (inr h) = absurd good
stuck phase.Ready q good (inr h) = absurd good
stuck phase.Running q good (inr h) = absurd good

pub steps_by_rows : (B : Type 0) → StepsGoByRows B
steps_by_rows B program key u w a = step_rows program key u w.now a

pub phases_for_good : (B : Type 0) → PhasesAreForGood B
phases_for_good B program key u [] a = λ c good. refl
phases_for_good B program key u (w ∷ ws) a = λ c good.
    let e = stuck (phase_now u c) (phase_now w c) good (step_rows program key u w.now a.0 c) in
    phases_for_good B program key w ws a.1 c (subst IsForGood (sym e) good) ∙ e
  where
    phase_now : Ruled program key → ℕ → Phase
    phase_now z c = (contents_at program key z).words.phase c
