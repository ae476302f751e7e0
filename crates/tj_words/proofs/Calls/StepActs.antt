-- What a step call does with the slots of its seat is in what it tells, and in what it asks.
use Rattle.tj_words.proofs.Prelude.{Act, Bool, IsPlain, Key, KnowsTable, MayClearFrom, MayGoBack, MayWake, None, Option}
use Rattle.tj_words.proofs.Prelude.{Phase, Program, PutsPhase, Rec, SeatMe, SlotsOf, Some, Sort, Step, StepCall, View}
use Rattle.tj_words.proofs.Prelude.{[], ap, carried_after, dec_le, dite, gives, keeps, lowered_with, phase_in}
use Rattle.tj_words.proofs.Prelude.{raised_with, refl, sym, takes, takes_new, told_by, ℕ, ℕ_discrete, ⊎_elim, ◌<◌, ◌∙◌}
use Rattle.tj_words.proofs.Prelude.{arith, ◌∷◌, ◌≡◌, ◌≤◌}
use Rattle.tj_words.specs.CallLaws.CallRuns.{acts_by, live_act, phase_act}
use Rattle.tj_words.specs.Calls.DrawViews.{new_slots}
use Rattle.tj_base.specs.declared.cell.Sort.TheVariants as sort
use Rattle.tj_words.specs.declared.phase.Phase.TheVariants as phase
use Rattle.tj_words.specs.declared.phase.Walk.TheVariants as walk
use Rattle.tj_words.specs.CallLaws.StepCalls as call

module _ {B : Type 0} where
  -- what a seat does with its slots, of which this is so: it has these slots then
  abbrev pub ActsSo : SlotsOf B → SlotsOf B → (Act (Option (Rec B)) → Type 0) → Type 0
  ActsSo before after F = (a : Act (Option (Rec B))) × F a × IsPlain a × (after ≡ carried_after before a)

  -- a step on LIVE gives the slot back that the seat took last, where a record was put into it
  up : (v : View B) (slots : SlotsOf B) (m' : SeatMe B) → m' ≡ raised_with v slots
      → ActsSo slots m'.1 (λ a. a ≡ live_act slots)
  up v [] m' e = (keeps, refl, tt, ap (λ (z : SeatMe B). z.1) e)
  up v ((t, None) ∷ slots) m' e = (keeps, refl, tt, ap (λ (z : SeatMe B). z.1) e)
  up v ((t, Some r) ∷ slots) m' e = (gives, refl, tt, ap (λ (z : SeatMe B). z.1) e)

  down : (v : View B) (slots : SlotsOf B) (m' : SeatMe B) → m' ≡ lowered_with v slots
      → ActsSo slots m'.1 (λ a. a ≡ live_act slots)
  down v [] m' e = (keeps, refl, tt, ap (λ (z : SeatMe B). z.1) e)
  down v ((t, None) ∷ slots) m' e = (keeps, refl, tt, ap (λ (z : SeatMe B). z.1) e)
  down v ((t, Some r) ∷ slots) m' e = (gives, refl, tt, ap (λ (z : SeatMe B). z.1) e)

module _ {B : Type 0} (program : Bool → B → Program B) (key : Key B) (st : Step (Option (Rec B))) (n k : ℕ)
    (m m' : SeatMe B) where
  abbrev Goes : (Act (Option (Rec B)) → Type 0) → Type 0
  Goes F = ActsSo m.1 m'.1 F

  stays : m'.1 ≡ m.1 → Goes (λ a. a ≡ keeps)
  stays e = (keeps, refl, tt, e)

  slots_of : {a : SeatMe B} → m' ≡ a → m'.1 ≡ a.1
  slots_of e = ap (λ (z : SeatMe B). z.1) e

  draws : (t : ℕ) (o : Sort) → told_by program key.cells (call.draws t o) n st m k m'
      → Goes (acts_by program key (call.draws t o) st k m)
  draws t o p = dite (dec_le key.cells k)
      (λ l. (keeps, ((λ i. absurd (omega (arith, l, i))), (λ i. refl)), tt, (p.1.1 l).1))
      (λ g. let l : k < key.cells = omega (arith, g) in drawn o l (p.1.0 l).1)
    where
      drawn : (o : Sort) → k < key.cells → m'.1 ≡ new_slots k o m.1
          → Goes (λ a. (k < key.cells → a ≡ takes_new B k o) × (key.cells ≤ k → a ≡ keeps))
      drawn sort.Promise l e = (keeps, ((λ i. refl), (λ i. refl)), tt, e)
      drawn sort.Task l e = (takes k None, ((λ i. refl), (λ i. absurd (omega (arith, l, i)))), tt, e)

  put : (t : ℕ) (q : Phase) → PutsPhase t q m m' → Goes (λ a. a ≡ phase_act q)
  put t phase.Ready p = stays (slots_of p)
  put t phase.Ended p = (gives, refl, tt, slots_of p)
  put t phase.Promise p = stays (slots_of p)
  put t (phase.Waiting c way walk.Walking) p = stays (slots_of p)
  put t (phase.Waiting c way walk.Parked) p = (gives, refl, tt, slots_of p)
  put t (phase.Waiting c way walk.Alarmed) p = stays (slots_of p)
  put t q p = absurd p

  swaps : (t : ℕ) → told_by program key.cells (call.swaps_phase t) n st m k m'
      → Goes (acts_by program key (call.swaps_phase t) st k m)
  swaps t p = dite (ℕ_discrete k st.first)
      (λ e. let went = p.2.1.0 e in ⊎_elim
      (λ (q : (phase_in st.first ≡ phase.Ready) × (phase_in st.second ≡ phase.Running) × KnowsTable m.0).
      let g = went.claims q.0 in runs e g.0 q.1 (slots_of g.2))
      (λ (q : MayClearFrom t (phase_in st.first) (phase_in st.second) m.0). ⊎_elim
      (λ (z : (phase_in st.second ≡ phase.Ready) × MayWake t q.0 q.1 m.0).
      wakes e z.0 (slots_of (went.wakes q.0 q.1 q.2 z.0)))
      (λ (z : (phase_in st.second ≡ phase.Running) × MayGoBack t q.0 q.1 m.0).
      let g = went.goes_back q.0 q.1 q.2 z.0 in runs e g.0 z.0 (slots_of g.3)) q.3) p.2.0)
      (λ e. (keeps, ((λ z. absurd (e z)), (λ z. refl)), tt, slots_of (p.2.1.1 e).1))
    where
      runs : k ≡ st.first → (r : Rec B) → phase_in st.second ≡ phase.Running → m'.1 ≡ (t, Some r) ∷ m.1
          → Goes (acts_by program key (call.swaps_phase t) st k m)
      runs e r to s = (
        takes t (Some r),
        (
          (λ z. (
            (λ y. (r, refl)),
            (λ y. let no : phase.Running ≡ phase.Ready = sym to ∙ y in absurd (cc)),
          )),
          (λ z. absurd (z e)),
        ),
        tt,
        s,
      )

      wakes : k ≡ st.first → phase_in st.second ≡ phase.Ready → m'.1 ≡ m.1
          → Goes (acts_by program key (call.swaps_phase t) st k m)
      wakes e to s = (
        keeps,
        (
          (λ z. ((λ y. let no : phase.Running ≡ phase.Ready = sym y ∙ to in absurd (cc)), (λ y. refl))),
          (λ z. absurd (z e)),
        ),
        tt,
        s,
      )

  pub acts_so : (c : StepCall) → told_by program key.cells c n st m k m' → Goes (acts_by program key c st k m)
  acts_so (call.draws t o) p = draws t o p
  acts_so call.counts p = stays p.1.0
  acts_so (call.counts_by t) p = stays p.1.0
  acts_so (call.puts_once c f) p = stays p.1.1
  acts_so (call.sees_once c f) p = stays p.1.0
  acts_so (call.puts_owner c) p = stays p.1.1.0
  acts_so (call.sees_owner c) p = stays p.1.0
  acts_so (call.sees_owner_by t c) p = stays p.1.0
  acts_so (call.puts_phase t) p = put t (phase_in st.first) p.1
  acts_so (call.sees_phase t) p = stays p.1.0
  acts_so (call.sees_phase_by t u) p = stays p.1.0
  acts_so (call.swaps_phase t) p = swaps t p
  acts_so (call.raises_others t) p = stays p.1.0
  acts_so call.lowers_others p = stays p.1.0
  acts_so (call.sees_others_by t) p = stays p.1.0
  acts_so call.raises_live p = up m.0 m.1 m' p.1
  acts_so call.lowers_live p = down m.0 m.1 m' p.1
  acts_so call.sees_live p = stays p.1.0
  acts_so call.stops p = stays (slots_of p.1.0)
  acts_so call.sees_stop p = stays p.1.0
  acts_so (call.sees_head c) p = stays p.1.0
  acts_so (call.pushes c) p = stays p.2.0
  acts_so (call.shuts c) p = stays p.1.0
  acts_so (call.puts_next t) p = stays p.1.0
  acts_so (call.sees_next t) p = stays p.1.0
