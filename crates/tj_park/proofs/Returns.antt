-- A task that its seat had parked is taken back.
use Rattle.tj_park.proofs.Prelude.{Bool, Err, HasSlot, None, Ok, OnOk, Phase, Program, Rec, SeatMe, Some, TakesBack}
use Rattle.tj_park.proofs.Prelude.{View, Way, [], ap, more_in_front, one_some, parked_phase, raised_by_way}
use Rattle.tj_park.proofs.Prelude.{record_cells, refl, rest, suc, sym, took_record, true, ℕ, ◌+◌, ◌-◌, ◌∙◌, ◌∷◌}
use Rattle.tj_park.proofs.Prelude.{◌≡◌, ◌≢◌, ◌≤◌}
use Rattle.std.proofs.Common.{Option, Result, subst, arith, is_some, IfErr}
use Rattle.tj_words.specs.Calls.ExchangeViews.{Swaps, GoesBack, missed, went_back}
use Rattle.tj_park.specs.Inner.FirstWaiters.{lowered_for}
use Rattle.tj_park.proofs.TakenTasks.{has_taken, slot_in_front, taken_out}
use Rattle.tj_words.specs.declared.phase.Phase.TheVariants as phase

-- what can't fail has succeeded
pub never_fails : {A E : Type 0} (o : Result A E) (P : Type 0) (Q : E → Type 0) → ((e : E) → ¬ Q e) → OnOk o P
    → IfErr o Q → P
never_fails (Ok a) P Q n p q = p
never_fails (Err e) P Q n p q = absurd (n e q)

-- a phase that is parked isn't Ready
pub not_ready : (q : ℕ) (way : Way) → parked_phase q way ≢ phase.Ready
not_ready q way e = cc

module _ {B : Type 0} {program : Bool → B → Program B} {t q : ℕ} (way : Way) {m m' : SeatMe B} where
  -- the exchange from Parked to Running has succeeded
  pub goes_back : {A : Type 0} (o : Result A Phase) → OnOk o (Swaps program t (parked_phase q way) phase.Running m m')
      → IfErr o (λ p. (parked_phase q way ≡ phase.Ready) × (p ≢ parked_phase q way) × (m' ≡ (missed t p m.0, m.1)))
      → GoesBack program t q way m m'
  goes_back o s e = (never_fails o _ _ (λ p h. not_ready q way h.0) s e).goes_back q way refl refl

  module _ (b : GoesBack program t q way m m') where
    -- the slot of the task was taken
    pub back_slot : HasSlot t m'
    back_slot = slot_in_front t (Some b.0) _ m.1 m' b.3

    abbrev pub went : View B
    went = went_back t way (took_record b.0 b.1.born b.1.more m.0)

    -- the record is taken out of it
    pub back_out : (m'' : SeatMe B) (o : Option (Rec B)) → m'.1 ≡ (t, o) ∷ rest m'.1
        → m'' ≡ (m'.0, (t, None) ∷ rest m'.1) → (o ≡ Some b.0) × (m'' ≡ (went, (t, None) ∷ m.1))
    back_out m'' o found now = taken_out t b.0 went m.1 m' m'' o b.3 found now

    took : (n s : ℕ) → n ≡ m.0.cleared → s ≤ m.0.steps + 2
        → TakesBack program t q b.0 m.0 (record went { cleared = n; steps = s })
    took n s same few = record {
      knows = more_in_front m.0 (record went { cleared = n; steps = s }) (record_cells b.0) [] b.1.more [] [] b.1.begins
          ([], refl);
      hand = record { hand = refl; dues = refl };
      tokens = refl;
      cleared = same;
      refused = refl;
      tasks = refl;
      pushes = refl;
      shuts = refl;
      rest = refl;
      plain_loads = refl;
      once_loads = refl;
      found = refl;
      closed = refl;
      steps = few;
      taken = has_taken program t m.0 b.0 b.1 (record went { cleared = n; steps = s }) m.0 refl refl refl refl refl;
      waited = b.2;
      records = refl;
      put_home = refl;
    }

    -- the record is taken out of its slot
    module _ {m'' : SeatMe B} {o : Option (Rec B)} (found : m'.1 ≡ (t, o) ∷ rest m'.1)
        (now : m'' ≡ (m'.0, (t, None) ∷ rest m'.1)) where
      out : (o ≡ Some b.0) × (m'' ≡ (went, (t, None) ∷ m.1))
      out = back_out m'' o found now

      its_view : m''.0 ≡ went
      its_view = ap (λ (z : SeatMe B). z.0) out.1

      pub back_some : is_some o ≡ true
      back_some = ap is_some out.0

      pub back_slots : m''.1 ≡ (t, None) ∷ m.1
      back_slots = ap (λ (z : SeatMe B). z.1) out.1

      -- OTHERS may be lowered as often as the wait was counted there
      pub back_cleared : raised_by_way way ≤ m''.0.cleared
      back_cleared = let c : m''.0.cleared ≡ m.0.cleared + raised_by_way way = ap (λ (x : View B). x.cleared) its_view
          in omega arith

      -- and once it is, the task is back
      pub takes_back : {r : Rec B} → o ≡ Some r → {u : View B}
          → u ≡ lowered_for (parked_phase q way) u.steps m''.0 → u.steps ≤ m''.0.steps + 1
          → TakesBack program t q r m.0 u
      takes_back {r} is {u} low few =
          let n : m''.0.steps ≡ suc m.0.steps = ap (λ (x : View B). x.steps) its_view in
          subst (λ x. TakesBack program t q x m.0 u) (one_some b.0 r (sym out.0 ∙ is))
          (subst (TakesBack program t q b.0 m.0)
          (sym (low ∙ ap (lowered_for (parked_phase q way) u.steps) its_view))
          (took (went.cleared - raised_by_way way) u.steps (omega arith) (omega arith)))
