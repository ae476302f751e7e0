-- What a step tells of its seat is what the step call tells that it is.
use Rattle.tj_words.proofs.Prelude.{Bool, Key, MayPutOnce, Once, Option, Phase, Program, PutsOnce, PutsPhase, Rec}
use Rattle.tj_words.proofs.Prelude.{Rule, SeatMe, State, StepCall, View, arith, get_elem?, none, phase_at, phase_in}
use Rattle.tj_words.proofs.Prelude.{place_of, refl, some, step, subst, suc, sym, told_by, word, ℕ, ◌%◌, ◌+◌, ◌-◌, ◌<◌}
use Rattle.tj_words.proofs.Prelude.{◌^◌, ◌≡◌}
use Rattle.tj_log.specs.Runs.{left}
use Rattle.tj_log.specs.declared.entry.Did.{Did}
use Rattle.tj_log.specs.declared.entry.Did.TheVariants.{Store}
use Rattle.tj_words.specs.CallLaws.CallRuns.{asked_by}
use Rattle.tj_words.specs.CallLaws.StepCalls as call
use Rattle.tj_words.specs.Calls.PhaseViews.{MayPutPhase}
use Rattle.tj_words.specs.CallLaws.StepLogs.{IsTold, did_of}
use Rattle.tj_words.specs.Words.Offsets.{words_for}
use Rattle.tj_words.specs.Calls.DrawViews.{MayWrite, wrote_word}
use Rattle.tj_words.proofs.Calls.StepActs.{acts_so}
use Rattle.tj_words.specs.declared.offsets.Once.TheVariants as once

-- a step with a word of the table tells what this call tells, of a seat of which what the call asks is so
pub told_step : {B : Type 0} {program : Bool → B → Program B} {key : Key B} {slots id : ℕ} {m : SeatMe B} {i : ℕ}
    (then : State (Option (Rec B)) (View B) → SeatMe B → Type 0) (call : StepCall) (did : Did) (a b : ℕ)
    → did ≡ did_of call → i ≡ place_of call
    → i < words_for key.cells → asked_by program key call (step slots i a b none) m
    → ((s : State (Option (Rec B)) (View B)) → Rule program key s → get_elem? s.views id ≡ some m.0
    → (m' : SeatMe B) → then s m'
    → told_by program key.cells call (left did a b (word s.words i)) (step slots i a b none) m (word s.words i) m')
    → (s : State (Option (Rec B)) (View B)) → Rule program key s → get_elem? s.views id ≡ some m.0
    → (m' : SeatMe B) → then s m'
    → IsTold program key did (step slots i a b none) m (word s.words i) m'
told_step {B} {program} {key} {slots} {id} {m} {i} then call did a b does at inside asks tells s r is m' t =
    let told = tells s r is m' t in
    let acts = acts_so program key (step slots i a b none) (left did a b (word s.words i)) (word s.words i) m m' call
    told in record {
      call = call;
      does = does;
      at = at;
      inside = inside;
      asks = asks;
      told = told;
      act = acts.0;
      acts = acts.1;
      plain = acts.2;
      slots = acts.3;
    }

-- a store of PHASE of t tells what a store of this phase tells
pub phase_told : {B : Type 0} {program : Bool → B → Program B} {key : Key B} {slots id : ℕ} {m : SeatMe B} {i : ℕ}
    (then : State (Option (Rec B)) (View B) → SeatMe B → Type 0) (t w : ℕ) {p : Phase} → i ≡ phase_at t
    → i < words_for key.cells → t < key.cells → phase_in w ≡ p → MayPutPhase program t p m
    → ((s : State (Option (Rec B)) (View B)) → Rule program key s → get_elem? s.views id ≡ some m.0
    → (m' : SeatMe B) → then s m' → PutsPhase t p m m')
    → (s : State (Option (Rec B)) (View B)) → Rule program key s → get_elem? s.views id ≡ some m.0
    → (m' : SeatMe B) → then s m' → IsTold program key Store (step slots i w 0 none) m (word s.words i) m'
phase_told {program = program} {m = m} then t w at inside small is may puts =
    told_step then (call.puts_phase t) Store w 0 refl at inside
    (small, subst (λ q. MayPutPhase program t q m) (sym is) may)
    (λ s r k m' h. (refl, subst (λ q. PutsPhase t q m m') (sym is) (puts s r k m' h)))

-- what a counter is after one more or one less
pub up_is : {n : ℕ} → n < 2 ^ 32 → (n + 1) % 2 ^ 64 ≡ suc n
up_is {n} small = omega (arith, small)

pub down_is : {n : ℕ} → n < 2 ^ 32 → 0 < n → (n + (2 ^ 64 - 1)) % 2 ^ 64 ≡ n - 1
down_is {n} small more = omega (arith, small, more)

-- what is asked and told of a word of the tree, in the terms of any word that is written once
module _ {B : Type 0} (program : Bool → B → Program B) {c n : ℕ} {v : View B} where
  pub tree_may : (f : Once) → MayWrite c f n v → MayPutOnce program f c n v
  tree_may once.Tag m = absurd m.right
  tree_may once.Bits m = absurd m.right
  tree_may once.Parent m = m
  tree_may once.Kid m = m
  tree_may once.Depth m = m
  tree_may once.Jump m = m

  pub tree_puts : {w : View B} (f : Once) → MayWrite c f n v → w ≡ wrote_word c f n v → PutsOnce program f c n v w
  tree_puts once.Tag m e = absurd m.right
  tree_puts once.Bits m e = absurd m.right
  tree_puts once.Parent m e = e
  tree_puts once.Kid m e = e
  tree_puts once.Depth m e = e
  tree_puts once.Jump m e = e
