-- The stores of PHASE by a task's seat are allowed, whatever the table is.
use Rattle.tj_words.proofs.Prelude.{Allows, Bool, EventKeepsFacts, IsPhaseWord, Key, MayEnd, MayRelease, Program, Rule}
use Rattle.tj_words.proofs.Prelude.{SeatMe, Some, Walk, Way, ap, cell, ended, none, phase_at, phase_in, phase_word}
use Rattle.tj_words.proofs.Prelude.{published, refl, released, rest, step, subst, sym, wait_in, ℕ, ◌<◌, ◌∙◌, ◌≡◌}
use Rattle.tj_words.proofs.Lemmas.{Acts, acts_giving, acts_keeping, one_some}
use Rattle.tj_words.specs.Calls.WaitViews.{PutsIfWait, parked, MayPutWait, PutsWait, wait_store, alarmed}
use Rattle.tj_words.specs.Calls.LiveViews.{ready_store, ended_store, homed, put_with}
use Rattle.tj_words.proofs.Phases.EndedStores.{end_stores}
use Rattle.tj_words.proofs.Phases.ReadyStores.{ready_stores}
use Rattle.tj_words.proofs.Phases.ParkedStores.{parked_stores}
use Rattle.tj_words.proofs.Phases.WaitStores.{published_stores, alarmed_stores}
use Rattle.tj_words.specs.declared.phase.Walk.TheVariants as walk
use Rattle.tj_words.specs.declared.phase.Phase.TheVariants as phase

-- the word of a wait for one of so many cells
wait_word : (cells p word : ℕ) (way : Way) (w : Walk) → p < cells → phase_in word ≡ phase.Waiting (cell p) way w
    → word ≡ phase_word (phase.Waiting (cell p) way w)
    → IsPhaseWord cells word
wait_word cells p word way w l is from = record {
  code = ap phase_word is ∙ sym from;
  waits = λ c v y e. subst (λ i. i < cells) (one_some p c.0 (ap wait_in (sym is ∙ e))) l;
}

module _ {B : Type 0} (program : Bool → B → Program B) (key : Key B) (slots id : ℕ)
    (m : SeatMe B) (t i word c : ℕ) (inside : t < key.cells) (at : i ≡ phase_at t) (named : c ≡ t) where
  pub ready_allowed : phase_in word ≡ phase.Ready → word ≡ phase_word phase.Ready → MayRelease t m.0
      → Allows (Rule program key) slots id m i (λ n. word) (λ n. ready_store c (step slots i word 0 none) m word)
  ready_allowed is from may s r many here small =
      subst (λ j. Acts program key s id m j word (ready_store c (step slots i word 0 none) m word)) (sym at)
      (acts_keeping program key s r id m (phase_at t) word (ready_store c (step slots i word 0 none) m word)
      (released t m.0) (ready_stores r id here may inside word is from)
      (ap (λ u. (released u m.0, m.1)) (sym named)))

  pub ended_allowed : phase_in word ≡ phase.Ended → word ≡ phase_word phase.Ended → MayEnd program t m
      → Allows (Rule program key) slots id m i (λ n. word) (λ n. ended_store c (step slots i word 0 none) m word)
  ended_allowed is from may s r many here small =
      subst (λ j. Acts program key s id m j word (ended_store c (step slots i word 0 none) m word)) (sym at)
      (acts_giving program key s r id m (phase_at t) word (ended_store c (step slots i word 0 none) m word)
      (homed m.1 (ended t m.0)) t (Some may.record_of) may.puts.slot
      (end_stores r id here may inside (put_with m.1 m.0.put_home)
      (ap (λ l. put_with l m.0.put_home) may.puts.slot) word is from)
      (ap (λ u. (homed m.1 (ended u m.0), rest m.1)) (sym named)))

  -- the store of a wait
  module _ (kept : EventKeepsFacts) (p : ℕ) (way : Way) (few : p < key.cells) where
    -- what the step makes of the seat
    abbrev Then : SeatMe B → Type 0
    Then m' = wait_store c (step slots i word 0 none) m word m'

    then : (w : Walk) (m' : SeatMe B) → phase_in word ≡ phase.Waiting (cell p) way w → PutsWait t p way w m m' → Then m'
    then w m' is h = subst (λ u. PutsIfWait u (phase_in word) m m') (sym named)
        (subst (λ z. PutsIfWait t z m m') (sym is) h)

    pub wait_allowed : (w : Walk) → phase_in word ≡ phase.Waiting (cell p) way w
        → word ≡ phase_word (phase.Waiting (cell p) way w)
        → MayPutWait program t p way w m
        → Allows (Rule program key) slots id m i (λ n. word) (λ n. Then)
    wait_allowed walk.Walking is from may s r many here small =
        subst (λ j. Acts program key s id m j word Then) (sym at)
        (acts_keeping program key s r id m (phase_at t) word Then (published t p way m.0)
        (published_stores r id here may inside kept word (wait_word key.cells p word way walk.Walking few is from) is)
        (then walk.Walking (published t p way m.0, m.1) is refl))
    wait_allowed walk.Parked is from may s r many here small =
        subst (λ j. Acts program key s id m j word Then) (sym at)
        (acts_giving program key s r id m (phase_at t) word Then (homed m.1 (parked t p way m.0)) t
        (Some may.record_of) may.puts.slot
        (parked_stores r id here may inside kept (put_with m.1 m.0.put_home)
        (ap (λ l. put_with l m.0.put_home) may.puts.slot) word
        (wait_word key.cells p word way walk.Parked few is from) is)
        (then walk.Parked (homed m.1 (parked t p way m.0), rest m.1) is refl))
    wait_allowed walk.Alarmed is from may s r many here small =
        subst (λ j. Acts program key s id m j word Then) (sym at)
        (acts_keeping program key s r id m (phase_at t) word Then (alarmed t p way m.0)
        (alarmed_stores r id here may inside kept word (wait_word key.cells p word way walk.Alarmed few is from) is)
        (then walk.Alarmed (alarmed t p way m.0, m.1) is refl))
