-- The facts of the core state after a step, by the core's law.
use Rattle.tj_words.proofs.Prelude.{Contents, CoreFacts, Event, EventKeepsFacts, Law, List, Program, Reference}
use Rattle.tj_words.proofs.Prelude.{core_shown, subst, sym, ℕ}
use Rattle.tj_words.proofs.Events.StepEvents.{IsQuietStep, ShowsEvent}

module _ {B : Type 0} {cells : ℕ} {born : List Reference} {maker : ℕ → ℕ} {x y : Contents B} where
  -- a step that is an event keeps the facts
  pub facts_after : EventKeepsFacts → {e : Event} {born' : List Reference} {maker' : ℕ → ℕ}
      → ShowsEvent cells born maker x y e born' maker'
      → CoreFacts (core_shown cells born maker x)
      → CoreFacts (core_shown cells born' maker' y)
  facts_after law {e} s facts =
      subst CoreFacts (sym s.shown) (law cells (core_shown cells born maker x) e facts s.allowed)

-- and so does one that is none
pub facts_quiet : {B : Type 0} {program : Program B} {cells : ℕ} {x y : Contents B} (r : Law program cells x)
    → IsQuietStep r y → CoreFacts (core_shown cells r.born r.maker y)
facts_quiet r q = subst CoreFacts (sym q.0) r.facts
