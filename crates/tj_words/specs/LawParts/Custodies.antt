-- Custody: each live task is held once, or its record lies at home; owned lists and OWN agree.
use Rattle.std.specs.Prelude.{◌≡◌, ◌⊎◌, ◌↔◌, ℕ, ◌<◌, ◌≤◌, List, Option, Some, None}
use Rattle.tj_base.specs.declared.cell.Sort.TheVariants as sort
use Rattle.tj_body.specs.Points.{IsIn}
use Rattle.tj_words.specs.declared.phase.Walk.TheVariants as walk
use Rattle.tj_words.specs.declared.phase.Phase.{Phase}
use Rattle.tj_words.specs.declared.phase.Phase.TheVariants as phase
use Rattle.tj_record.specs.declared.record.Rec.{Rec}
use Rattle.tj_words.specs.declared.view.Hand.{Hand}
use Rattle.tj_words.specs.declared.view.Custody.{Custody}
use Rattle.tj_words.specs.Words.Lists.{Each, OfSeat, AreApart, numbers}
use Rattle.tj_words.specs.LawParts.Hands.{IsThere}
use Rattle.tj_words.specs.LawParts.Holding.{phase_of, Slots, home_in, IsEmpty, held_in}
use Rattle.tj_words.specs.LawParts.ShownState.{sort_shown}

-- some seat holds the task
abbrev pub IsHeld : Option ℕ → Type 0
IsHeld holder = (j : ℕ) × (holder ≡ Some j)

-- the OWN of a cell that isn't in hand is t exactly where the list of t has the cell; no cell stands twice in it
pub record OwnedLists (drawn : ℕ) (hand : ℕ → Option Hand) (own : ℕ → Option ℕ) (owned : ℕ → List ℕ) : Type 0
  where
    pub owners : (c t : ℕ) → IsThere drawn hand c → (own c ≡ Some t) ↔ IsIn c (owned t)
    pub owned_there : (c t : ℕ) → IsIn c (owned t) → IsThere drawn hand c
    pub owned_apart : (t : ℕ) → AreApart (owned t)

module _ {B : Type 0} where
  -- no seat holds the task, and its record lies at home
  abbrev pub LiesAtHome : Option ℕ → Option (Rec B) → Type 0
  LiesAtHome holder home = (holder ≡ None) × ((r : Rec B) × (home ≡ Some r))

  -- where a task is that stands in this phase: a seat holds it, or its record lies at home; one that has alarmed is
  -- held until its record is home
  abbrev pub IsKept : Phase → Option ℕ → Option (Rec B) → Type 0
  IsKept phase.Unborn holder home = IsHeld holder
  IsKept phase.Ready holder home = LiesAtHome holder home
  IsKept phase.Running holder home = IsHeld holder
  IsKept phase.Ended holder home = LiesAtHome holder home
  IsKept phase.Promise holder home = ⊥
  IsKept (phase.Waiting c way walk.Walking) holder home = IsHeld holder
  IsKept (phase.Waiting c way walk.Parked) holder home = LiesAtHome holder home
  IsKept (phase.Waiting c way walk.Alarmed) holder home = (IsHeld holder × (home ≡ None)) ⊎ LiesAtHome holder home

  -- a record that lies at home already while a seat holds its task: the seat has what the record has
  pub record IsLaid (k : Custody B) (home : Option (Rec B)) (r : Rec B) : Type 0 where
    pub here : home ≡ Some r
    pub owned : numbers r.owned ≡ k.owned
    pub made : r.made ≡ k.made

  -- what holds of a task that seat j holds; nothing lies at home of it but what the seat has there
  pub record IsCustody (holder : ℕ → Option ℕ) (phase : ℕ → Phase) (home : ℕ → Option (Rec B)) (j t : ℕ)
      (k : Custody B) :
      Type 0 where
    pub mine : holder t ≡ Some j
    pub does : phase t ≡ phase_of k.does
    pub laid : (r : Rec B) → k.home ≡ Some r → IsLaid k (home t) r
    pub out : k.home ≡ None → home t ≡ None

  -- each task is with one seat or at home, as its phase says, and a seat holds no other task; all other slots are
  -- empty
  pub record Custodies (cells drawn : ℕ) (hand : ℕ → Option Hand) (phase : ℕ → Phase)
      (slots : Slots B)
      (tasks : List (List (Custody B))) : Type 0 where
    pub holder : ℕ → Option ℕ
    pub tasks_kept : (t : ℕ) → t < drawn → sort_shown (hand t) (phase t) ≡ sort.Task
        → IsKept (phase t) (holder t) (home_in slots t)
    pub promises_empty : (c : ℕ) → c < drawn → sort_shown (hand c) (phase c) ≡ sort.Promise
        → IsEmpty slots c × (holder c ≡ None)
    pub undrawn_empty : (c : ℕ) → drawn ≤ c → c < cells → IsEmpty slots c
    pub undrawn_free : (c : ℕ) → drawn ≤ c → holder c ≡ None
    pub held : Each
        (λ j ks. (t : ℕ) (k : Custody B) → held_in ks t ≡ Some k → IsCustody holder phase (home_in slots) j t k) tasks
    pub holders : (t j : ℕ) → holder t ≡ Some j → OfSeat (λ ks. (k : Custody B) × (held_in ks t ≡ Some k)) tasks j
    pub own_slots : (t : ℕ) (r : Rec B) → home_in slots t ≡ Some r → r.cell.0 ≡ t
