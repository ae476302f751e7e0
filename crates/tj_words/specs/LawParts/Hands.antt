-- In hand: a drawn cell is in hand of the seat that drew it until its OWN is first written.
use Rattle.std.specs.Prelude.{◌≡◌, ℕ, ◌<◌, Bool, true, false, cond, nat_eq, List, [], ◌∷◌, Option, Some, None}
use mathlib.Core.Option.{some}
use lib.ListN.{get_elem?}
use Rattle.tj_base.specs.declared.cell.Sort.{Sort}
use Rattle.tj_base.specs.declared.cell.Sort.TheVariants as sort
use Rattle.tj_words.specs.declared.phase.Phase.{Phase}
use Rattle.tj_words.specs.declared.phase.Phase.TheVariants.{Unborn, Promise}
use Rattle.tj_words.specs.declared.view.Hand.{Hand}
use Rattle.tj_words.specs.declared.view.Custody.{Custody}
use Rattle.tj_words.specs.Words.Lists.{OfSeat}
use Rattle.tj_words.specs.LawParts.Holding.{held_in}

-- the hand in which the cell is
abbrev pub hand_in : List (Option Hand) → ℕ → Option Hand
hand_in [] c = None
hand_in (None ∷ hands) c = hand_in hands c
hand_in (Some h ∷ hands) c = cond (nat_eq h.cell c) (Some h) (hand_in hands c)

-- the cell is drawn, and it isn't in hand
abbrev pub IsThere : ℕ → (ℕ → Option Hand) → ℕ → Type 0
IsThere drawn hand c = (c < drawn) × (hand c ≡ None)

-- how many cells in hand the task makes
abbrev pub making : List (Option Hand) → ℕ → ℕ
making [] t = 0
making (None ∷ hands) t = making hands t
making (Some h ∷ hands) t = cond (nat_eq h.maker t) 1 (making hands t)

-- PHASE of a cell in hand, as its drawer has written it or not
abbrev pub hand_phase : Bool → Phase
hand_phase true = Promise
hand_phase false = Unborn

-- a task isn't told to be a promise
abbrev pub IsMarkedRight : Sort → Bool → Type 0
IsMarkedRight sort.Task marked = marked ≡ false
IsMarkedRight sort.Promise marked = Unit {0}

module _ {B : Type 0} (drawn : ℕ) (phase : ℕ → Phase) where
  -- what seat j has in hand: it holds the maker, whose record isn't home
  pub record IsInHand (tasks : List (List (Custody B))) (j : ℕ) (h : Hand) : Type 0 where
    pub drawn_cell : h.cell < drawn
    pub marked : phase h.cell ≡ hand_phase h.marked
    pub marked_right : IsMarkedRight h.sort h.marked
    pub maker_held : OfSeat (λ ks. (k : Custody B) × (held_in ks h.maker ≡ Some k) × (k.home ≡ None)) tasks j

  -- a seat has at most one cell in hand, and holds that cell's maker; no cell is in two hands
  pub record Hands (hands : List (Option Hand)) (tasks : List (List (Custody B))) : Type 0 where
    pub each : (j : ℕ) (h : Hand) → get_elem? hands j ≡ some (Some h) → IsInHand tasks j h
    pub apart : (j k : ℕ) (h g : Hand) → get_elem? hands j ≡ some (Some h) → get_elem? hands k ≡ some (Some g)
        → h.cell ≡ g.cell → j ≡ k
