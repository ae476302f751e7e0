-- What a call of one worker's end does to the queues of a stealing pool.
use Rattle.std.specs.Prelude.{◌≡◌, ◌⊎◌, List, [], ◌∷◌, ◌++◌, All}
use Rattle.tj_base.specs.declared.cell.CellId.{CellId}

-- What an end knows of its own deque as its worker, the cells of its spare list, and what it knows of each deque, its
-- own too, as one that takes from it.
pub record Known (V : Type 0) : Type 0 where
  pub own : V
  pub spare : List CellId
  pub others : List V

module _ {V : Type 0} (step : V → List CellId → V → Type 0) where
  -- the cell passed through one of these deques by one step, which changed what is known of that deque alone
  pub record StepsOne (before : List V) (t : CellId) (after : List V) : Type 0 where
    pub front : List V
    pub old : V
    pub new : V
    pub back : List V
    pub was : before ≡ front ++ old ∷ back
    pub is : after ≡ front ++ new ∷ back
    pub by : step old (t ∷ []) new

  -- the cell passed through the end's own deque
  pub record StepsOwn (before : Known V) (t : CellId) (after : Known V) : Type 0 where
    pub by : step before.own (t ∷ []) after.own
    pub spare : after.spare ≡ before.spare
    pub others : after.others ≡ before.others

  -- the cell left one of the deques by the end's seat there
  pub record StepsOther (before : Known V) (t : CellId) (after : Known V) : Type 0 where
    pub by : StepsOne before.others t after.others
    pub own : after.own ≡ before.own
    pub spare : after.spare ≡ before.spare

-- the spare list changed from one list to another, and nothing else did
pub record ChangesSpare {V : Type 0} (before : Known V) (old new : List CellId) (after : Known V) : Type 0 where
  pub was : before.spare ≡ old
  pub is : after.spare ≡ new
  pub own : after.own ≡ before.own
  pub others : after.others ≡ before.others

module _ {V : Type 0} where
  -- the cell joined one queue at a step: the own deque, or the back of the spare list
  abbrev pub PutsCell : (V → List CellId → V → Type 0) → Known V → CellId → Known V → Type 0
  PutsCell puts before t after =
      StepsOwn puts before t after ⊎ ChangesSpare before before.spare (before.spare ++ t ∷ []) after

  -- the cell left one queue at a step: the own deque, the front of the spare list, or another's deque
  abbrev pub TakesCell : (V → List CellId → V → Type 0) → Known V → CellId → Known V → Type 0
  TakesCell takes before t after =
      StepsOwn takes before t after
      ⊎ ChangesSpare before (t ∷ after.spare) after.spare after
      ⊎ StepsOther takes before t after

  -- the own deque and the spare list were empty at a step, and of each other deque this is known
  pub record FindsNone (empty there : V → Type 0) (before after : Known V) : Type 0 where
    pub same : after ≡ before
    pub own : empty before.own
    pub spare : before.spare ≡ []
    pub others : All there before.others
