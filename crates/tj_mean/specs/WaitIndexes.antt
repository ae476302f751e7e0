-- The wait graph by indexes: tasks go by their indexes in a list, and `next` has for each the index that it leads to.
use Rattle.std.specs.Prelude.{◌≡◌, ◌↔◌, ℕ, true, List, [], ◌∷◌, Option, Some, None, slice_index_or, slice_get}
use Rattle.std.specs.Option.{option_map_or}
use Rattle.tj_base.specs.ForkOrder.{Name}
use Rattle.tj_body.specs.Names.{has}
use Rattle.tj_mean.specs.Outcomes.{owned_by}
use Rattle.tj_mean.specs.declared.outcome.Ending.{Ending}
use Rattle.tj_mean.specs.declared.outcome.Ending.TheVariants as ending
use Rattle.tj_mean.specs.declared.outcome.Link.{Link}
use Rattle.tj_mean.specs.declared.stopped.Stopped.{Stopped}

-- the index i leads to the index j
abbrev pub Next : List (Option ℕ) → ℕ → ℕ → Type 0
Next next i j = slice_index_or next i None ≡ Some j

-- the index leads to some index
abbrev pub LeadsOn : List (Option ℕ) → ℕ → Type 0
LeadsOn next i = (j : ℕ) × Next next i j

-- the cell that a task waits for
abbrev pub waited : Ending → Name
waited (ending.Done v) = []
waited (ending.Failed c) = []
waited (ending.Waits q) = q

-- a task with the cell that it waits for
abbrev pub link_of : Stopped → Link
link_of s = record { task = s.line.name; cell = waited s.line.ending }

module _ (tasks : List Stopped) where
  -- the link of the task with this index
  abbrev pub link_at : ℕ → Link
  link_at p = option_map_or link_of (slice_get tasks p) (record { task = []; cell = [] })

  -- the task waits for a cell that the task with this index owns
  abbrev pub LeadsTo : Stopped → ℕ → Type 0
  LeadsTo s p = (q : Name) × (u : Stopped) × (s.line.ending ≡ ending.Waits q) × (slice_get tasks p ≡ Some u)
      × (has q (owned_by u) ≡ true)

  -- for each of the tasks the list has the index of the task that it leads to
  abbrev pub AreNext : List Stopped → List (Option ℕ) → Type 0
  AreNext [] [] = Unit {0}
  AreNext [] (o ∷ os) = ⊥
  AreNext (t ∷ ts) [] = ⊥
  AreNext (t ∷ ts) (o ∷ os) = ((p : ℕ) → (o ≡ Some p) ↔ LeadsTo t p) × AreNext ts os
