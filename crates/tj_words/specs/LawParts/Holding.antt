-- Which tasks the seats hold, and which records lie at home.
use Rattle.std.specs.Prelude.{◌≡◌, ℕ, cond, nat_eq, List, [], ◌∷◌, Option, Some, None}
use mathlib.Core.Option as maybe
use lib.ListN.{get_elem?}
use Rattle.tj_words.specs.declared.phase.Walk.TheVariants as walk
use Rattle.tj_words.specs.declared.phase.Phase.{Phase}
use Rattle.tj_words.specs.declared.phase.Phase.TheVariants as phase
use Rattle.tj_record.specs.declared.record.Rec.{Rec}
use Rattle.tj_words.specs.declared.view.Does.{Does}
use Rattle.tj_words.specs.declared.view.Does.TheVariants as does
use Rattle.tj_words.specs.declared.view.Custody.{Custody}
use Rattle.tj_words.specs.Words.Lists.{cell, numbers}

-- PHASE of a task that does this
abbrev pub phase_of : Does → Phase
phase_of does.Unborn = phase.Unborn
phase_of does.Fresh = phase.Running
phase_of does.Running = phase.Running
phase_of does.Raised = phase.Running
phase_of (does.Walking c way w) = phase.Waiting (cell c) way walk.Walking
phase_of (does.Alarmed c way w) = phase.Waiting (cell c) way walk.Alarmed

-- the slots of a table: a slot is out with a seat, or at home with a record or with none
abbrev pub Slots : Type 0 → Type 0
Slots B = List (maybe.Option (Option (Rec B)))

module _ {B : Type 0} where
  -- what lies in a slot that is at home
  abbrev pub record_in : maybe.Option (maybe.Option (Option (Rec B))) → Option (Rec B)
  record_in maybe.none = None
  record_in (maybe.some maybe.none) = None
  record_in (maybe.some (maybe.some o)) = o

  -- the record of the task that lies at home
  abbrev pub home_in : Slots B → ℕ → Option (Rec B)
  home_in slots t = record_in (get_elem? slots t)

  -- the slot is at home, and has no record
  abbrev pub IsEmpty : Slots B → ℕ → Type 0
  IsEmpty slots t = get_elem? slots t ≡ maybe.some (maybe.some None)

  -- what a seat has for a task that it holds
  abbrev pub held_in : List (Custody B) → ℕ → Option (Custody B)
  held_in [] t = None
  held_in (k ∷ ks) t = cond (nat_eq k.task t) (Some k) (held_in ks t)

  -- the first of two, where it is there
  abbrev pub or_else : Option (Custody B) → Option (Custody B) → Option (Custody B)
  or_else (Some k) o = Some k
  or_else None o = o

  -- what any seat has for a task that it holds
  abbrev pub find_in : List (List (Custody B)) → ℕ → Option (Custody B)
  find_in [] t = None
  find_in (ks ∷ seats) t = or_else (held_in ks t) (find_in seats t)

  -- the cells that a task owns, by the seat that holds it, or else by its record at home
  abbrev pub owned_by : Option (Custody B) → Option (Rec B) → List ℕ
  owned_by (Some k) home = k.owned
  owned_by None (Some r) = numbers r.owned
  owned_by None None = []

  -- how many things a task has made, in the same way
  abbrev pub made_by : Option (Custody B) → Option (Rec B) → ℕ
  made_by (Some k) home = k.made
  made_by None (Some r) = r.made
  made_by None None = 0
