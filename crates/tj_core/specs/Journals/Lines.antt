-- The form of a journal, on bytes. A line is one event, its words set apart by one space each.
use Rattle.std.specs.Prelude.{◌≡◌, ℕ, suc, ◌<◌, ◌^◌, ◌==◌, cond, List, [], ◌∷◌, ◌++◌, length, map, codes, decimal}
use Rattle.std.specs.List.{AllByRecursion, slice_split, onto_first}
use Rattle.tj_core.specs.declared.journal.JournalFault.{JournalFault}
use Rattle.tj_core.specs.declared.journal.JournalFault.TheVariants.{Line, Oom}
use Rattle.tj_events.specs.declared.event.Event.{Event}
use Rattle.tj_events.specs.declared.event.Event.TheVariants.{Make, Fork, Hand, Close, Raise, Publish, LoadOthers}
use Rattle.tj_events.specs.declared.event.Event.TheVariants.{LoadCount, ReadOwner, ReadWait, ReadOwnerAgain, Alarm}
use Rattle.tj_events.specs.declared.event.Event.TheVariants.{Settle, Unwait, Lower}

-- the lines of a text without their line feeds, which the last line may lack. An empty text has none
abbrev pub lines_of : List ℕ → List (List ℕ)
lines_of [] = []
lines_of (b ∷ bytes) = cond (b == 10) ([] ∷ lines_of bytes) (onto_first b (lines_of bytes))

-- the words of a line, which each single space ends. Between two spaces stands an empty word
abbrev pub words_of : List ℕ → List (List ℕ)
words_of line = slice_split (λ b. b == 32) line

-- the word that names an event
abbrev pub verb_of : Event → List ℕ
verb_of (Make t) = codes "make"
verb_of (Fork t) = codes "fork"
verb_of (Hand t p c) = codes "hand"
verb_of (Close t p) = codes "close"
verb_of (Raise t) = codes "raise"
verb_of (Publish t p) = codes "publish"
verb_of (LoadOthers t) = codes "others"
verb_of (LoadCount t) = codes "count"
verb_of (ReadOwner t) = codes "owner"
verb_of (ReadWait t) = codes "wait"
verb_of (ReadOwnerAgain t) = codes "again"
verb_of (Alarm t) = codes "alarm"
verb_of (Settle t) = codes "settle"
verb_of (Unwait t) = codes "unwait"
verb_of Lower = codes "lower"

-- the cells that an event names, by their numbers
abbrev pub cells_of : Event → List ℕ
cells_of (Make t) = t.0 ∷ []
cells_of (Fork t) = t.0 ∷ []
cells_of (Hand t p c) = t.0 ∷ p.0 ∷ c.0 ∷ []
cells_of (Close t p) = t.0 ∷ p.0 ∷ []
cells_of (Raise t) = t.0 ∷ []
cells_of (Publish t p) = t.0 ∷ p.0 ∷ []
cells_of (LoadOthers t) = t.0 ∷ []
cells_of (LoadCount t) = t.0 ∷ []
cells_of (ReadOwner t) = t.0 ∷ []
cells_of (ReadWait t) = t.0 ∷ []
cells_of (ReadOwnerAgain t) = t.0 ∷ []
cells_of (Alarm t) = t.0 ∷ []
cells_of (Settle t) = t.0 ∷ []
cells_of (Unwait t) = t.0 ∷ []
cells_of Lower = []

-- the words are those of this event: its own word, and then its cells in decimal
abbrev pub Names : List (List ℕ) → Event → Type 0
Names words e = words ≡ verb_of e ∷ map decimal (cells_of e)

-- each cell of the event has a number up to 4294967295
abbrev pub HasSmallCells : Event → Type 0
HasSmallCells e = AllByRecursion (λ c. c < 2 ^ 32) (cells_of e)

-- the line is one of an event
abbrev pub IsEventLine : List ℕ → Type 0
IsEventLine line = (e : Event) × HasSmallCells e × Names (words_of line) e

-- the lines are those of these events, one by one
abbrev pub AreEventLines : List (List ℕ) → List Event → Type 0
AreEventLines [] [] = Unit {0}
AreEventLines [] (e ∷ events) = ⊥
AreEventLines (line ∷ lines) [] = ⊥
AreEventLines (line ∷ lines) (e ∷ events) =
    HasSmallCells e × Names (words_of line) e × AreEventLines lines events

-- the n-th line, from 1, is the first that isn't one of an event
pub record IsFirstFault (lines : List (List ℕ)) (n : ℕ) : Type 0 where
  pub before : List (List ℕ)
  pub line : List ℕ
  pub after : List (List ℕ)
  pub events : List Event
  pub whole : lines ≡ before ++ line ∷ after
  pub number : n ≡ suc (length before)
  pub good : AreEventLines before events
  pub bad : ¬ IsEventLine line

-- the fault is want of memory, or that of a line that meets the fact
abbrev pub OrMemory : (ℕ → Type 0) → JournalFault → Type 0
OrMemory P (Line n) = P n
OrMemory P Oom = Unit {0}
