-- What a call of several steps leaves in the log of its seat: these steps, the last of them first.
use Rattle.std.specs.Prelude.{◌≡◌, ℕ, suc, ◌+◌, ◌≤◌, List, [], ◌∷◌, ◌++◌, Option, Some, None}
use Rattle.tj_base.specs.declared.cell.Sort.{Sort}
use Rattle.tj_base.specs.declared.cell.Sort.TheVariants as sort
use Rattle.tj_log.specs.Shown.{SeatShown}
use Rattle.tj_log.specs.declared.entry.Entry.{Entry}
use Rattle.tj_tree.specs.declared.node.Node.{Node}
use Rattle.tj_words.specs.CallLaws.StepCalls as call
use Rattle.tj_words.specs.CallLaws.StepLogs.{IsLookLogged, entry_of}
use Rattle.tj_words.specs.SeatViews.KnowsMore.{IsTailOf}
use Rattle.tj_words.specs.Words.Owners.{owner_word}
use Rattle.tj_words.specs.Words.Phases.{phase_word}
use Rattle.tj_words.specs.Words.Values.{fill_in, tag_word}
use Rattle.tj_words.specs.declared.offsets.Once.{Once}
use Rattle.tj_words.specs.declared.offsets.Once.TheVariants as once
use Rattle.tj_words.specs.declared.phase.Phase.{Phase}
use Rattle.tj_words.specs.declared.phase.Phase.TheVariants as phase
use Rattle.tj_record.specs.declared.record.Fill.{Fill}
use Rattle.tj_record.specs.declared.record.Rec.{Rec}
use Rattle.tj_words.specs.declared.view.View.{View}

-- a seat of the table, as a contract sees it
abbrev pub Seat : Type 0 → Type 0
Seat B = SeatShown (Option (Rec B)) (View B)

-- the draw of a cell of this sort by task t, where COUNT was n
abbrev pub draw_entry : ℕ → Sort → ℕ → Entry
draw_entry t o n = entry_of (call.draws t o) 1 0 n

-- the store of n in a word of cell c that is written once
abbrev pub once_entry : ℕ → Once → ℕ → Entry
once_entry c f n = entry_of (call.puts_once c f) n 0 n

-- the store of an owner of cell c, or of nobody
abbrev pub owner_entry : ℕ → Option ℕ → Entry
owner_entry c o = entry_of (call.puts_owner c) (owner_word o) 0 (owner_word o)

-- the store of this phase of cell c
abbrev pub phase_entry : ℕ → Phase → Entry
phase_entry c p = entry_of (call.puts_phase c) (phase_word p) 0 (phase_word p)

-- the draw of cell c for task t, and the stores of PARENT and KID
abbrev pub drawn_entries : ℕ → ℕ → Sort → ℕ → List Entry
drawn_entries t kid o c = once_entry c once.Kid kid ∷ once_entry c once.Parent (suc t) ∷ draw_entry t o c ∷ []

module _ {B : Type 0} where
  -- the seat has made these steps more, the last of them first, and no other
  abbrev pub Makes : List Entry → Seat B → Seat B → Type 0
  Makes es old new = (new.log ≡ es ++ old.log) × (new.took ≡ old.took)

  -- the seat has made some steps more, if any, and has taken in no other seat
  abbrev pub Grows : Seat B → Seat B → Type 0
  Grows old new = IsTailOf old.log new.log × (new.took ≡ old.took)

  -- the one step is a draw that found COUNT at the table's number of cells, or above
  abbrev pub MakesRefusedDraw : ℕ → ℕ → Sort → Seat B → Seat B → Type 0
  MakesRefusedDraw cells t o old new = (n : ℕ) × (cells ≤ n) × Makes (draw_entry t o n ∷ []) old new

  -- a promise was made: a cell was drawn, and PARENT, KID, PHASE and OWN were stored
  abbrev pub MakesPromise : ℕ → ℕ → ℕ → Seat B → Seat B → Type 0
  MakesPromise t kid c old new = Makes (owner_entry c (Some t) ∷ phase_entry c phase.Promise
      ∷ drawn_entries t kid sort.Promise c) old new

  -- the node of one task was looked at, and then that of the task where the first one jumps
  abbrev pub LooksOn : ℕ → Seat B → Seat B → Type 0
  LooksOn first old new = (near far : Node) × (between : Seat B) × IsLookLogged first near old between
      × IsLookLogged near.jump.0 far between new

  -- the nodes of task t, of the task where t jumps, and of the one where that jumps were looked at, by four loads each;
  -- then DEPTH of c was stored, as one more than that of t, and JUMP of c
  abbrev pub MakesNode : ℕ → ℕ → Seat B → Seat B → Type 0
  MakesNode t c old new = (maker : Node) × (jump : ℕ) × (looked read : Seat B) × IsLookLogged t maker old looked
      × LooksOn maker.jump.0 looked read
      × Makes (once_entry c once.Jump jump ∷ once_entry c once.Depth (maker.depth + 1) ∷ []) read new

  -- a child was made: a cell was drawn, PARENT and KID were stored, the nodes of its maker and of two tasks above it
  -- were looked at, and DEPTH, JUMP and OWN were stored
  abbrev pub MakesTask : ℕ → ℕ → ℕ → Seat B → Seat B → Type 0
  MakesTask t kid c old new = (drawn written : Seat B) × Makes (drawn_entries t kid sort.Task c) old drawn
      × MakesNode t c drawn written × Makes (owner_entry c (Some c) ∷ []) written new

  -- a cell was closed: OWN was stored as nobody, and then BITS and TAG as what stands for this
  abbrev pub MakesClosed : ℕ → Option Fill → Seat B → Seat B → Type 0
  MakesClosed p o old new = (bits : ℕ) × (fill_in (tag_word o) bits ≡ o)
      × Makes (once_entry p once.Tag (tag_word o) ∷ once_entry p once.Bits bits ∷ owner_entry p None ∷ []) old new
