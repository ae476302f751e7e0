-- What a step call leaves in the log of its seat.
use Rattle.std.specs.Prelude.{◌≡◌, ℕ, suc, ◌-◌, ◌<◌, ◌∷◌, Bool, Option}
use Rattle.atomic_table.specs.Table.{Act, Step, carried_after}
use Rattle.tj_body.specs.Programs.{Program}
use Rattle.tj_tree.specs.declared.node.Node.{Node}
use Rattle.tj_log.specs.Runs.{IsPlain, Terms, left, terms_of}
use Rattle.tj_log.specs.Shown.{SeatShown}
use Rattle.tj_log.specs.declared.entry.Did.{Did}
use Rattle.tj_log.specs.declared.entry.Did.TheVariants.{Load, Store, Swap, Add, Sub, Exchange}
use Rattle.tj_log.specs.declared.entry.Entry.{Entry}
use Rattle.tj_words.specs.declared.offsets.Once.TheVariants.{Parent, Kid, Depth, Jump}
use Rattle.tj_record.specs.declared.record.Rec.{Rec}
use Rattle.tj_words.specs.declared.table.Key.{Key}
use Rattle.tj_words.specs.declared.view.View.{View}
use Rattle.tj_words.specs.CallLaws.StepCalls as call
use Rattle.tj_words.specs.CallLaws.CallRuns.{acts_by, asked_by}
use Rattle.tj_words.specs.CallLaws.StepCalls.{StepCall, place_of, told_by}
use Rattle.tj_words.specs.Law.{Rule}
use Rattle.tj_words.specs.LawParts.FirstState.{first_slots, first_view, first_words}
use Rattle.tj_words.specs.SeatViews.SeatSteps.{SeatMe}
use Rattle.tj_words.specs.SeatViews.Views.{IsIdle, both, left_half, right_half, spent}
use Rattle.tj_words.specs.Words.Offsets.{words_for}

-- what a call does with its word
abbrev pub did_of : StepCall → Did
did_of (call.draws t o) = Add
did_of call.counts = Load
did_of (call.counts_by t) = Load
did_of (call.puts_once c f) = Store
did_of (call.sees_once c f) = Load
did_of (call.puts_owner c) = Store
did_of (call.sees_owner c) = Load
did_of (call.sees_owner_by t c) = Load
did_of (call.puts_phase t) = Store
did_of (call.sees_phase t) = Load
did_of (call.sees_phase_by t u) = Load
did_of (call.swaps_phase t) = Exchange
did_of (call.raises_others t) = Add
did_of call.lowers_others = Sub
did_of (call.sees_others_by t) = Load
did_of call.raises_live = Add
did_of call.lowers_live = Sub
did_of call.sees_live = Load
did_of call.stops = Store
did_of call.sees_stop = Load
did_of (call.sees_head p) = Load
did_of (call.pushes p) = Exchange
did_of (call.shuts p) = Swap
did_of (call.puts_next t) = Store
did_of (call.sees_next t) = Load

-- the entry of a call: with these operands, and with what it found in its word then, or stored there
abbrev pub entry_of : StepCall → ℕ → ℕ → ℕ → Entry
entry_of c a b n = record { did = did_of c; word = place_of c; first = a; second = b; found = n }

module _ {B : Type 0} where
  -- the seat has made one step more, as this call does
  abbrev pub IsLogged : StepCall → ℕ → ℕ → ℕ → SeatShown (Option (Rec B)) (View B)
      → SeatShown (Option (Rec B)) (View B) → Type 0
  IsLogged c a b n old new = (new.log ≡ entry_of c a b n ∷ old.log) × (new.took ≡ old.took)

  -- the view before this one step stands beside its entry
  abbrev pub KeepsBefore : SeatShown (Option (Rec B)) (View B) → SeatShown (Option (Rec B)) (View B) → Type 0
  KeepsBefore old new = (new.befores ≡ old.me.0 ∷ old.befores) × (new.took_befores ≡ old.took_befores)

  -- so it does for each of four steps, of which the first was made with the view before
  abbrev pub KeepsFour : SeatShown (Option (Rec B)) (View B) → SeatShown (Option (Rec B)) (View B) → Type 0
  KeepsFour old new = (second third fourth : View B)
      × (new.befores ≡ fourth ∷ third ∷ second ∷ old.me.0 ∷ old.befores) × (new.took_befores ≡ old.took_befores)

  -- the seat has looked at the node of a task: it has loaded these four words, the last of them first here
  abbrev pub IsLookLogged : ℕ → Node → SeatShown (Option (Rec B)) (View B) → SeatShown (Option (Rec B)) (View B)
      → Type 0
  IsLookLogged t node old new = (n : ℕ) × (node.parent.0 ≡ n - 1)
      × (new.log ≡ entry_of (call.sees_once t Jump) 0 0 (suc node.jump.0)
      ∷ entry_of (call.sees_once t Depth) 0 0 node.depth ∷ entry_of (call.sees_once t Kid) 0 0 node.kid
      ∷ entry_of (call.sees_once t Parent) 0 0 n ∷ old.log) × (new.took ≡ old.took)

  -- no step was made
  abbrev pub LogStays : SeatShown (Option (Rec B)) (View B) → SeatShown (Option (Rec B)) (View B) → Type 0
  LogStays old new = (new.log ≡ old.log) × (new.took ≡ old.took)

  -- what is done with a word is some step call of a seat of which what the call asks is so: it tells what this call
  -- tells, and does with the slots what the call does, of one at most
  pub record IsTold (program : Bool → B → Program B) (key : Key B) (did : Did) (st : Step (Option (Rec B)))
      (m : SeatMe B) (k : ℕ) (m' : SeatMe B) : Type 0 where
    pub call : StepCall
    pub does : did ≡ did_of call
    pub at : st.word ≡ place_of call
    pub inside : st.word < words_for key.cells
    pub asks : asked_by program key call st m
    pub told : told_by program key.cells call (left did st.first st.second k) st m k m'
    pub act : Act (Option (Rec B))
    pub acts : acts_by program key call st k m act
    pub plain : IsPlain act
    pub slots : m'.1 ≡ carried_after m.1 act

  -- what is said of a table: its law, that each step is a step call, how seats are split and idle ones merged, and what
  -- stands at first
  abbrev pub table_terms : (Bool → B → Program B) → Key B → Terms (Option (Rec B)) (View B)
  table_terms program key = terms_of (Rule program key) (IsTold program key) left_half right_half both spent
      (λ ws xs. (ws ≡ first_words key.cells) × (xs ≡ first_slots key.cells key.root.value))
      (first_view key.cells key.root.value key.strict) (λ v w. IsIdle v × IsIdle w)
