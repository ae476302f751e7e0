-- A store of PHASE, as a step that keeps the rule: what it owes is the law over contents to which there is a path.
use Rattle.tj_words.proofs.Prelude.{Backing, Bool, Contents, Custody, IsPhaseWord, IsSeat, Key, Law, List, None}
use Rattle.tj_words.proofs.Prelude.{Option, Phase, Program, Rec, Rule, Slots, Some, State, View, ap, arith}
use Rattle.tj_words.proofs.Prelude.{get_elem?, held_in}
use Rattle.tj_words.proofs.Prelude.{length, let_go, phase_at, phase_in, phase_word, some, suc, sym, wait_in, word, ℕ}
use Rattle.tj_words.proofs.Prelude.{◌<◌, ◌∙◌, ◌≡◌, ◌≤◌}
use Rattle.tj_words.proofs.Stores.SlotStores.{StoresWith, store_word_with}
use Rattle.tj_words.proofs.Holders.NotedTasks.{holder_seat}
use Rattle.tj_words.proofs.Holders.HeldTasks.{none_some}
use Rattle.tj_words.proofs.Stores.StepContents.{stored_with}
use Rattle.tj_words.proofs.Stores.StoreSteps.{LeavesPushed}
use Rattle.tj_words.specs.LawParts.PushedRecords.{LieAsPut}
use Rattle.tj_words.proofs.Stores.TableWords as table_word

module _ {B : Type 0} {program : Bool → B → Program B} {key : Key B} {s : State (Option (Rec B)) (View B)}
    (r : Rule program key s) (id t : ℕ) (inside : t < key.cells) where
  pub phase_stores : (slots : Slots B) → length slots ≡ length s.homes → (word : ℕ) → IsPhaseWord key.cells word
      → (w : View B) → IsSeat key w → LieAsPut slots w.pushes w.put_home → LeavesPushed s slots id → (y : Contents B)
      → stored_with s id (table_word.Phase t) word slots w ≡ y
      → Law (program key.strict key.root.value) key.cells y → StoresWith program key s slots id (phase_at t) word w
  phase_stores slots as_many word code w = store_word_with program key s id (table_word.Phase t) word slots w
      (let e = r.all_words in omega arith) as_many code

-- the seat that a task has left
module _ {B : Type 0} {program : Bool → B → Program B} {key : Key B} {s : State (Option (Rec B)) (View B)}
    (r : Rule program key s) (id t : ℕ) {v : View B} (at : get_elem? s.views id ≡ some v) where
  -- the view, where the seat has so many tokens then
  abbrev pub left_view : ℕ → View B
  left_view tokens = record v { steps = suc v.steps; tokens = tokens; tasks = let_go t v.tasks }

  pub left_seat : (tokens : ℕ) (k : Custody B) → held_in v.tasks t ≡ Some k → tokens ≤ v.lot
      → Backing (left_view tokens)
      → IsSeat key (left_view tokens)
  left_seat tokens k held =
      holder_seat key v t k held (r.seats id v at) tokens (let_go t v.tasks) v.pushes v.dues

  -- the store of a phase that waits for nothing
  pub left_stores : (inside : t < key.cells) (q : Phase) (word : ℕ) → phase_in word ≡ q → word ≡ phase_word q
      → wait_in q ≡ None → (slots : Slots B) → length slots ≡ length s.homes → (tokens : ℕ)
      → (put : List (Rec B)) → IsSeat key (left_view tokens) → LieAsPut slots v.pushes put → LeavesPushed s slots id
      → {y : Contents B}
      → stored_with s id (table_word.Phase t) word slots (record (left_view tokens) { put_home = put }) ≡ y
      → Law (program key.strict key.root.value) key.cells y
      → StoresWith program key s slots id (phase_at t) word (record (left_view tokens) { put_home = put })
  left_stores inside q word is from still slots many tokens put seat as_put leaves {y} = phase_stores r id t inside
      slots many word record {
        code = ap phase_word is ∙ sym from;
        waits = λ c way walk e. none_some (wait_in q) c.0 still (ap wait_in (sym is ∙ e));
      } (record (left_view tokens) { put_home = put }) seat as_put leaves y
