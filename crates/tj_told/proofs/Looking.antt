-- What an observer's seat knows after each of its loads.
use Rattle.std.proofs.Common.{◌≡◌, ◌≢◌, ℕ, zero, suc, List, [], ◌∷◌, Option, Some, None, refl, sym, ap, subst, inl, inr}
use Rattle.tj_base.specs.declared.cell.CellId.{CellId}
use Rattle.tj_body.specs.Points.{IsIn}
use Rattle.tj_body.proofs.Lists.{in_left, in_right}
use Rattle.tj_events.specs.declared.walk.Way.{Way}
use Rattle.tj_words.specs.Calls.MetCells.{Meets, SeesOwner, SeesPhase, met}
use Rattle.tj_words.specs.Calls.ParkSteps.{loaded_phase, rest_loaded}
use Rattle.tj_words.specs.Calls.WalkViews.{ReadsCount}
use Rattle.tj_words.specs.SeatViews.SeenWords.{FindsWord}
use Rattle.tj_words.specs.SeatViews.Views.{loaded_plain, note_of, saw_live, saw_rest, saw_stop, saw_word, stored_stop}
use Rattle.tj_words.specs.Steps.StepEvents.{IsBegun}
use Rattle.tj_words.specs.Words.Phases.{phase_word}
use Rattle.tj_words.specs.declared.offsets.Once.{Once}
use Rattle.tj_words.specs.declared.phase.Phase.{Phase}
use Rattle.tj_words.specs.declared.phase.Phase.TheVariants as phase
use Rattle.tj_words.specs.declared.phase.Walk.{Walk}
use Rattle.tj_words.specs.declared.view.Noted.TheVariants as note
use Rattle.tj_words.specs.declared.view.View.{View}
use Rattle.tj_words.proofs.SeatLoads.KnowsMoreOn.{Keeps, keeps_load, keeps_noted, keeps_on}
use Rattle.tj_told.specs.Observers.{KnowsCell}

module _ {B : Type 0} where
  -- more is known of cells
  keeps_met : (cells : ℕ) (there : List ℕ) (t : ℕ) (v w : View B) → Meets cells there t v w → Keeps v w
  keeps_met cells there t v w m = subst (Keeps v) (sym m.view) (keeps_load v (met there m.born v) m.begins
      (λ x i. in_right x there v.known i) (λ x i. i) (λ x i. i) (λ e. e) (λ e. e) ([], refl))

  -- a load of OWN that is no event
  loaded_owner : (c n : ℕ) (v : View B) → Keeps v (loaded_plain (note.Owner c) n v)
  loaded_owner c n v = keeps_noted v (loaded_plain (note.Owner c) n v) (λ e. e) (λ e. e)
      (note_of (note.Owner c) n v ∷ [], refl)

  pub keeps_owner : (cells c : ℕ) (o : Option ℕ) (v w : View B) → SeesOwner cells c o v w → Keeps v w
  keeps_owner cells c None v w e = subst (Keeps v) (sym e) (loaded_owner c 0 v)
  keeps_owner cells c (Some u) v w m = let x = loaded_plain (note.Owner c) (suc u) v in
      keeps_on v x w (loaded_owner c (suc u) v) (keeps_met cells (c ∷ u ∷ []) u x w m)

  -- what is known after more was learned of cells is known
  known_met : (cells : ℕ) (there : List ℕ) (t : ℕ) (v w : View B) → Meets cells there t v w → (c : ℕ) → IsIn c there
      → KnowsCell c w
  known_met cells there t v w m c i =
      subst (KnowsCell c) (sym m.view) (in_left c there v.known i, m.named c i)

  -- the seat knows a cell that has an owner, and its owner
  pub owned_known : (cells c u : ℕ) (v w : View B) → SeesOwner cells c (Some u) v w → KnowsCell c w × KnowsCell u w
  owned_known cells c u v w m = let x = loaded_plain (note.Owner c) (suc u) v in
      (known_met cells (c ∷ u ∷ []) u x w m c (inl refl), known_met cells (c ∷ u ∷ []) u x w m u (inr (inl refl)))

  -- a load of PHASE that is no event, of a seat without a rest of a chain
  pub keeps_phase : (cells t : ℕ) (p : Phase) (v w : View B) → v.rest ≡ None → SeesPhase cells t p v w → Keeps v w
  keeps_phase cells t p v w none s = by p refl
    where
      x : View B
      x = loaded_phase t p v

      loaded : Keeps v x
      loaded = keeps_noted v x (λ e. e) (λ e. ap (rest_loaded t p) e)
          (note_of (note.Phase t) (phase_word p) v ∷ [], refl)

      begun : IsBegun p → Keeps v w
      begun b = keeps_on v x w loaded (keeps_met cells (t ∷ []) t x w (s.0 none b))

      unbegun : ¬ IsBegun p → Keeps v w
      unbegun n = subst (Keeps v) (sym (s.1 (inr n))) loaded

      by : (q : Phase) → p ≡ q → Keeps v w
      by phase.Unborn e = unbegun (subst (λ z. ¬ IsBegun z) (sym e) (λ b. b))
      by phase.Promise e = unbegun (subst (λ z. ¬ IsBegun z) (sym e) (λ b. b))
      by phase.Ready e = begun (subst IsBegun (sym e) tt)
      by phase.Running e = begun (subst IsBegun (sym e) tt)
      by phase.Ended e = begun (subst IsBegun (sym e) tt)
      by (phase.Waiting c way walk) e = begun (subst IsBegun (sym e) tt)

  -- the seat knows a task that waits
  pub waiting_known : (cells t : ℕ) (p : Phase) (c : CellId) (way : Way) (walk : Walk) (v w : View B) → v.rest ≡ None
      → p ≡ phase.Waiting c way walk → SeesPhase cells t p v w → KnowsCell t w
  waiting_known cells t p c way walk v w none e s =
      known_met cells (t ∷ []) t (loaded_phase t p v) w (s.0 none (subst IsBegun (sym e) tt)) t (inl refl)

  -- a load of a word of the tree
  pub keeps_word : (cells : ℕ) (f : Once) (c n : ℕ) (v w : View B) → FindsWord cells f c n v w → Keeps v w
  keeps_word cells f c n v w m = subst (Keeps v) (sym m.view) (keeps_load v (saw_word c f n m.born v) m.begins
      (λ x i. i) (λ x i. i) (λ x i. inr i) (λ e. e) (λ e. e) ([], refl))

  -- loads of COUNT, STOP and LIVE
  pub keeps_count : (cells found : ℕ) (v w : View B) → ReadsCount None cells found v w → Keeps v w
  keeps_count cells found v w m = subst (Keeps v) (sym m.2)
      (keeps_noted v (loaded_plain note.Count m.0 v) (λ e. e) (λ e. e) (note_of note.Count m.0 v ∷ [], refl))

  pub keeps_stop : (n : ℕ) (v w : View B) → w ≡ saw_stop n v → Keeps v w
  keeps_stop n v w e = subst (Keeps v) (sym e)
      (keeps_noted v (saw_stop n v) (λ e. e) (λ e. e) (note_of note.Stop n v ∷ [], refl))

  pub keeps_stored : (n : ℕ) (v w : View B) → w ≡ stored_stop n v → Keeps v w
  keeps_stored n v w e = subst (Keeps v) (sym e)
      (keeps_noted v (stored_stop n v) (λ e. e) (λ e. e) (note_of note.StoredStop n v ∷ [], refl))

  pub keeps_live : (n : ℕ) (v w : View B) → (n ≡ 0 → w ≡ saw_rest v) → (n ≢ 0 → w ≡ saw_live n v) → Keeps v w
  keeps_live zero v w rested live = subst (Keeps v) (sym (rested refl))
      (keeps_noted v (saw_rest v) (λ e. refl) (λ e. e) (note_of note.Live 0 v ∷ [], refl))
  keeps_live (suc n) v w rested live = subst (Keeps v) (sym (live (λ e. absurd (cc))))
      (keeps_noted v (saw_live (suc n) v) (λ e. e) (λ e. e) (note_of note.Live (suc n) v ∷ [], refl))
