-- What the laws of runs say of a table's own run, from its first state to what stands: what it shows is a legal run of
-- the core, and what has once been so stays so up to what stands.
use Rattle.std.specs.Prelude.{◌≡◌, ◌⊎◌, ℕ, Bool, List, [], ◌∷◌, Option}
use mathlib.Core.Option.{some}
use lib.ListN.{get_elem?}
use Rattle.atomic_table.specs.Table.{State}
use Rattle.tj_body.specs.Programs.{Program}
use Rattle.tj_events.specs.CoreState.{root_alone}
use Rattle.tj_events.specs.Runs.{IsLegalRun, after_all}
use Rattle.tj_events.specs.declared.event.Event.{Event}
use Rattle.tj_record.specs.declared.record.Rec.{Rec}
use Rattle.tj_words.specs.declared.table.Key.{Key}
use Rattle.tj_words.specs.declared.view.View.{View}
use Rattle.tj_words.specs.CallLaws.CallRuns.{AreAskedMoments, AreShown, joined, under}
use Rattle.tj_runs.specs.LastingWords.{CellsStay, CountStays, NobodyStays, ShutHeadsStay}
use Rattle.tj_runs.specs.LastingWords.{TreeWordsStay, ValuesStay}
use Rattle.tj_words.specs.CallLaws.LoggedRuns.{HasRun}
use Rattle.tj_words.specs.CallLaws.RestedRuns.{HasRested, Ruled, last_moment, live_in, tag_at}
use Rattle.tj_runs.specs.Verdicts.{HasEndedWalk, IsOnCycleAt, PublishesAt}
use Rattle.tj_words.specs.LawParts.Contents.{Contents, contents_of}
use Rattle.tj_words.specs.Steps.TableRuns.{state_of}

module _ {B : Type 0} (program : Bool → B → Program B) (key : Key B) where
  -- what the run shows is a legal run of the core, of the events of its calls in their order, and what stands shows the
  -- state after it
  pub record IsLegal (s : State (Option (Rec B)) (View B)) (run : HasRun program key s) : Type 0 where
    pub shown : List (List Event)
    pub by_calls : AreShown program key run.first run.later run.moments shown
    pub legal : IsLegalRun key.cells (joined shown)
    pub state : state_of (program key.strict key.root.value) key.cells
        (under program key (last_moment program key run.first run.later)) ≡ after_all root_alone (joined shown)

  -- w and these later moments are the last ones of the moments that begin with u
  abbrev pub AreTheLast : Ruled program key → List (Ruled program key) → Ruled program key → List (Ruled program key)
      → Type 0
  AreTheLast u [] w more = (u ≡ w) × ([] ≡ more)
  AreTheLast u (x ∷ xs) w more = ((u ≡ w) × (x ∷ xs ≡ more)) ⊎ AreTheLast x xs w more

  -- this is so of the contents of the moment w and of what stands
  abbrev pub StaysTo : Ruled program key → State (Option (Rec B)) (View B)
      → ((cells : ℕ) → Contents B → Contents B → Type 0) → Type 0
  StaysTo w s R = R key.cells (contents_of w.now) (contents_of s)

  -- what was so at the moment w of a run stays so up to what stands: steps of the same kind lead there; a value is set
  -- for good; a head that is shut is so still; COUNT doesn't fall; what was drawn and in nobody's hand is so still, with
  -- its words of the tree, and with nobody as its owner if it had none; where some seat had loaded LIVE as 0, LIVE is 0
  -- and no value came; and where w is the moment just after a task published its wait, and a walk of that task is at its
  -- end now, no cycle stood through the task then
  pub record StandsFrom (s : State (Option (Rec B)) (View B)) (w : Ruled program key) (more : List (Ruled program key))
      : Type 0 where
    pub moments : AreAskedMoments program key w more
    pub last : (last_moment program key w more).now ≡ s
    pub values : StaysTo w s ValuesStay
    pub shuts : StaysTo w s ShutHeadsStay
    pub count : StaysTo w s CountStays
    pub cells : StaysTo w s CellsStay
    pub nobody : StaysTo w s NobodyStays
    pub tree_words : StaysTo w s TreeWordsStay
    pub rests : HasRested w.now → (live_in s ≡ 0) × ((c : ℕ) → tag_at s c ≡ tag_at w.now c)
    pub walks : (u : Ruled program key) (t p id : ℕ) (v : View B) → PublishesAt program key u w t p
        → get_elem? s.views id ≡ some v → HasEndedWalk t v → ¬ IsOnCycleAt program key t w

module _ (B : Type 0) where
  -- each run of a table from its first state is legal
  abbrev pub OwnRunsAreLegal : Type 0
  OwnRunsAreLegal = (program : Bool → B → Program B) (key : Key B) (s : State (Option (Rec B)) (View B))
      (run : HasRun program key s) → IsLegal program key s run

  -- and what was so at each of its moments stays so
  abbrev pub OwnRunsStand : Type 0
  OwnRunsStand = (program : Bool → B → Program B) (key : Key B) (s : State (Option (Rec B)) (View B))
      (run : HasRun program key s) (w : Ruled program key) (more : List (Ruled program key))
      → AreTheLast program key run.first run.later w more → StandsFrom program key s w more
