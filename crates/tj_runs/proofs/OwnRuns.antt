-- What the laws of runs say of a table's own run.
use Rattle.tj_words.proofs.Prelude.{AreMoments, Bool, List, Option, Program, Ruled, State, [], ap, contents_of}
use Rattle.tj_words.proofs.Prelude.{get_elem?, last_moment, subst, sym, ⊎_elim, ◌∙◌, ◌∷◌, ◌≡◌}
use Rattle.tj_record.specs.declared.record.Rec.{Rec}
use Rattle.tj_words.specs.declared.table.Key.{Key}
use Rattle.tj_words.specs.declared.view.View.{View}
use Rattle.std.proofs.Common.{subst₂}
use Rattle.tj_words.specs.CallLaws.CallRuns.{AreAskedMoments}
use Rattle.tj_runs.specs.OwnRuns.{AreTheLast, OwnRunsAreLegal, OwnRunsStand, StandsFrom}
use Rattle.tj_runs.specs.LastingWords.{CellsStay, CountStays, NobodyStays, ShutHeadsStay}
use Rattle.tj_runs.specs.LastingWords.{TreeWordsStay, ValuesStay}
use Rattle.tj_words.specs.CallLaws.RestedRuns.{live_in, tag_at}
use Rattle.tj_runs.proofs.AlikeSeats.{open_pushes, plain_moments}
use Rattle.tj_runs.proofs.CallRuns.{call_runs_are_legal}
use Rattle.tj_runs.proofs.LastingWords.{cells_for_good, closes_for_good, count_never_falls, trees_for_good}
use Rattle.tj_runs.proofs.LastingWords.{shuts_for_good, values_for_good}
use Rattle.tj_runs.proofs.RestedRuns.{rest_stays}
use Rattle.tj_runs.proofs.Verdicts.{ended_walks_off_cycles}

pub own_runs_are_legal : (B : Type 0) → OwnRunsAreLegal B
own_runs_are_legal B program key s run =
    let q = call_runs_are_legal B program key run.first run.later run.start run.moments in record {
      shown = q.0;
      by_calls = q.1;
      legal = q.2;
      state = q.3;
    }

module _ {B : Type 0} (program : Bool → B → Program B) (key : Key B) where
  -- the last moments of such a run come one after the other, too, and end where it ends
  abbrev GoesTo : State (Option (Rec B)) (View B) → Ruled program key → List (Ruled program key) → Type 0
  GoesTo s w more = AreAskedMoments program key w more × ((last_moment program key w more).now ≡ s)

  lasts : (s : State (Option (Rec B)) (View B)) (u : Ruled program key) (later : List (Ruled program key))
      (w : Ruled program key) (more : List (Ruled program key)) → GoesTo s u later
      → AreTheLast program key u later w more → GoesTo s w more
  lasts s u [] w more g h = subst₂ (λ x xs. GoesTo s x xs) h.0 h.1 g
  lasts s u (x ∷ xs) w more g h = ⊎_elim
      (λ (e : (u ≡ w) × (x ∷ xs ≡ more)). subst₂ (λ y ys. GoesTo s y ys) e.0 e.1 g)
      (λ (k : AreTheLast program key x xs w more). lasts s x xs w more (g.0.1, g.1) k) h

  stands : (s : State (Option (Rec B)) (View B)) (w : Ruled program key) (more : List (Ruled program key))
      → GoesTo s w more → StandsFrom program key s w more
  stands s w more g = record {
    moments = g.0;
    last = g.1;
    values = subst (λ z. ValuesStay key.cells (contents_of w.now) (contents_of z)) g.1
        (values_for_good B program key w more plain);
    shuts = subst (λ z. ShutHeadsStay key.cells (contents_of w.now) (contents_of z)) g.1
        (shuts_for_good B program key w more plain (open_pushes program key w more g.0));
    count = subst (λ z. CountStays key.cells (contents_of w.now) (contents_of z)) g.1
        (count_never_falls B program key w more plain);
    cells = subst (λ z. CellsStay key.cells (contents_of w.now) (contents_of z)) g.1
        (cells_for_good B program key w more plain);
    nobody = subst (λ z. NobodyStays key.cells (contents_of w.now) (contents_of z)) g.1
        (closes_for_good B program key w more plain);
    tree_words = subst (λ z. TreeWordsStay key.cells (contents_of w.now) (contents_of z)) g.1
        (trees_for_good B program key w more plain);
    rests = λ r. let q = rest_stays B program key w more plain r in (
      ap live_in (sym g.1) ∙ q.0,
      λ c. ap (λ z. tag_at z c) (sym g.1) ∙ q.1 c,
    );
    walks = λ u t p id v e at h. ended_walks_off_cycles B program key u w more t p id v e g.0
        (ap (λ (z : State (Option (Rec B)) (View B)). get_elem? z.views id) g.1 ∙ at) h;
  }
    where
      plain : AreMoments program key w more
      plain = plain_moments program key w more g.0

pub own_runs_stand : (B : Type 0) → OwnRunsStand B
own_runs_stand B program key s run w more h =
    stands program key s w more (lasts program key s run.first run.later w more (run.moments, run.end) h)
