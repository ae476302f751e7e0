-- A view that has what another view has knows what that one knows.
use Rattle.tj_cells.proofs.Prelude.{Begins, KnowsMore, List, View, [], begins_self, refl, ℕ, ◌++◌}
use Rattle.tj_body.proofs.Lists.{in_right}
use Rattle.tj_words.specs.SeatViews.KnowsMore.{IsTailOf}
use Rattle.tj_words.specs.declared.view.Filled.{Filled}
use Rattle.tj_words.specs.declared.view.SeenWord.{SeenWord}

module _ {B : Type 0} where
  -- what the seat knows is as it was, with more in front
  pub more_in_front : (v w : View B) (known : List ℕ) (wrote filled : List Filled) (seen : List SeenWord)
      (closed : List ℕ) → Begins v.born w.born → IsTailOf v.notes w.notes
      → KnowsMore v (record w {
        about = v.about;
        lot = v.lot;
        known = known ++ v.known;
        wrote = wrote ++ v.wrote;
        filled = filled ++ v.filled;
        seen = seen ++ v.seen;
        closed = closed ++ v.closed;
        rested = v.rested;
      })
  more_in_front v w known wrote filled seen closed born notes = record {
    about = refl;
    lot = refl;
    born = born;
    known = λ x i. in_right x known v.known i;
    wrote = λ x i. in_right x wrote v.wrote i;
    filled = λ x i. in_right x filled v.filled i;
    seen = λ x i. in_right x seen v.seen i;
    closed = λ x i. in_right x closed v.closed i;
    rested = λ e. e;
    notes = notes;
  }

  -- what the seat knows is as it was, but for what it has noted
  pub more_same : (v w : View B) → IsTailOf v.notes w.notes
      → KnowsMore v (record w {
        about = v.about;
        lot = v.lot;
        born = v.born;
        known = v.known;
        wrote = v.wrote;
        filled = v.filled;
        seen = v.seen;
        closed = v.closed;
        rested = v.rested;
      })
  more_same v w = more_in_front v (record w { born = v.born }) [] [] [] [] [] (begins_self v.born)
