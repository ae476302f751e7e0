-- The handing of promises to a child, one after the other.
use Rattle.std.specs.Prelude.{ℕ, ◌+◌, List, [], ◌∷◌, ◌++◌, length}
use Rattle.tj_base.specs.declared.cell.CellId.{CellId}
use Rattle.tj_base.specs.declared.cell.Sort.TheVariants as sort
use Rattle.tj_body.specs.declared.ask.Answer.TheVariants as answer
use Rattle.tj_record.specs.declared.record.Rec.{Rec}
use Rattle.tj_words.specs.declared.view.View.{View}
use Rattle.tj_words.specs.Calls.OwnerViews.{handed_promise}
use Rattle.tj_cells.specs.MadeCells.{MayGiveAway}

module _ {B : Type 0} (t : ℕ) where
  -- t may hand these promises to its child c, each after those before it
  abbrev pub MayGiveEach : List CellId → ℕ → View B → Type 0
  MayGiveEach [] c v = Unit {0}
  MayGiveEach (p ∷ ps) c v = MayGiveAway t p.0 c v × MayGiveEach ps c (handed_promise t p.0 c v)

  -- the view after that
  abbrev pub gave_each : List CellId → ℕ → View B → View B
  gave_each [] c v = v
  gave_each (p ∷ ps) c v = gave_each ps c (handed_promise t p.0 c v)

module _ {B : Type 0} where
  -- the record holds the child c, whose place is its answer, has made one thing more, and owns what is left
  abbrev pub with_child : CellId → List CellId → Rec B → Rec B
  with_child c left r = record r {
    held = r.held ++ record { cell = c; sort = sort.Task } ∷ [];
    owned = left;
    made = r.made + 1;
    answer = answer.Local (length r.held);
  }
