-- What is told of a watched cell of a run at rest, by what the closed words say of it.
use Rattle.std.specs.Prelude.{◌≡◌, ◌≢◌, ℕ, List, Some, None}
use Rattle.tj_words.specs.declared.closed.RestCell.{RestCell}
use Rattle.tj_words.specs.AtRest.ClosedCells.{IsShown}
use Rattle.tj_words.specs.AtRest.RestValues.{value_shown}
use Rattle.tj_future.specs.declared.watched.Watched.{Watched}
use Rattle.tj_future.specs.declared.watched.Watched.TheVariants as watched

-- What was told of cell p is what the closed words say of it: its value; that it is broken, where it has none and TAG
-- isn't 0; that it rests, where TAG is 0 or the cell wasn't drawn. That the run was stopped is told of none.
abbrev pub IsCellWatched : List RestCell → List ℕ → ℕ → Watched → Type 0
IsCellWatched cells words p (watched.Value f) = (x : RestCell) × IsShown cells p x × (value_shown words p ≡ Some f)
IsCellWatched cells words p watched.Broken =
    (x : RestCell) × IsShown cells p x × (x.tag ≢ 0) × (value_shown words p ≡ None)
IsCellWatched cells words p watched.Rested =
    (x : RestCell) → IsShown cells p x → (x.tag ≡ 0) × (value_shown words p ≡ None)
IsCellWatched cells words p (watched.Stopped why) = ⊥
