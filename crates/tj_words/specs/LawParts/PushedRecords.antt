-- The record of a task that is to be pushed lies at home, as the seat that is to push it put it there.
use Rattle.std.specs.Prelude.{◌≡◌, ℕ, cond, nat_eq, List, [], ◌∷◌, Option, Some, None}
use Rattle.tj_record.specs.declared.record.Rec.{Rec}
use Rattle.tj_words.specs.declared.view.Push.{Push}
use Rattle.tj_words.specs.Words.Lists.{All}
use Rattle.tj_words.specs.LawParts.Holding.{Slots, home_in}

module _ {B : Type 0} where
  -- the record of the task that stands first in the list: where the list has the records put home, the one put last
  abbrev pub put_last : List (Rec B) → ℕ → Option (Rec B)
  put_last [] t = None
  put_last (r ∷ rs) t = cond (nat_eq r.cell.0 t) (Some r) (put_last rs t)

  -- of each task to push that record lies at home which was put there last of these
  abbrev pub LieAsPut : Slots B → List Push → List (Rec B) → Type 0
  LieAsPut slots pushes put = All (λ (e : Push). home_in slots e.task ≡ put_last put e.task) pushes
