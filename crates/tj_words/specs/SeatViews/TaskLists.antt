-- What a seat has for the tasks that it holds, after one of them has changed.
use Rattle.std.specs.Prelude.{ℕ, cond, nat_eq, List, [], ◌∷◌, Option, Some, None}
use Rattle.tj_words.specs.declared.view.Custody.{Custody}
use Rattle.tj_words.specs.LawParts.Holding.{held_in}

module _ {B : Type 0} where
  -- the list without the task
  abbrev pub let_go : ℕ → List (Custody B) → List (Custody B)
  let_go t [] = []
  let_go t (k ∷ ks) = cond (nat_eq k.task t) (let_go t ks) (k ∷ let_go t ks)

  -- the list with this for its task
  abbrev pub hold : Custody B → List (Custody B) → List (Custody B)
  hold k ks = k ∷ let_go k.task ks

  -- the list with what f makes of this for its task, if there is something
  abbrev pub note : Option (Custody B) → (Custody B → Custody B) → List (Custody B) → List (Custody B)
  note None f ks = ks
  note (Some k) f ks = hold (f k) ks

  -- the list with what f makes of what it has for task t
  abbrev pub noted : ℕ → (Custody B → Custody B) → List (Custody B) → List (Custody B)
  noted t f ks = note (held_in ks t) f ks
