-- The tasks of a round that are still to be taken.
use Rattle.std.proofs.Common.{◌≡◌, ℕ, zero, suc, List, [], ◌∷◌, ◌++◌}
use Rattle.std.proofs.Common.{refl, sym, ap, ◌∙◌, append_assoc}
use Rattle.std.proofs.lemmas.List.{append-nil}
use Rattle.tj_body.specs.Programs.{Rules}
use Rattle.tj_body.specs.History.{Assignment, history}
use Rattle.tj_body.specs.Rounds.{family}
use Rattle.tj_body.specs.declared.point.Task.{Task}
use Rattle.tj_mean.specs.Inner.KeptRounds.{offspring, still}
use Rattle.tj_mean.specs.declared.round.Pending.{Pending}

module _ {B : Type 0} (rules : Rules B) (V : Assignment) where
  abbrev family_of : ℕ → Task B → List (Task B)
  family_of d t = family rules V d t

  abbrev still_of : List (Pending B) → List (Task B)
  still_of ws = still rules V ws

  abbrev children_of : Task B → List (Task B)
  children_of t = (history rules V t).children

  -- a family is the task and its offspring
  pub family_begins : (d : ℕ) (t : Task B) → family_of d t ≡ t ∷ offspring rules V d (children_of t)
  family_begins zero t = refl
  family_begins (suc d) t = refl

  -- the family of the last pending task comes first
  pub still_push : (ws : List (Pending B)) (w : Pending B)
      → still_of (ws ++ w ∷ []) ≡ family_of w.depth w.task ++ still_of ws
  still_push [] w = sym (append-nil (family_of w.depth w.task))
  still_push (x ∷ ws) w =
      ap (λ z. z ++ family_of x.depth x.task) (still_push ws w)
      ∙ append_assoc (family_of w.depth w.task) (still_of ws) (family_of x.depth x.task)
