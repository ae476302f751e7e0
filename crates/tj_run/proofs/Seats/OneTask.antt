-- A seat that has one task: what it has after the task has changed, or has left it.
use Rattle.tj_run.proofs.Prelude.{Custody, None, Some, [], ap, cond, eq-eqb, held_in, let_go, note, noted, sym, ℕ, ◌∙◌}
use Rattle.tj_run.proofs.Prelude.{◌∷◌, ◌≡◌}

module _ {B : Type 0} (t : ℕ) (k : Custody B) (is : k.task ≡ t) where
  -- it is found
  pub held_one : held_in (k ∷ []) t ≡ Some k
  held_one = ap (λ b. cond b (Some k) None) (eq-eqb k.task t is)

  -- it leaves
  pub let_go_one : let_go t (k ∷ []) ≡ []
  let_go_one = ap (λ b. cond b [] (k ∷ [])) (eq-eqb k.task t is)

  -- it is noted otherwise
  pub noted_one : (f : Custody B → Custody B) → (f k).task ≡ k.task → noted t f (k ∷ []) ≡ f k ∷ []
  noted_one f same = ap (λ o. note o f (k ∷ [])) held_one
      ∙ ap (λ b. f k ∷ cond b [] (k ∷ [])) (eq-eqb k.task (f k).task (sym same))
