-- What a look at another's deque tells, by the order in which its worker takes.
use Rattle.std.proofs.Common.{ℕ, ◌≡◌, List, [], ◌∷◌, Bool, true, false, subst, sym, min, arith}
use Rattle.tj_base.specs.declared.cell.CellId.{CellId}
use Rattle.crossbeam_deque.specs.Tasks.{Finds, FindsFew}
use Rattle.tj_ready.specs.Orders.{flavor_of, left_there}

module _ {V : Type 0} (holds : List CellId → List V → Type 0) (empty few : V → Type 0) where
  -- a look finds none, or at most the one that the worker may be taking
  pub finds_left : (newest : Bool) (flavor : ℕ) → flavor ≡ flavor_of newest
      → ((port : ℕ) (v : V) → Finds holds port v (empty v)) → ((port : ℕ) (v : V) → FindsFew holds 1 port v (few v))
      → (port : ℕ) (v : V) → FindsFew holds (min flavor 1) port v (left_there newest empty few v)
  finds_left newest flavor is none small port v =
      subst (λ f. FindsFew holds (min f 1) port v (left_there newest empty few v)) (sym is)
      (by_order newest port v)
    where
      by_order : (newest : Bool) (port : ℕ) (v : V)
          → FindsFew holds (min (flavor_of newest) 1) port v (left_there newest empty few v)
      by_order false port v [] views short h at = none port v views h at
      by_order false port v (x ∷ items) views short h at = absurd (omega arith)
      by_order true port v items views short h at = small port v items views short h at
