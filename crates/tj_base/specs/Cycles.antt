-- Ways of a relation that leads from node to node, and its cycles. The wait graph is one.
use Rattle.std.specs.Prelude.{◌≡◌, ℕ, zero, suc, ◌<◌, ◌⊎◌, Bool, List, [], ◌∷◌}
use Rattle.std.specs.List.{IsDistinct}

module _ {A : Type 0} (Leads : A → A → Type 0) where
  -- each node leads to one at most
  abbrev pub LeadsToOne : Type 0
  LeadsToOne = (a b c : A) → Leads a b → Leads a c → b ≡ c

  -- whether a node leads on can be told
  abbrev pub TellsWhetherOn : Type 0
  TellsWhetherOn = (a : A) → ((b : A) × Leads a b) ⊎ ((b : A) → ¬ Leads a b)

  -- a leads to the first of the nodes, each of them to the next, and the last to z
  abbrev pub LeadsAlong : A → List A → A → Type 0
  LeadsAlong a [] z = Leads a z
  LeadsAlong a (b ∷ bs) z = Leads a b × LeadsAlong b bs z

  -- z is reached from a by k steps
  abbrev pub Reaches : A → ℕ → A → Type 0
  Reaches a zero z = a ≡ z
  Reaches a (suc k) z = (b : A) × Reaches a k b × Leads b z

  -- a is on a cycle of n nodes: it is reached from itself by n steps and by no fewer
  pub record IsOnCycleOf (a : A) (n : ℕ) : Type 0 where
    pub some : 0 < n
    pub round : Reaches a n a
    pub least : (k : ℕ) → 0 < k → k < n → ¬ Reaches a k a

  -- a is on a cycle
  abbrev pub IsOnCycle : A → Type 0
  IsOnCycle a = (n : ℕ) × IsOnCycleOf a n

  module _ (equal : A → A → Bool) where
    -- a cycle: distinct nodes, each leading to the next and the last to the first
    abbrev pub IsCycle : List A → Type 0
    IsCycle [] = ⊥
    IsCycle (a ∷ bs) = IsDistinct equal (a ∷ bs) × LeadsAlong a bs a

    -- a cycle whose first node is a
    abbrev pub IsCycleFrom : A → List A → Type 0
    IsCycleFrom a [] = ⊥
    IsCycleFrom a (b ∷ bs) = (b ≡ a) × IsCycle (b ∷ bs)
