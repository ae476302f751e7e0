-- What is kept of the queues of a pool whose user keeps no rule of its own: each cell is below a limit.
use Rattle.std.specs.Prelude.{ℕ, ◌≡◌, ◌<◌, ◌⊎◌, List, [], ◌∷◌, All}
use Rattle.tj_base.specs.declared.cell.CellId.{CellId}

-- the cell is one of so many
abbrev pub IsBelow : ℕ → CellId → Type 0
IsBelow limit t = t.0 < limit

-- each end knows the limit, and the cells are below it
pub record IsLimited (items : List CellId) (views : List ℕ) : Type 0 where
  pub limit : ℕ
  pub positive : 0 < limit
  pub below : All (IsBelow limit) items
  pub known : All (λ v. v ≡ limit) views

-- the queue is empty, and its worker is alone and knows no limit yet
pub record IsUnlimited (items : List CellId) (views : List ℕ) : Type 0 where
  pub none : items ≡ []
  pub alone : views ≡ 0 ∷ []

-- the queue's cells are below the limit that its ends know
abbrev pub IsBounded : List CellId → List ℕ → Type 0
IsBounded items views = IsUnlimited items views ⊎ IsLimited items views
