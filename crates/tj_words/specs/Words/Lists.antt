-- Lists of seats and of cells. A seat stands in the lists of all seats by its number.
use Rattle.std.specs.Prelude.{◌≡◌, ℕ, ◌+◌, cond, nat_eq, List, [], ◌∷◌, map}
use mathlib.Core.Option.{some}
use lib.ListN.{get_elem?}
use Rattle.tj_base.specs.declared.cell.CellId.{CellId}
use Rattle.tj_body.specs.Points.{IsIn}

-- F holds of what each seat has
abbrev pub Each : {A : Type 0} → (ℕ → A → Type 0) → List A → Type 0
Each {A} F seats = (j : ℕ) (x : A) → get_elem? seats j ≡ some x → F j x

-- there is a seat of this number, and F holds of what it has
abbrev pub OfSeat : {A : Type 0} → (A → Type 0) → List A → ℕ → Type 0
OfSeat {A} F seats j = (x : A) × (get_elem? seats j ≡ some x) × F x

-- F holds of each element
abbrev pub All : {A : Type 0} → (A → Type 0) → List A → Type 0
All {A} F xs = (x : A) → IsIn x xs → F x

-- F holds of some element
abbrev pub Any : {A : Type 0} → (A → Type 0) → List A → Type 0
Any {A} F xs = (x : A) × IsIn x xs × F x

-- no number stands twice
abbrev pub AreApart : List ℕ → Type 0
AreApart [] = Unit {0}
AreApart (x ∷ xs) = ¬ IsIn x xs × AreApart xs

-- the sum of what the seats have
abbrev pub total : List ℕ → ℕ
total [] = 0
total (x ∷ xs) = x + total xs

-- the cell of this number
abbrev pub cell : ℕ → CellId
cell c = record { 0 = c }

-- the numbers of cells
abbrev pub numbers : List CellId → List ℕ
numbers cells = map (λ (c : CellId). c.0) cells

-- the list without this number
abbrev pub without : ℕ → List ℕ → List ℕ
without c [] = []
without c (x ∷ xs) = cond (nat_eq x c) (without c xs) (x ∷ without c xs)
