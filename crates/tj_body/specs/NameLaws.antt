-- The laws of lists of names.
use Rattle.std.specs.Prelude.{◌≡◌, ◌↔◌, ℕ, Bool, true, false, List, [], ◌∷◌, map, cond, Result, Ok, Err, nat_eq}
use Rattle.std.specs.List.{AllByRecursion, list_any}
use Rattle.std.specs.List.Sorted.{IsPermutation}
use Rattle.tj_base.specs.ForkOrder.{Name}
use Rattle.tj_base.specs.declared.cell.Sort.{Sort}
use Rattle.tj_base.specs.declared.cell.Sort.TheVariants as sort
use Rattle.tj_base.specs.declared.cause.Cause.{Cause}
use Rattle.tj_base.specs.declared.cause.Cause.TheVariants as cause
use Rattle.tj_body.specs.Names.{same, has, without, at_most, in_order}
use Rattle.tj_body.specs.History.{hand_all}
use Rattle.tj_body.specs.Points.{IsIn}
use Rattle.tj_body.specs.declared.point.Reference.{Reference}

-- each name is, or comes before, all that follow
abbrev pub AreInOrder : List Name → Type 0
AreInOrder [] = Unit {0}
AreInOrder (x ∷ xs) = AllByRecursion (λ y. at_most x y ≡ true) xs × AreInOrder xs

-- names that are the same are equal, and the other way round
abbrev pub SameIsEqual : Type 0
SameIsEqual = (x y : Name) → (same x y ≡ true) ↔ (x ≡ y)

-- a list in name order has the names of the list, as often, is in order, and is the only such list
abbrev pub OrderedIsOne : Type 0
OrderedIsOne = (l : List Name) → IsPermutation l (in_order l) × AreInOrder (in_order l)
    × ((m : List Name) → IsPermutation l m → AreInOrder m → m ≡ in_order l)

-- an element of either is one of the other
abbrev pub OrderedHasSame : Type 0
OrderedHasSame = (q : Name) (l : List Name) → IsIn q (in_order l) ↔ IsIn q l

-- lists with the same names, as often, are the same in order
abbrev pub OrderedIsSame : Type 0
OrderedIsSame = (l m : List Name) → IsPermutation l m → in_order l ≡ in_order m

-- Cells by number. Whether the cell is one of them.
abbrev pub has_cell : ℕ → List ℕ → Bool
has_cell c cs = list_any (nat_eq c) cs

-- the cells without this one, where it stands first
abbrev pub without_cell : ℕ → List ℕ → List ℕ
without_cell c [] = []
without_cell c (d ∷ ds) = cond (nat_eq c d) ds (d ∷ without_cell c ds)

-- why cells aren't handed: one is that of a task, or isn't owned
pub data Unhanded : Type 0 where
  no_promise : Unhanded
  not_owned : ℕ → Unhanded

-- one cell more is handed before the rest: it has to be a promise that is owned
abbrev pub hand_cell : Sort → Bool → ℕ → Result (List ℕ) Unhanded → Result (List ℕ) Unhanded
hand_cell sort.Task is_owned c rest = Err no_promise
hand_cell sort.Promise true c rest = rest
hand_cell sort.Promise false c rest = Err (not_owned c)

-- what is left of the cells that are owned when these are handed, from the left, or why not
abbrev pub hand_cells : List ℕ → List (Sort × ℕ) → Result (List ℕ) Unhanded
hand_cells owned [] = Ok owned
hand_cells owned (h ∷ hs) = hand_cell h.0 (has_cell h.1 owned) h.1 (hand_cells (without_cell h.1 owned) hs)

-- with names for the cells: the cause of a failure
abbrev pub named_cause : (ℕ → Name) → Unhanded → Cause
named_cause name no_promise = cause.Kind
named_cause name (not_owned c) = cause.Owner (name c)

-- a reference
abbrev pub named_reference : (ℕ → Name) → Sort × ℕ → Reference
named_reference name h = record { sort = h.0; name = name h.1 }

-- what is kept, with names for the cells, or the cause of a failure
abbrev pub named_kept : (ℕ → Name) → Result (List ℕ) Unhanded → Result (List Name) Cause
named_kept name (Ok cells) = Ok (map name cells)
named_kept name (Err why) = Err (named_cause name why)

-- these cells have different names
abbrev pub AreTold : (ℕ → Name) → List ℕ → Type 0
AreTold name cells = (c d : ℕ) → IsIn c cells → IsIn d cells → name c ≡ name d → c ≡ d

-- Where cells have different names, what is said by number is what is said by name: of one that is owned, of the rest
-- without one, and of handing.
abbrev pub NamesTellCells : Type 0
NamesTellCells = (name : ℕ → Name) (owned : List ℕ)
    → ((c : ℕ) → AreTold name (c ∷ owned) → (has (name c) (map name owned) ≡ has_cell c owned)
    × (without (name c) (map name owned) ≡ map name (without_cell c owned)))
    × ((handed : List (Sort × ℕ)) → ((h : Sort × ℕ) → IsIn h handed → AreTold name (h.1 ∷ owned))
    → hand_all (map name owned) (map (named_reference name) handed) ≡ named_kept name (hand_cells owned handed))
