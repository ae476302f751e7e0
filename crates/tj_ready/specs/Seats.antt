-- The seats of an end in the rules of the deques, and what it knows of these.
use Rattle.std.specs.Prelude.{ℕ, ◌≡◌, ◌<◌, List, All, length, map, get_or}
use Rattle.std.specs.declared.alloc.Global.{Global}
use Rattle.atomic_blocks.specs.Lent.{RowsId}
use Rattle.crossbeam_deque.specs.Handles.{Pass, IsPassOf, view, worker_flavor, worker_view}
use Rattle.crossbeam_deque.specs.declared.handles.Worker.{Worker}
use Rattle.tj_base.specs.declared.cell.CellId.{CellId}

module _ {V : Type 0} where
  -- each seat is one of the deque with its number
  abbrev pub AreSeats : List (RowsId × Global) → List (Pass CellId V Global) → Type 0
  AreSeats deques seats = (i : ℕ) (deque : RowsId × Global) (seat : Pass CellId V Global) → i < length seats
      → IsPassOf (get_or deques i deque) (get_or seats i seat)

  -- what an end knows of the deques
  abbrev pub known_in : List (Pass CellId V Global) → List V
  known_in seats = map view seats

  -- the seats of one end, a seat in each deque, each of which knows this
  pub record IsHand (deques : List (RowsId × Global)) (knows : V) (seats : List (Pass CellId V Global)) : Type 0 where
    pub count : length seats ≡ length deques
    pub each : AreSeats deques seats
    pub start : All (λ v. v ≡ knows) (known_in seats)

module _ {V P : Type 0} where
  -- the deque is of this flavor, and its worker knows no more than this
  pub record IsNewOwner (flavor : ℕ) (knows : V) (own : Worker CellId Global V P) : Type 0 where
    pub order : worker_flavor own ≡ flavor
    pub start : worker_view own ≡ knows
