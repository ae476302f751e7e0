-- What clauses see of an end of a stealing pool.
use Rattle.std.specs.Prelude.{ℕ, ◌≡◌, List, [], All, map}
use Rattle.std.specs.declared.alloc.Global.{Global}
use Rattle.atomic_blocks.specs.Lent.{RowsId}
use Rattle.crossbeam_deque.specs.Handles.{worker_view, worker_deque, stealer_deque}
use Rattle.tj_ready.specs.Ends.{Known}
use Rattle.tj_ready.specs.Meetings.{AllMeet}
use Rattle.tj_ready.specs.Seats.{known_in}
use Rattle.tj_ready.specs.declared.rule.PoolRule.{Ghosts}
use Rattle.tj_ready.specs.declared.stealing.RuledStealPool.{RuledStealPool}

module _ {V K : Type 0} {rule : Ghosts K V} where
  -- what an end knows of the queues that it can take from
  abbrev pub known : RuledStealPool V K rule → Known V
  known end = record { own = worker_view end.own; spare = end.spare.items; others = known_in end.seats.items }

  -- a new end of a pool for so many cells: it has put and taken nothing, and its queues are empty
  pub record IsNewEnd (cells : ℕ) (end : RuledStealPool V K rule) : Type 0 where
    pub size : end.cells ≡ cells
    pub own : (known end).own ≡ rule.own cells
    pub spare : (known end).spare ≡ []
    pub others : All (λ v. v ≡ rule.other cells) (known end).others

  -- the deque that an end puts into
  abbrev pub deque_of : RuledStealPool V K rule → RowsId × Global
  deque_of end = worker_deque end.own

  -- the deques that it can take from
  abbrev pub reach_of : RuledStealPool V K rule → List (RowsId × Global)
  reach_of end = map stealer_deque end.deques.value.items

  -- each end can take from each other's deque
  abbrev pub EndsMeet : List (RuledStealPool V K rule) → Type 0
  EndsMeet ends = AllMeet deque_of reach_of ends

  -- the ends of these deques, each with a seat in each one
  pub record AreEnds (cells : ℕ) (deques : List (RowsId × Global)) (ends : List (RuledStealPool V K rule))
      : Type 0 where
    pub new : All (IsNewEnd cells) ends
    pub own : map deque_of ends ≡ deques
    pub reach : All (λ end. reach_of end ≡ deques) ends
