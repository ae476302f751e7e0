-- What a user of stealing pools may keep true of their queues.
use Rattle.std.specs.Prelude.{ℕ, ◌≡◌, ◌<◌, List, [], ◌∷◌}
use Rattle.tj_base.specs.declared.cell.CellId.{CellId}
use Rattle.crossbeam_deque.specs.Tasks.{Pushes, Takes, Pops, Finds, FindsFew, Forks}

-- `holds` is kept by each step on a queue, whatever else the queue contains and the other ends know
pub record IsPoolRule {V : Type 0} (holds : List CellId → List V → Type 0) (first : V) (own other : ℕ → V)
    (limit : V → ℕ) (puts takes : V → List CellId → V → Type 0) (empty few : V → Type 0) : Type 0 where
  -- a queue begins empty, and its worker is told for how many cells the pool is
  pub begins : holds [] (first ∷ [])
  pub starts : (n port : ℕ) → 0 < n → Forks holds port first (own n) (other n)
  pub own_limit : (n : ℕ) → limit (own n) ≡ n
  -- each other end joins in
  pub joins : (n port : ℕ) → 0 < n → Forks holds port (own n) (own n) (other n)
  pub other_limit : (n : ℕ) → limit (other n) ≡ n
  -- a cell joins at the back
  pub puts_back : (port : ℕ) (v : V) (t : CellId) → t.0 < limit v → Pushes holds port v (t ∷ []) (puts v (t ∷ []))
  pub put_limit : (v w : V) (t : CellId) → puts v (t ∷ []) w → limit w ≡ limit v
  -- a cell leaves at the front, or at the back
  pub takes_front : (port : ℕ) (v : V) → Takes holds port v 1 (takes v)
  pub takes_back : (port : ℕ) (v : V) → Pops holds port v (takes v)
  pub taken_limit : (v w : V) (t : CellId) → takes v (t ∷ []) w → limit w ≡ limit v
  pub taken_below : (v w : V) (t : CellId) → takes v (t ∷ []) w → t.0 < limit v
  -- the queue is empty
  pub finds_none : (port : ℕ) (v : V) → Finds holds port v (empty v)
  -- the queue has one cell at most
  pub finds_few : (port : ℕ) (v : V) → FindsFew holds 1 port v (few v)
