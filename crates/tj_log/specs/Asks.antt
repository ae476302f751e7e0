-- What each call asks and says, of what callers see of the table and of the seat.
use Rattle.std.specs.Prelude.{◌≡◌, ℕ, ◌<◌, List, [], ◌∷◌, length, slice_index}
use mathlib.Core.Option.{some, none}
use lib.ListN.{get_elem?}
use Rattle.atomic_table.specs.Table.{State, Me, Step, Act, Valid, carried_after, step, stepped, Splits, Joins}
use Rattle.tj_log.specs.declared.entry.Did.{Did}
use Rattle.tj_log.specs.Runs.{Terms, Past, IsPlain, IsRun, befores_of, left, tell, log_of, took_befores_of, took_of}
use Rattle.tj_log.specs.Shown.{SeatShown, TableShown}

module _ {S V : Type 0} where
  -- whatever the table is when the word i becomes f of what it was, the seat has a new view and takes one slot, gives
  -- one back, or leaves them; the rule is kept, and `then` holds of the number found and of the seat after
  abbrev pub Allows : (State S V → Type 0) → ℕ → ℕ → Me S V → ℕ → (ℕ → ℕ) → (ℕ → Me S V → Type 0) → Type 0
  Allows holds slots id me i f then = (s : State S V) → holds s → length s.homes ≡ slots
      → get_elem? s.views id ≡ some me.0 → slice_index s.words i < 18446744073709551616
      → (w : V) × (a : Act S) × Valid s.homes me.1 a × holds (stepped s i (f (slice_index s.words i)) id me.1 w a)
      × then (slice_index s.words i) (w, carried_after me.1 a) × IsPlain a

module _ {S V K : Type 0} (holds : K → State S V → Type 0) where
  -- what a step asks: the caller's rule allows it, and it tells what some step of the table tells
  abbrev pub Asks : (K → Did → Step S → Me S V → ℕ → Me S V → Type 0) → (Step S → Me S V → ℕ → Me S V → Type 0)
      → Did → ℕ → ℕ → ℕ → TableShown K → SeatShown S V → Type 0
  Asks tells then did a b i t s = (s.table_id ≡ t.shared.table_id) × (i < t.shared.table_id.words)
      × Allows (holds t.shared.key) t.shared.table_id.slots s.id s.me i (left did a b)
      (λ n. then (step t.shared.table_id.slots i a b none) s.me (tell did a n))
      × ((x : State S V) → holds t.shared.key x → get_elem? x.views s.id ≡ some s.me.0 → (m : Me S V)
      → then (step t.shared.table_id.slots i a b none) s.me (tell did a (slice_index x.words i)) m
      → tells t.shared.key did (step t.shared.table_id.slots i a b none) s.me (slice_index x.words i) m)

  -- what a split asks
  abbrev pub AsksSplit : (V → V) → (V → V) → TableShown K → SeatShown S V → Type 0
  AsksSplit left right t s = (s.table_id ≡ t.shared.table_id) × (0 < t.shared.table_id.words)
      × Splits (holds t.shared.key) s.id s.me.0 (left s.me.0) (right s.me.0)

  -- what a join asks
  abbrev pub AsksJoin : (V → V → V) → V → (V → V → Type 0) → TableShown K → SeatShown S V → SeatShown S V → Type 0
  AsksJoin both spent may_join t s o = (s.table_id ≡ t.shared.table_id) × (o.table_id ≡ t.shared.table_id)
      × (o.me.1 ≡ []) × (0 < t.shared.table_id.words)
      × Joins (holds t.shared.key) s.id s.me.0 o.id o.me.0 (both s.me.0 o.me.0) spent × may_join s.me.0 o.me.0

module _ {S V : Type 0} where
  -- what a step says: what the caller's play tells, and the log of the seat is longer by this one step, with the view
  -- before it
  abbrev pub Makes : (Step S → Me S V → ℕ → Me S V → Type 0) → Did → ℕ → ℕ → ℕ → ℕ
      → SeatShown S V → ℕ → SeatShown S V → Type 0
  Makes then did a b slots i s n t = (t.table_id ≡ s.table_id) × (t.id ≡ s.id)
      × then (step slots i a b none) s.me n t.me
      × (t.log ≡ record { did = did; word = i; first = a; second = b; found = n } ∷ s.log) × (t.took ≡ s.took)
      × (t.lone ≡ s.lone) × (t.befores ≡ s.me.0 ∷ s.befores) × (t.took_befores ≡ s.took_befores)

  -- the table at the end: it came by a run to these words and to the values of the slots that were at home, and the
  -- seat's logs have its steps of that run, with the views before them
  abbrev pub Ended : Terms S V → SeatShown S V → List ℕ → List S → Type 0
  Ended terms seat ws xs = (s : State S V) × (past : Past S V) × IsRun terms s past
      × (get_elem? s.views seat.id ≡ some seat.me.0) × (seat.log ≡ log_of seat.id past)
      × (seat.took ≡ took_of seat.id past)
      × (s.words ≡ ws) × (length s.homes ≡ length xs)
      × ((k : ℕ) (y : S) → get_elem? s.homes k ≡ some (some y) → get_elem? xs k ≡ some y)
      × (seat.befores ≡ befores_of seat.id past) × (seat.took_befores ≡ took_befores_of seat.id past)
