-- A table whose LIVE is 0, STOP once it is stored, and what LIVE above 0 says.
use Rattle.std.specs.Prelude.{◌≡◌, ◌≢◌, ◌⊎◌, ℕ, ◌<◌, None}
use Rattle.tj_words.specs.declared.phase.Phase.TheVariants as phase
use Rattle.tj_words.specs.LawParts.Contents.{Contents, drawn_in, hand_of, home_of, tag_in}
use Rattle.tj_words.specs.LawParts.LiveCount.{DoesRun, DoesWalk, HoldsIn}
use Rattle.tj_words.specs.Words.Lists.{OfSeat}
use Rattle.tj_runs.specs.Moments.{Always, EverAfter, InEachRun, contents_at}

module _ {B : Type 0} (x y : Contents B) where
  -- no cell is drawn, and LIVE is 0 still; the records at home, and TAG, OWN and PHASE of each cell that isn't in hand,
  -- are as they were, and such a cell isn't in hand
  pub record IsStill (cells : ℕ) : Type 0 where
    pub live : y.words.live ≡ 0
    pub drawn : drawn_in cells y ≡ drawn_in cells x
    pub tags : (c : ℕ) → tag_in y c ≡ tag_in x c
    pub records : (t : ℕ) → home_of y t ≡ home_of x t
    pub hands : (c : ℕ) → hand_of x c ≡ None → hand_of y c ≡ None
    pub owners : (c : ℕ) → hand_of x c ≡ None → y.words.own c ≡ x.words.own c
    pub phases : (c : ℕ) → hand_of x c ≡ None → y.words.phase c ≡ x.words.phase c

  -- STOP, once it isn't 0, never is again
  abbrev pub StopStays : Type 0
  StopStays = x.words.stop ≢ 0 → y.words.stop ≢ 0

module _ {B : Type 0} (x : Contents B) where
  -- a task is ready
  abbrev pub HasReady : Type 0
  HasReady = (t : ℕ) × (x.words.phase t ≡ phase.Ready)

  -- seat j has a token
  abbrev pub HasToken : ℕ → Type 0
  HasToken j = OfSeat (λ n. 0 < n) x.seats.tokens j

  -- seat j holds a task that runs or walks
  abbrev pub HasLiveTask : ℕ → Type 0
  HasLiveTask j = OfSeat (λ ks. HoldsIn DoesRun ks ⊎ HoldsIn DoesWalk ks) x.seats.tasks j

  -- where LIVE isn't 0, a task is ready, or a seat has a live task or a token
  abbrev pub SomebodyIsLive : Type 0
  SomebodyIsLive = x.words.live ≢ 0 → HasReady ⊎ ((j : ℕ) × (HasToken j ⊎ HasLiveTask j))

-- once LIVE is 0, it stays 0, no cell is drawn any more, and TAG, OWN, PHASE and the records at home stay
abbrev pub RestedTablesStay : Type 0 → Type 0
RestedTablesStay B = EverAfter B (λ program key u w. (contents_at program key u).words.live ≡ 0
    → IsStill (contents_at program key u) (contents_at program key w) key.cells)

-- in each run from a new table no cell is in hand where LIVE is 0: so these stay of every cell
abbrev pub NoneInHandAtRest : Type 0 → Type 0
NoneInHandAtRest B = InEachRun B (λ program key u. (contents_at program key u).words.live ≡ 0
    → (c : ℕ) → hand_of (contents_at program key u) c ≡ None)

-- STOP never returns to 0
abbrev pub StopsStay : Type 0 → Type 0
StopsStay B = EverAfter B (λ program key u w. StopStays (contents_at program key u) (contents_at program key w))

-- at every moment, where LIVE isn't 0, a task is ready, or a seat has a live task or a token
abbrev pub LiveIsSomebodys : Type 0 → Type 0
LiveIsSomebodys B = Always B (λ program key u. SomebodyIsLive (contents_at program key u))
