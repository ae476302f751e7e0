-- The run of a table: how what stands came from what stood at first, by the steps that stand in the logs of its seats.
use Rattle.std.specs.Prelude.{◌≡◌, ◌≢◌, ℕ, zero, suc, ◌+◌, ◌-◌, ◌%◌, ◌^◌, true, cond, eqb, List, [], ◌∷◌, ◌++◌}
use Rattle.std.specs.Prelude.{length, slice_index, slice_set}
use mathlib.Core.Option.{Option, some, none}
use lib.ListN.{get_elem?}
use prog.Atomic.{either}
use Rattle.atomic_table.specs.Table.{State, Me, Step, Act, keeps, takes, gives, chain, Valid, carried_after, step}
use Rattle.atomic_table.specs.Table.{stepped, opening}
use Rattle.tj_log.specs.declared.entry.Did.{Did}
use Rattle.tj_log.specs.declared.entry.Did.TheVariants.{Load, Store, Swap, Add, Sub, Exchange}
use Rattle.tj_log.specs.declared.entry.Entry.{Entry}
use Rattle.tj_log.specs.declared.entry.Logged.{Logged}
use Rattle.tj_log.specs.Logs.{numbers, own_state}

-- what a step leaves in its word, where it found n
abbrev pub left : Did → ℕ → ℕ → ℕ → ℕ
left Load a b n = n
left Store a b n = a
left Swap a b n = a
left Add a b n = (n + a) % 2 ^ 64
left Sub a b n = (n + (2 ^ 64 - a)) % 2 ^ 64
left Exchange a b n = either (eqb n a) b n

-- what it tells: the number that it found, or stored
abbrev pub tell : Did → ℕ → ℕ → ℕ
tell Store a n = a
tell Load a n = n
tell Swap a n = n
tell Add a n = n
tell Sub a n = n
tell Exchange a n = n

-- the seat takes one slot, gives one back, or leaves them, and doesn't do several of these
abbrev pub IsPlain : {S : Type 0} → Act S → Type 0
IsPlain keeps = Unit {0}
IsPlain (takes k y) = Unit {0}
IsPlain gives = Unit {0}
IsPlain (chain a b) = ⊥

-- what a caller says of its table
pub record Terms (S V : Type 0) : Type 1 where
  -- what holds between any two steps
  pub holds : State S V → Type 0
  -- what each step tells: of what it does, of the step, the seat before, the number found and the seat after
  pub tells : Did → Step S → Me S V → ℕ → Me S V → Type 0
  -- how a view is cut in two, and how two are made one
  pub left_half : V → V
  pub right_half : V → V
  pub both : V → V → V
  pub spent : V
  -- the words and the slots at first, and the first view
  pub opens : List ℕ → List S → Type 0
  pub first : V
  -- what a join asks of the seat's view, and of the one that it takes in
  pub may_join : V → V → Type 0

-- these, together
abbrev pub terms_of : {S V : Type 0} → (State S V → Type 0) → (Did → Step S → Me S V → ℕ → Me S V → Type 0)
    → (V → V) → (V → V) → (V → V → V) → V → (List ℕ → List S → Type 0) → V → (V → V → Type 0) → Terms S V
terms_of holds tells left_half right_half both spent opens first may_join = record {
  holds = holds;
  tells = tells;
  left_half = left_half;
  right_half = right_half;
  both = both;
  spent = spent;
  opens = opens;
  first = first;
  may_join = may_join;
}

-- this view, where there is one, in front of the others
abbrev pub before : {V : Type 0} → Option V → List V → List V
before none vs = vs
before (some v) vs = v ∷ vs

-- how a table came from what stood at first: each state that stood before, with what was done then, and of a step the
-- slots that its seat had, and what it did with them
pub data Past (S V : Type 0) : Type 0 where
  begins : Past S V
  steps : Past S V → State S V → ℕ → Entry → List (ℕ × S) → Act S → Past S V
  splits : Past S V → State S V → ℕ → Past S V
  joins : Past S V → State S V → ℕ → ℕ → Past S V

module _ {S V : Type 0} where
  -- the steps of the seat j itself, the last first; the seat that is taken in loses them
  abbrev pub log_of : ℕ → Past S V → List Entry
  log_of j begins = []
  log_of j (steps past s id e c a) = cond (eqb j id) (e ∷ log_of j past) (log_of j past)
  log_of j (splits past s id) = log_of j past
  log_of j (joins past s a b) = cond (eqb j b) [] (log_of j past)

  -- the logs of the seats that it has taken in
  abbrev pub took_of : ℕ → Past S V → List (List Entry)
  took_of j begins = []
  took_of j (steps past s id e c a) = took_of j past
  took_of j (splits past s id) = took_of j past
  took_of j (joins past s a b) =
      cond (eqb j b) [] (cond (eqb j a) (took_of a past ++ log_of b past ∷ took_of b past) (took_of j past))

  -- the numbers of the slots that the last step of the seat j left it with
  abbrev pub slots_of : ℕ → Past S V → List ℕ
  slots_of j begins = []
  slots_of j (steps past s id e c a) = cond (eqb j id) (numbers (carried_after c a)) (slots_of j past)
  slots_of j (splits past s id) = slots_of j past
  slots_of j (joins past s a b) = cond (eqb j b) [] (slots_of j past)

  -- the view that the seat j had before each of its own steps, the last first
  abbrev pub befores_of : ℕ → Past S V → List V
  befores_of j begins = []
  befores_of j (steps past s id e c a) =
      cond (eqb j id) (before (get_elem? s.views id) (befores_of j past)) (befores_of j past)
  befores_of j (splits past s id) = befores_of j past
  befores_of j (joins past s a b) = cond (eqb j b) [] (befores_of j past)

  -- those of each log that it has taken in
  abbrev pub took_befores_of : ℕ → Past S V → List (List V)
  took_befores_of j begins = []
  took_befores_of j (steps past s id e c a) = took_befores_of j past
  took_befores_of j (splits past s id) = took_befores_of j past
  took_befores_of j (joins past s a b) = cond (eqb j b) []
      (cond (eqb j a) (took_befores_of a past ++ befores_of b past ∷ took_befores_of b past) (took_befores_of j past))

  -- what stood at first
  abbrev pub first_of : State S V → Past S V → State S V
  first_of now begins = now
  first_of now (steps past s id e c a) = first_of s past
  first_of now (splits past s id) = first_of s past
  first_of now (joins past s a b) = first_of s past

  module _ (terms : Terms S V) where
    -- a step of the seat id, which its log says so; the seat has the slots that its last step left it with, and in them
    -- what it took, or what it has put there since by exchanges, which are no steps
    pub record IsStep (id : ℕ) (e : Entry) (had : List ℕ) (has : List (ℕ × S)) (act : Act S) (s t : State S V)
        : Type 0 where
      pub view : V
      pub view_after : V
      pub at : get_elem? s.views id ≡ some view
      pub slots : numbers has ≡ had
      pub may : Valid s.homes has act
      pub plain : IsPlain act
      pub found : e.found ≡ tell e.did e.first (slice_index s.words e.word)
      pub told : terms.tells e.did (step (length s.homes) e.word e.first e.second none) (view, has)
          (slice_index s.words e.word) (view_after, carried_after has act)
      pub after : t ≡ stepped s e.word (left e.did e.first e.second (slice_index s.words e.word)) id has view_after act

    -- a seat is split
    pub record IsSplit (id : ℕ) (s t : State S V) : Type 0 where
      pub view : V
      pub at : get_elem? s.views id ≡ some view
      pub after : t ≡ record {
        words = s.words;
        homes = s.homes;
        views = slice_set s.views id (terms.left_half view) ++ terms.right_half view ∷ [];
      }

    -- a seat takes another one in, which has no slot
    pub record IsJoin (id other : ℕ) (had : List ℕ) (s t : State S V) : Type 0 where
      pub view : V
      pub taken : V
      pub at : get_elem? s.views id ≡ some view
      pub apart : other ≢ id
      pub other_at : get_elem? s.views other ≡ some taken
      pub none : had ≡ []
      pub may : terms.may_join view taken
      pub after : t ≡ record {
        words = s.words;
        homes = s.homes;
        views = slice_set (slice_set s.views id (terms.both view taken)) other terms.spent;
      }

    -- what stands came so: each state under the rule, and each step as it is said
    abbrev pub Came : State S V → Past S V → Type 0
    Came now begins = Unit {0}
    Came now (steps past s id e c a) = terms.holds s × IsStep id e (slots_of id past) c a s now × Came s past
    Came now (splits past s id) = terms.holds s × IsSplit id s now × Came s past
    Came now (joins past s a b) = terms.holds s × IsJoin a b (slots_of b past) s now × Came s past

    -- what stands is under the rule, and came so from what stands at first
    pub record IsRun (now : State S V) (past : Past S V) : Type 0 where
      pub holds : terms.holds now
      pub came : Came now past
      pub words : List ℕ
      pub slots : List S
      pub opens : terms.opens words slots
      pub start : first_of now past ≡ opening words slots terms.first

module _ {V : Type 0} where
  -- what the views have at j
  abbrev pub entries_at : {A : Type 0} → (Logged V → List A) → List (Logged V) → ℕ → List A
  entries_at f [] j = []
  entries_at f (v ∷ vs) zero = f v
  entries_at f (v ∷ vs) (suc j) = entries_at f vs j

  -- the log of the seat j
  abbrev pub log_at : List (Logged V) → ℕ → List Entry
  log_at = entries_at (λ v. v.log)

  -- the logs of the seats that it has taken in
  abbrev pub took_at : List (Logged V) → ℕ → List (List Entry)
  took_at = entries_at (λ v. v.took)

  -- the numbers of the slots that its last step left it with
  abbrev pub slots_at : List (Logged V) → ℕ → List ℕ
  slots_at = entries_at (λ v. v.slots)

  -- the view before each step of its log
  abbrev pub befores_at : List (Logged V) → ℕ → List V
  befores_at = entries_at (λ v. v.befores.views)

  -- the view before each step of the logs that it has taken in
  abbrev pub took_befores_at : List (Logged V) → ℕ → List (List V)
  took_befores_at = entries_at (λ v. v.befores.taken)

module _ {S V : Type 0} where
  -- the rule of a table with logs: it came to what stands by a run, and each seat's log has its steps of that run
  pub record Kept (terms : Terms S V) (s : State S (Logged V)) : Type 0 where
    pub past : Past S V
    pub run : IsRun terms (own_state s) past
    pub logs : (j : ℕ) → log_at s.views j ≡ log_of j past
    pub tooks : (j : ℕ) → took_at s.views j ≡ took_of j past
    pub left_slots : (j : ℕ) → slots_at s.views j ≡ slots_of j past
    pub befores : (j : ℕ) → befores_at s.views j ≡ befores_of j past
    pub took_befores : (j : ℕ) → took_befores_at s.views j ≡ took_befores_of j past
    -- a seat that was never split and has taken in none is the only one
    pub lone : (j : ℕ) (v : Logged V) → get_elem? s.views j ≡ some v → v.lone ≡ true → length s.views ≡ 1
