-- Views with a log, and what a step on such a table tells.
use Rattle.std.specs.Prelude.{◌≡◌, ℕ, true, false, List, [], ◌∷◌, ◌++◌, map}
use Rattle.atomic_table.specs.Table.{State, Me, Step}
use Rattle.tj_log.specs.declared.entry.Befores.{Befores}
use Rattle.tj_log.specs.declared.entry.Did.{Did}
use Rattle.tj_log.specs.declared.entry.Entry.{Entry}
use Rattle.tj_log.specs.declared.entry.Logged.{Logged}

-- the numbers of these slots
abbrev pub numbers : {S : Type 0} → List (ℕ × S) → List ℕ
numbers {S} xs = map (λ (x : ℕ × S). x.0) xs

-- a step with what it found
abbrev pub entry : {S : Type 0} → Did → Step S → ℕ → Entry
entry did st n = record { did = did; word = st.word; first = st.first; second = st.second; found = n }

module _ {V : Type 0} where
  -- these views
  abbrev pub earlier : List V → List (List V) → Befores V
  earlier vs taken = record { of = record {}; views = vs; taken = taken }

  -- a view with an empty log
  abbrev pub gone : V → Logged V
  gone v = record { own = v; log = []; took = []; lone = false; slots = []; befores = earlier [] [] }

  -- the view of the first seat
  abbrev pub opened : V → Logged V
  opened v = record { own = v; log = []; took = []; lone = true; slots = []; befores = earlier [] [] }

  -- the first half keeps the log, with the views before its steps
  abbrev pub cut : (V → V) → Logged V → Logged V
  cut left v = record {
    own = left v.own;
    log = v.log;
    took = v.took;
    lone = false;
    slots = v.slots;
    befores = v.befores;
  }

  -- the seat has the log of the other one beside its own, with the views before its steps
  abbrev pub glued : (V → V → V) → Logged V → Logged V → Logged V
  glued both v w = record {
    own = both v.own w.own;
    log = v.log;
    took = v.took ++ w.log ∷ w.took;
    lone = false;
    slots = v.slots;
    befores = earlier v.befores.views (v.befores.taken ++ w.befores.views ∷ w.befores.taken);
  }

  -- the caller's view
  abbrev pub own_view : Logged V → V
  own_view v = v.own

  -- the table as the caller's rule sees it
  abbrev pub own_state : {S : Type 0} → State S (Logged V) → State S V
  own_state s = record { words = s.words; homes = s.homes; views = map own_view s.views }

  -- the caller's view of a seat, with the slots that it holds
  abbrev pub own_me : {S : Type 0} → Me S (Logged V) → Me S V
  own_me m = (m.0.own, m.1)

  -- a step tells what the caller's play tells of the caller's views, and the seat's view has the step in its log, the
  -- slots that the step left it, and the view before the step
  abbrev pub logging : {S : Type 0} → Did → (Step S → Me S V → ℕ → Me S V → Type 0)
      → Step S → Me S (Logged V) → ℕ → Me S (Logged V) → Type 0
  logging did then st m n m' = then st (own_me m) n (own_me m')
      × (m'.0.log ≡ entry did st n ∷ m.0.log) × (m'.0.took ≡ m.0.took) × (m'.0.lone ≡ m.0.lone)
      × (m'.0.slots ≡ numbers m'.1) × (m'.0.befores.views ≡ m.0.own ∷ m.0.befores.views)
      × (m'.0.befores.taken ≡ m.0.befores.taken)
