-- The loop that wakes a chain: so many of its tasks are woken, and the others are the seat's rest.
use Rattle.tj_park.proofs.Prelude.{CellId, Err, Head, IsTailOf, List, None, Ok, Option, Rest, SlotsOf}
use Rattle.tj_park.proofs.Prelude.{Some, View, Way, [], ap, arith, cell, head_of, head_word, inl, inr, more_itself}
use Rattle.tj_park.proofs.Prelude.{refl, subst, suc, sym, tail_on, without, ℕ, ⊎_elim, ◌++◌, ◌+◌, ◌<◌, ◌∙◌}
use Rattle.tj_park.proofs.Prelude.{◌∷◌, ◌≡◌, ◌≢◌, ◌≤◌, ◌⊎◌}
use Rattle.std.proofs.Common.{length, Result, OnErr, append_assoc, length-append}
use Rattle.tj_words.specs.declared.head.Head.TheVariants.{Empty, Task, Shut}
use Rattle.tj_words.specs.declared.view.Note.{Note}
use Rattle.tj_words.specs.Calls.ChainSteps.{TakesChain, found_taken, rest_of}
use Rattle.tj_words.proofs.Waiters.ChainsSaid.{shut_or}
use Rattle.tj_cells.specs.CallLogs.{Makes, Seat}
use Rattle.tj_park.proofs.WakeLogs.{wake_begins, wake_more}
use Rattle.tj_park.specs.Inner.FirstWaiters.{StepsOfFirst, WakesFirst}
use Rattle.tj_park.specs.WakeLogs.{IsHeadOf, MakesWake, head_shut}
use Rattle.tj_park.specs.Wakes.{HasNotedNothing, HaveNoted, HavePut, HasWoken, MayWakeTasks, WakesAll, WakesSome}
use Rattle.tj_park.specs.Wakes.{wake_notes}

-- the head begins the list of those who are left, and names a cell; or it was shut, and nobody is
abbrev pub Begins : ℕ → Head → List ℕ → Type 0
Begins cells first left = ((first ≡ head_of left) × (head_word first ≤ cells)) ⊎ ((first ≡ Shut) × (left ≡ []))

-- how many a rest has
abbrev pub rest_length : Option Rest → ℕ
rest_length None = 0
rest_length (Some r) = length r.tasks

module _ {B P : Type 0} (puts : P → CellId → P → Type 0) (cells p : ℕ) where
  -- so many were woken and put into the pool, one after the other
  pub record Waking (first : Head) (woken : ℕ) (v w : View B) (a b : P) : Type 0 where
    pub front : List ℕ
    pub left : List ℕ
    pub begins : Begins cells first left
    pub few : length front + length left ≤ cells
    pub counted : length front ≡ woken
    pub woke : HasWoken p front left v w
    pub put : HavePut puts front a b

-- the number of the task that a head names
abbrev task_number : Head → ℕ
task_number Empty = 0
task_number (Task t) = t.0
task_number Shut = 0

first_of : (t : CellId) (left : List ℕ) → Task t ≡ head_of left → (ts : List ℕ) × (left ≡ t.0 ∷ ts)
first_of t [] e = absurd (cc)
first_of t (u ∷ us) e = (us, ap (λ k. k ∷ us) (sym (ap task_number e)))

-- where the head names a task, that is the first of those left, and a cell
pub first_task : (cells : ℕ) (first : Head) (t : CellId) (left : List ℕ) → Begins cells first left → first ≡ Task t
    → (ts : List ℕ) × (left ≡ t.0 ∷ ts) × (t.0 < cells)
first_task cells first t left b e = ⊎_elim
    (λ (h : (first ≡ head_of left) × (head_word first ≤ cells)). let l = first_of t left (sym e ∙ h.0) in
    (l.0, l.1, subst (λ q. head_word q ≤ cells) e h.1))
    (λ (h : (first ≡ Shut) × (left ≡ [])). let q = sym h.0 ∙ e in absurd (cc)) b

-- where it names none, nobody is left
pub none_left : (cells : ℕ) (first : Head) (left : List ℕ) → Begins cells first left
    → ((t : CellId) → first ≢ Task t) → left ≡ []
none_left cells first [] b n = refl
none_left cells first (u ∷ us) b n = ⊎_elim
    (λ (h : (first ≡ head_of (u ∷ us)) × (head_word first ≤ cells)). absurd (n (cell u) h.0))
    (λ (h : (first ≡ Shut) × (u ∷ us ≡ [])). h.1) b

-- a list without elements
nobody : (l : List ℕ) → length l ≡ 0 → l ≡ []
nobody [] e = refl
nobody (x ∷ l) e = absurd (cc)

head_begins : (cells : ℕ) (first : Head) (left : List ℕ) → Begins cells first left → IsHeadOf first left
head_begins cells first left b = ⊎_elim
    (λ (h : (first ≡ head_of left) × (head_word first ≤ cells)). inl h.0)
    (λ (h : (first ≡ Shut) × (left ≡ [])). inr h) b

rest_long : (p : ℕ) (ts : List ℕ) → rest_length (rest_of p ts) ≡ length ts
rest_long p [] = refl
rest_long p (t ∷ ts) = refl

-- what holds where a call has failed
pub on_err : {A E P : Type 0} (r : Result A E) → P → OnErr r P
on_err (Ok x) h = tt
on_err (Err e) h = h

module _ {B : Type 0} where
  -- the view after so many steps and plain loads, with these notes, of which these are left
  abbrev woken_with : ℕ → List ℕ → ℕ → ℕ → List Note → View B → View B
  woken_with p left n l ns v = record v {
    steps = n;
    plain_loads = l;
    shuts = without p v.shuts;
    rest = rest_of p left;
    closed = p ∷ v.closed;
    notes = ns;
  }

  woken_view : (p : ℕ) (woken left : List ℕ) (v w : View B) (n l : ℕ) (ns : List Note) → w ≡ woken_with p left n l ns v
      → l ≡ v.plain_loads + length woken → HaveNoted p woken left v v.notes ns → HasWoken p woken left v w
  woken_view p woken left v w n l ns e q noted = record {
    noted = subst (HaveNoted p woken left v v.notes) (sym (ap (λ (u : View B). u.notes) e)) noted;
    view = e ∙ (ap (λ k. woken_with p left k l ns v) (sym (ap (λ (u : View B). u.steps) e))
        ∙ (ap (λ k. woken_with p left w.steps l k v) (sym (ap (λ (u : View B). u.notes) e))
        ∙ ap (λ k. woken_with p left w.steps k w.notes v) q));
  }

  -- one more is woken, the first of those who were left
  noted_more : (p t : ℕ) (way : Way) (front left : List ℕ) (v : View B) (old new ns : List Note)
      → HaveNoted p front (t ∷ left) v old new → ns ≡ wake_notes p t way left v ++ new
      → HaveNoted p (front ++ t ∷ []) left v old ns
  noted_more p t way [] left v old new ns h e = (way, e ∙ ap (λ l. wake_notes p t way left v ++ l) h)
  noted_more p t way (u ∷ us) left v old new ns h e = (
    h.0,
    noted_more p t way us left v (wake_notes p u h.0 ((us ++ t ∷ []) ++ left) v ++ old) new ns
        (subst (λ l. HaveNoted p us (t ∷ left) v (wake_notes p u h.0 l v ++ old) new)
        (sym (append_assoc us (t ∷ []) left)) h.1) e,
  )

  -- the seat may go on
  pub may_go_on : (p : ℕ) (woken left : List ℕ) (v w : View B) (slots : SlotsOf B) → MayWakeTasks (v, slots)
      → HasWoken p woken left v w → MayWakeTasks (w, slots)
  may_go_on p woken left v w slots m h = subst (λ (x : View B). MayWakeTasks (x, slots)) (sym h.view) (record {
    backed = m.backed;
    alarms = m.alarms;
    token_room = m.token_room;
    cleared_room = m.cleared_room;
    no_record = m.no_record;
  })

  pub rest_now : (p t : ℕ) (woken left ts : List ℕ) (v w : View B) → HasWoken p woken left v w → left ≡ t ∷ ts
      → w.rest ≡ rest_of p (t ∷ ts)
  rest_now p t woken left ts v w h e = ap (λ (u : View B). u.rest) h.view ∙ ap (rest_of p) e

module _ {P : Type 0} (puts : P → CellId → P → Type 0) where
  put_more : (front : List ℕ) (a b c : P) (t : CellId) → HavePut puts front a b → puts b t c
      → HavePut puts (front ++ t.0 ∷ []) a c
  put_more [] a b c t h q = (c, subst (λ x. puts x t c) h q, refl)
  put_more (u ∷ us) a b c t h q = (h.0, h.1, put_more us h.0 b c t h.2 q)

module _ {B P : Type 0} (puts : P → CellId → P → Type 0) (cells p : ℕ) where
  -- the head was shut: nobody is woken yet
  pub waking_at_first : (h : Head) (v w : View B) (a : P) → v.rest ≡ None → (h ≡ Shut → w ≡ found_taken p v)
      → (h ≢ Shut → TakesChain cells p h v w) → Waking puts cells p h 0 v w a a
  waking_at_first h v w a no_rest again takes = ⊎_elim
      (λ (s : h ≡ Shut). record {
        front = [];
        left = [];
        begins = inr (s, refl);
        few = (omega arith);
        counted = refl;
        woke = woken_view p [] [] v w (suc v.steps) v.plain_loads v.notes
            (again s ∙ ap (λ o. record v {
              steps = suc v.steps;
              shuts = without p v.shuts;
              rest = o;
              closed = p ∷ v.closed;
            }) no_rest) (omega arith) refl;
        put = refl;
      })
      (λ (n : h ≢ Shut). let c = takes n in record {
        front = [];
        left = c.chain;
        begins = inl (c.is, c.small);
        few = (let k = c.short in omega arith);
        counted = refl;
        woke = woken_view p [] c.chain v w (suc v.steps) v.plain_loads v.notes c.view (omega arith) refl;
        put = refl;
      }) (shut_or h)

  -- nobody is woken yet by the steps so far
  pub steps_at_first : (h : Head) (old now : Seat B) (a b : P) (k : Waking puts cells p h 0 old.me.0 now.me.0 a b)
      → Makes (head_shut p h ∷ []) old now → MakesWake p k.front k.left old now
  steps_at_first h old now a b k m = subst (λ l. MakesWake p l k.left old now) (sym (nobody k.front k.counted))
      (wake_begins p h k.left old now (head_begins cells h k.left k.begins) m)

  module _ (first next : Head) (t : CellId) (woken : ℕ) (v w w' : View B) (a b : P)
      (k : Waking puts cells p first woken v w a b) (names : first ≡ Task t) (wakes : WakesFirst p t.0 next w w') where
    abbrev the_first : (ts : List ℕ) × (k.left ≡ t.0 ∷ ts) × (t.0 < cells)
    the_first = first_task cells first t k.left k.begins names

    rests : w.rest ≡ rest_of p (t.0 ∷ the_first.0)
    rests = rest_now p t.0 k.front k.left the_first.0 v w k.woke the_first.1

    abbrev woke_it : (way : Way) × (w' ≡ record w {
      steps = w'.steps;
      plain_loads = suc w.plain_loads;
      rest = rest_of p the_first.0;
      notes = wake_notes p t.0 way the_first.0 w ++ w.notes;
    })
    woke_it = (wakes the_first.0 rests).1

    woke_more : HasWoken p (k.front ++ t.0 ∷ []) the_first.0 v w'
    woke_more = woken_view p (k.front ++ t.0 ∷ []) the_first.0 v w' w'.steps (suc (v.plain_loads + length k.front))
        (wake_notes p t.0 woke_it.0 the_first.0 v ++ w.notes)
        (woke_it.1 ∙ ap (λ (u : View B). record u {
          steps = w'.steps;
          plain_loads = suc u.plain_loads;
          rest = rest_of p the_first.0;
          notes = wake_notes p t.0 woke_it.0 the_first.0 u ++ w.notes;
        }) k.woke.view)
        (let n = length-append k.front (t.0 ∷ []) in omega arith)
        (noted_more p t.0 woke_it.0 k.front the_first.0 v v.notes w.notes
        (wake_notes p t.0 woke_it.0 the_first.0 v ++ w.notes)
        (subst (λ l. HaveNoted p k.front l v v.notes w.notes) the_first.1 k.woke.noted) refl)

    lengths : length k.left ≡ suc (length the_first.0)
    lengths = ap length the_first.1

    pub few_woken : woken + 1 ≤ cells
    few_woken = let a = k.few in let b = k.counted in let c = lengths in omega arith

    pub fewer_left : rest_length w'.rest < rest_length w.rest
    fewer_left =
        let a : rest_length w'.rest ≡ length the_first.0
        = ap (λ (u : View B). rest_length u.rest) woke_more.view ∙ rest_long p the_first.0 in
        let b : rest_length w.rest ≡ suc (length the_first.0) = ap rest_length rests in omega arith

    -- one more is woken, and put into the pool
    abbrev waking_next : head_word next ≤ cells → (c : P) → puts b t c → Waking puts cells p next (woken + 1) v w' a c
    waking_next small c q = record {
      front = k.front ++ t.0 ∷ [];
      left = the_first.0;
      begins = inl ((wakes the_first.0 rests).0, small);
      few = (let f = k.few in let n = length-append k.front (t.0 ∷ []) in let m = lengths in omega arith);
      counted = (let f = k.counted in let n = length-append k.front (t.0 ∷ []) in omega arith);
      woke = woke_more;
      put = put_more puts k.front a b c t k.put q;
    }

  module _ (first next : Head) (t : CellId) (woken : ℕ) (old now new : Seat B) (a b : P)
      (k : Waking puts cells p first woken old.me.0 now.me.0 a b) (names : first ≡ Task t)
      (wakes : WakesFirst p t.0 next now.me.0 new.me.0) (steps : MakesWake p k.front k.left old now)
      (ready : StepsOfFirst p t.0 now new) where
    abbrev those : List ℕ
    those = (the_first first next t woken old.me.0 now.me.0 new.me.0 a b k names wakes).0

    steps_more : MakesWake p (k.front ++ t.0 ∷ []) those old new
    steps_more =
        let few = the_first first next t woken old.me.0 now.me.0 new.me.0 a b k names wakes in
        wake_more p t.0 k.front those old now new (subst (λ l. MakesWake p k.front l old now) few.1 steps)
        (ready those (rests first next t woken old.me.0 now.me.0 new.me.0 a b k names wakes))

    -- so these are the steps so far
    pub waking_then : head_word next ≤ cells → (c : P) → puts b t c
        → (n : Waking puts cells p next (woken + 1) old.me.0 new.me.0 a c) × MakesWake p n.front n.left old new
    waking_then small c q = (
      waking_next first next t woken old.me.0 now.me.0 new.me.0 a b k names wakes small c q,
      steps_more,
    )

    -- one more is woken, and the pool has nothing of it
    pub woke_some : (same : P → P → Type 0) (c : P) → same b c → WakesSome puts same p old new a c
    woke_some same c q = record {
      woken = k.front;
      next = t.0;
      left = those;
      between = b;
      woke = woke_more first next t woken old.me.0 now.me.0 new.me.0 a b k names wakes;
      put = k.put;
      refused = q;
      steps = steps_more;
    }

  -- all are woken
  pub woke_all : (first : Head) (woken : ℕ) (old now : Seat B) (a b : P)
      (k : Waking puts cells p first woken old.me.0 now.me.0 a b) → MakesWake p k.front k.left old now
      → ((t : CellId) → first ≢ Task t) → WakesAll puts p woken old now a b
  woke_all first woken old now a b k steps n = let none = none_left cells first k.left k.begins n in record {
    chain = k.front;
    all = k.counted;
    woke = subst (λ l. HasWoken p k.front l old.me.0 now.me.0) none k.woke;
    put = k.put;
    steps = subst (λ l. MakesWake p k.front l old now) none steps;
  }

-- what a wake notes stands in front of what was noted
pub noted_tail : {B : Type 0} (p : ℕ) (woken left : List ℕ) (v : View B) (old new : List Note)
    → HaveNoted p woken left v old new → IsTailOf old new
noted_tail p [] left v old new h = ([], h)
noted_tail p (t ∷ ts) left v old new h =
    tail_on old (wake_notes p t h.0 (ts ++ left) v ++ old) new (wake_notes p t h.0 (ts ++ left) v, refl)
    (noted_tail p ts left v (wake_notes p t h.0 (ts ++ left) v ++ old) new h.1)

-- a seat that has done nothing has noted nothing
pub nothing_noted : {B : Type 0} (v : View B) → HasNotedNothing v v
nothing_noted v = record { knows = more_itself v; notes = refl }
