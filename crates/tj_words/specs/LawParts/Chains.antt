-- No lost wake: the chains of waiters. The line of a cell is its chain, or, once its head is shut, the rest that the
-- seat has which shut it. Each task that is parked on the cell stands in the line, or its seat has yet to add it.
use Rattle.std.specs.Prelude.{◌≡◌, ◌≢◌, ◌⊎◌, ℕ, List, [], ◌∷◌, ◌++◌, Option, Some, None}
use Rattle.tj_events.specs.declared.walk.Way.{Way}
use Rattle.tj_body.specs.Points.{IsIn}
use Rattle.tj_words.specs.declared.head.Head.{Head}
use Rattle.tj_words.specs.declared.head.Head.TheVariants.{Empty, Task, Shut}
use Rattle.tj_words.specs.declared.phase.Walk.TheVariants as walk
use Rattle.tj_words.specs.declared.phase.Phase.{Phase}
use Rattle.tj_words.specs.declared.phase.Phase.TheVariants as phase
use Rattle.tj_words.specs.declared.view.Push.{Push}
use Rattle.tj_words.specs.declared.view.Rest.{Rest}
use Rattle.tj_words.specs.declared.view.Found.{Found}
use Rattle.tj_words.specs.Words.Lists.{Each, OfSeat, All, Any, cell}

-- the head that names the first of a list
abbrev pub head_of : List ℕ → Head
head_of [] = Empty
head_of (t ∷ ts) = Task (cell t)

-- NEXT of each task names the one behind it, and that of the last nobody
abbrev pub AreLinked : (ℕ → Head) → List ℕ → Type 0
AreLinked next [] = Unit {0}
AreLinked next (t ∷ ts) = (next t ≡ head_of ts) × AreLinked next ts

-- the phase of a task that is parked on p, by the way of its wait
abbrev pub parked_phase : ℕ → Way → Phase
parked_phase p way = phase.Waiting (cell p) way walk.Parked

-- the task is parked on p
abbrev pub IsParkedOn : Phase → ℕ → Type 0
IsParkedOn phase p = (way : Way) × (phase ≡ parked_phase p way)

-- the chain that was found is an end of the line, or the head is shut
abbrev pub HasGrown : Head → List ℕ → List ℕ → Type 0
HasGrown head line chain = (head ≡ Shut) ⊎ ((more : List ℕ) × (line ≡ more ++ chain))

-- the task has this phase, if the list has a first one
abbrev pub IsFirstIn : (ℕ → Phase) → List ℕ → Phase → Type 0
IsFirstIn phase [] p = Unit {0}
IsFirstIn phase (t ∷ ts) p = phase t ≡ p

-- a push that seat j has to come: its task is parked as the seat stored it, and NEXT is what the seat stored last
pub record IsPush (next : ℕ → Head) (phase : ℕ → Phase) (pusher : ℕ → Option ℕ) (j : ℕ) (e : Push) : Type 0 where
  pub mine : pusher e.task ≡ Some j
  pub parked : phase e.task ≡ parked_phase e.cell e.way
  pub stored : (h : Head) → e.next ≡ Some h → next e.task ≡ h

-- a rest of seat j: the line of its cell, which has some task, and whose first one waits as the seat has read it
pub record IsRest (head : ℕ → Head) (phase : ℕ → Phase) (line : ℕ → List ℕ) (taker : ℕ → ℕ) (j : ℕ) (r : Rest) : Type
    0 where
  pub mine : taker r.cell ≡ j
  pub is_shut : head r.cell ≡ Shut
  pub left : line r.cell ≡ r.tasks
  pub some : r.tasks ≢ []
  pub read : (way : Way) → r.way ≡ Some way → IsFirstIn phase r.tasks (parked_phase r.cell way)

-- the chains, over TAG, HEAD, NEXT and PHASE, and what the seats have to do and have found
pub record Chains (tag : ℕ → ℕ) (head next : ℕ → Head) (phase : ℕ → Phase) (pushes : List (List Push))
    (shuts : List (List ℕ))
    (rests : List (Option Rest)) (closed : List (List ℕ)) (found : List (List Found)) : Type 0 where
  pub line : ℕ → List ℕ
  pub pusher : ℕ → Option ℕ
  pub taker : ℕ → ℕ
  pub shutter : ℕ → ℕ
  pub heads : (p : ℕ) → head p ≢ Shut → head p ≡ head_of (line p)
  pub linked : (p : ℕ) → AreLinked next (line p)
  pub parked : (p t : ℕ) → IsIn t (line p) → IsParkedOn (phase t) p × (pusher t ≡ None)
  pub placed : (p t : ℕ) → IsParkedOn (phase t) p → pusher t ≡ None → IsIn t (line p)
  pub tagged : (p : ℕ) → head p ≡ Shut → tag p ≢ 0
  pub due : (p : ℕ) → tag p ≢ 0 → head p ≢ Shut → OfSeat (IsIn p) shuts (shutter p)
  pub pushing : (t j : ℕ) → pusher t ≡ Some j → OfSeat (Any (λ (e : Push). e.task ≡ t)) pushes j
  pub to_push : Each (λ j l. All (IsPush next phase pusher j) l) pushes
  pub taken : (p : ℕ) → head p ≡ Shut → line p ≢ []
      → OfSeat (λ rest. (r : Rest) × (rest ≡ Some r) × (r.cell ≡ p)) rests (taker p)
  pub rest : Each (λ j rest. (r : Rest) → rest ≡ Some r → IsRest head phase line taker j r) rests
  pub stays_shut : Each (λ j l. All (λ p. head p ≡ Shut) l) closed
  pub grows : Each (λ j l. All (λ (f : Found). HasGrown (head f.cell) (line f.cell) f.chain) l) found
