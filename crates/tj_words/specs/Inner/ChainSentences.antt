-- No lost wake, sentence by sentence. It follows from the chains.
use Rattle.std.specs.Prelude.{◌≡◌, ◌≢◌, ◌⊎◌, ℕ, List, [], ◌∷◌, ◌++◌, Option, Some}
use mathlib.Core.Option.{some}
use lib.ListN.{get_elem?}
use Rattle.tj_body.specs.Points.{IsIn}
use Rattle.tj_words.specs.declared.head.Head.{Head}
use Rattle.tj_words.specs.declared.head.Head.TheVariants.{Empty, Task, Shut}
use Rattle.tj_words.specs.declared.phase.Phase.{Phase}
use Rattle.tj_words.specs.declared.view.Push.{Push}
use Rattle.tj_words.specs.declared.view.Rest.{Rest}
use Rattle.tj_words.specs.declared.view.Found.{Found}
use Rattle.tj_words.specs.Words.Lists.{cell}
use Rattle.tj_body.specs.Programs.{Program}
use Rattle.tj_words.specs.LawParts.Chains.{IsParkedOn, head_of}
use Rattle.tj_words.specs.LawParts.Contents.{Contents, tag_in}
use Rattle.tj_words.specs.Law.{Law}

-- the list that begins at this head, goes on by NEXT, and ends where that names nobody
abbrev pub GoesOn : (ℕ → Head) → Head → List ℕ → Type 0
GoesOn next h [] = h ≡ Empty
GoesOn next h (t ∷ ts) = (h ≡ Task (cell t)) × GoesOn next (next t) ts

-- the rest for p that seat j has
abbrev pub IsRestOf : List (Option Rest) → ℕ → ℕ → List ℕ → Type 0
IsRestOf rests j p tasks = (r : Rest) × (get_elem? rests j ≡ some (Some r)) × (r.cell ≡ p) × (r.tasks ≡ tasks)

-- seat j has the push of t to the chain of p to come, or the exchange that clears its wait
abbrev pub IsToPush : List (List Push) → ℕ → ℕ → ℕ → Type 0
IsToPush pushes j p t = (l : List Push) × (e : Push) × (get_elem? pushes j ≡ some l) × IsIn e l × (e.task ≡ t)
    × (e.cell ≡ p)

-- the sentences on chains, over TAG, HEAD, NEXT and PHASE and what the seats have to do
pub record ChainSentences (tag : ℕ → ℕ) (head next : ℕ → Head) (phase : ℕ → Phase) (pushes : List (List Push))
    (shuts : List (List ℕ)) (rests : List (Option Rest)) (closed : List (List ℕ)) (found : List (List Found)) : Type 0
  where
    -- the chain of a cell begins at its head and goes on by NEXT; it is empty where the head is shut
    pub chain : ℕ → List ℕ
    pub open_chains : (p : ℕ) → head p ≢ Shut → GoesOn next (head p) (chain p)
    pub shut_chains : (p : ℕ) → head p ≡ Shut → chain p ≡ []
    -- a rest goes on by NEXT, and its cell's head is shut
    pub rests_go_on : (j p : ℕ) (tasks : List ℕ) → IsRestOf rests j p tasks
        → GoesOn next (head_of tasks) tasks × (head p ≡ Shut)
    -- each task of the chain of p or of a rest for p is parked on p, and no task stands twice in all chains and rests
    pub chains_parked : (p t : ℕ) → IsIn t (chain p) → IsParkedOn (phase t) p
    pub rests_parked : (j p t : ℕ) (tasks : List ℕ) → IsRestOf rests j p tasks → IsIn t tasks → IsParkedOn (phase t) p
    pub one_chain : (p q i k t : ℕ) → get_elem? (chain p) i ≡ some t → get_elem? (chain q) k ≡ some t
        → (p ≡ q) × (i ≡ k)
    pub one_rest : (j p i j' p' i' t : ℕ) (ts ts' : List ℕ) → IsRestOf rests j p ts → IsRestOf rests j' p' ts'
        → get_elem? ts i ≡ some t → get_elem? ts' i' ≡ some t → (j ≡ j') × (p ≡ p') × (i ≡ i')
    pub no_chain_and_rest : (p j q t : ℕ) (ts : List ℕ) → IsIn t (chain p) → IsRestOf rests j q ts → ¬ IsIn t ts
    -- a head is shut only where TAG isn't 0
    pub shut_tagged : (p : ℕ) → head p ≡ Shut → tag p ≢ 0
    -- each task parked on p stands in the chain of p or in a rest for p, or a seat has its push, or exchange, to come
    pub placed : (t p : ℕ) → IsParkedOn (phase t) p
        → IsIn t (chain p)
        ⊎ (((j : ℕ) × (ts : List ℕ) × IsRestOf rests j p ts × IsIn t ts) ⊎ ((j : ℕ) × IsToPush pushes j p t))
    -- a task with a push to come is parked on that cell, stands in no chain and no rest, and no other seat has one
    -- for it
    pub pushes_parked : (j p t : ℕ) → IsToPush pushes j p t → IsParkedOn (phase t) p
    pub pushes_apart : (j p t : ℕ) → IsToPush pushes j p t → (q : ℕ) → ¬ IsIn t (chain q)
    pub pushes_no_rest : (j p t k q : ℕ) (ts : List ℕ) → IsToPush pushes j p t → IsRestOf rests k q ts → ¬ IsIn t ts
    pub one_push : (j k p q t : ℕ) → IsToPush pushes j p t → IsToPush pushes k q t → (j ≡ k) × (p ≡ q)
    -- where TAG isn't 0 and the head isn't shut, some seat has the shut to come
    pub shut_due : (p : ℕ) → tag p ≢ 0 → head p ≢ Shut
        → (j : ℕ) × (l : List ℕ) × (get_elem? shuts j ≡ some l) × IsIn p l
    -- a chain that a seat has found is an end of the chain, or the head is shut; what was found or made shut is shut
    pub found_grown : (j : ℕ) (l : List Found) (f : Found) → get_elem? found j ≡ some l → IsIn f l
        → (head f.cell ≡ Shut) ⊎ ((more : List ℕ) × (chain f.cell ≡ more ++ f.chain))
    pub found_shut : (j p : ℕ) (l : List ℕ) → get_elem? closed j ≡ some l → IsIn p l → head p ≡ Shut
    -- what the seat stored last into NEXT of a task whose push is to come stands there
    pub stored : (j : ℕ) (l : List Push) (e : Push) (h : Head) → get_elem? pushes j ≡ some l → IsIn e l
        → e.next ≡ Some h
        → next e.task ≡ h

-- at each moment under the law these are so
abbrev pub NoWakeIsLost : Type 0 → Type 0
NoWakeIsLost B = (program : Program B) (cells : ℕ) (x : Contents B) → Law program cells x
    → ChainSentences (tag_in x) x.words.head x.words.next x.words.phase x.seats.pushes x.seats.shuts x.seats.rests
    x.seats.closed x.seats.found
