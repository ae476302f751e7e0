-- The points that the tasks of the generated script come to, written out: of `main` at each step, and of each node.
use Rattle.std.proofs.Common.{ℕ, zero, suc, ◌≡◌, ℤ, pos, List, [], ◌∷◌, ◌++◌, length, Some, refl, ap, ◌∙◌}
use Rattle.std.proofs.Common.{append_assoc}
use Rattle.std.proofs.Math.Seq.{get_or-append_seam}
use Rattle.std.specs.Prelude.{get_or, ◌+◌}
use Rattle.tj_base.specs.ForkOrder.{Name}
use Rattle.tj_base.specs.declared.value.Pay.{Pay}
use Rattle.tj_base.specs.declared.value.Pay.TheVariants as pay
use Rattle.tj_body.specs.History.{to_task, to_promise}
use Rattle.tj_body.specs.declared.ask.Answer.TheVariants as answer
use Rattle.tj_body.specs.declared.point.Close.{Close}
use Rattle.tj_body.specs.declared.point.Close.TheVariants as close
use Rattle.tj_body.specs.declared.point.Entry.{Entry}
use Rattle.tj_body.specs.declared.point.Entry.TheVariants as entry
use Rattle.tj_body.specs.declared.point.Value.TheVariants as value
use Rattle.tj_body.specs.declared.point.Reference.{Reference}
use Rattle.tj_body.specs.declared.point.PointStage.{PointStage}
use Rattle.tj_body.specs.declared.point.PointStage.TheVariants as stage
use Rattle.tj_body.specs.declared.point.Task.{Task}
use Rattle.tj_body.specs.declared.point.Point.{Point}
use Rattle.tj_syntax.specs.Trees.{Statement}
use Rattle.tj_eval.specs.Statements.{TaskState, Due, place, over, task_of}
use Rattle.tj_modes.specs.Generated.{generated_script, node_task, step_statements, tail_statements}

-- twice a number
abbrev pub double : ℕ → ℕ
double zero = zero
double (suc i) = suc (suc (double i))

-- 1 + 2 + .. + i
abbrev pub sum_to : ℕ → ℕ
sum_to zero = 0
sum_to (suc i) = sum_to i + suc i

-- the promise before the chain, and in the step after i steps the promise and the task that are made
abbrev pub first : Name
first = 1 ∷ []

abbrev pub promised : ℕ → Name
promised i = suc (suc (double i)) ∷ []

abbrev pub forked : ℕ → Name
forked i = suc (suc (suc (double i))) ∷ []

-- the promise that p holds after i steps
abbrev pub last_promise : ℕ → Name
last_promise zero = first
last_promise (suc i) = promised i

-- the references that main has after i steps
abbrev pub refs : ℕ → List Reference
refs zero = to_task [] ∷ to_promise first ∷ []
refs (suc i) = (refs i ++ to_promise (promised i) ∷ []) ++ to_task (forked i) ∷ []

-- the place of the promise that p holds after i steps
abbrev pub last_place : ℕ → ℕ
last_place zero = 1
last_place (suc i) = length (refs i)

-- the promises that main has made after i steps
abbrev pub promises : ℕ → List Name
promises zero = first ∷ []
promises (suc i) = promises i ++ promised i ∷ []

-- steps further on than i, so many of them, and what stands behind them
abbrev pub more : ℕ → ℕ → List Statement
more i zero = tail_statements
more i (suc j) = step_statements (suc i) ++ more (suc i) j

-- how many statements may still begin before so many steps, if n may at the end
abbrev pub left : ℕ → ℕ → ℕ
left zero n = suc (suc (suc n))
left (suc j) n = suc (suc (suc (left j n)))

-- ---- where references stand

pub first_at : (i : ℕ) (xs : List Reference) (d : Reference) → get_or (refs i ++ xs) 1 d ≡ to_promise first
first_at zero xs d = refl
first_at (suc i) xs d =
    ap (λ l. get_or l 1 d) (append_assoc (refs i ++ to_promise (promised i) ∷ []) (to_task (forked i) ∷ []) xs
    ∙ append_assoc (refs i) (to_promise (promised i) ∷ []) (to_task (forked i) ∷ xs))
    ∙ first_at i (to_promise (promised i) ∷ to_task (forked i) ∷ xs) d

pub last_at : (i : ℕ) (xs : List Reference) (d : Reference)
    → get_or (refs i ++ xs) (last_place i) d ≡ to_promise (last_promise i)
last_at zero xs d = refl
last_at (suc i) xs d =
    ap (λ l. get_or l (length (refs i)) d)
    (append_assoc (refs i ++ to_promise (promised i) ∷ []) (to_task (forked i) ∷ []) xs
    ∙ append_assoc (refs i) (to_promise (promised i) ∷ []) (to_task (forked i) ∷ xs))
    ∙ get_or-append_seam (refs i) (to_promise (promised i)) (to_task (forked i) ∷ xs) d

-- ---- the points, in a script of this size, where each task may begin so many statements

module _ (size limit : ℕ) where
  -- a task of the script
  abbrev pub state : List Statement → List Pay → ℕ → ℕ → Due → TaskState
  state rest vars steps places due = record {
    script = generated_script size;
    limit = limit;
    rest = rest;
    vars = vars;
    steps = steps;
    places = places;
    due = due;
  }

  -- the node that is forked after i steps
  abbrev pub node : ℕ → Task TaskState
  node i = record {
    name = forked i;
    body = task_of (generated_script size) limit node_task
        (pay.Num (pos (suc i)) ∷ pay.Ref (last_place i) ∷ pay.Ref (length (refs i)) ∷ []);
    passed = to_promise (last_promise i) ∷ to_promise (promised i) ∷ [];
    handed = promised i ∷ [];
  }

  -- the nodes that are forked in i steps
  abbrev pub nodes : ℕ → List (Task TaskState)
  nodes zero = []
  nodes (suc i) = nodes i ++ node i ∷ []

  -- main after the promise of the step after i steps was made: a, p, q and t are the places of references
  abbrev pub promising : (i : ℕ) → List Statement → (q t : Pay) → (steps places : ℕ) → Point TaskState
  promising i rest q t steps places = record {
    name = [];
    body = state rest (pay.Ref 1 ∷ pay.Ref (last_place i) ∷ q ∷ t ∷ pay.Num (pos 0) ∷ []) steps places (place (Some 2));
    stage = stage.Answered (answer.Local (length (refs i)));
    references = refs i ++ to_promise (promised i) ∷ [];
    holds = first ∷ promised i ∷ [];
    made = suc (suc (double i));
    promises = promises (suc i);
    children = nodes i;
    writes = [];
    prints = [];
    owed = [];
  }

  -- main after the fork of that step
  abbrev pub forking : (i : ℕ) → List Statement → (t : Pay) → (steps places : ℕ) → Point TaskState
  forking i rest t steps places = record {
    name = [];
    body = state rest (pay.Ref 1 ∷ pay.Ref (last_place i) ∷ pay.Ref (length (refs i)) ∷ t ∷ pay.Num (pos 0) ∷ [])
        steps places (place (Some 3));
    stage = stage.Answered (answer.Local (length (refs i ++ to_promise (promised i) ∷ [])));
    references = refs (suc i);
    holds = first ∷ [];
    made = suc (double (suc i));
    promises = promises (suc i);
    children = nodes (suc i);
    writes = [];
    prints = [];
    owed = [];
  }

  -- main behind its i steps, at this stage, with what it has still to do, what v holds and what it has printed
  abbrev pub behind : (i : ℕ) → List Statement → (t v : Pay) → (steps places : ℕ) → Due → PointStage → List ℤ
      → Point TaskState
  behind i rest t v steps places due at prints = record {
    name = [];
    body = state rest (pay.Ref 1 ∷ pay.Ref (last_place i) ∷ pay.Ref (last_place i) ∷ t ∷ v ∷ []) steps places due;
    stage = at;
    references = refs i;
    holds = [];
    made = suc (double i);
    promises = promises i;
    children = nodes i;
    writes = (first, entry.Value (value.Num (pos 0))) ∷ [];
    prints = prints;
    owed = [];
  }

  -- what the variables hold once a task has closed so: a task that has ended has none
  abbrev pub held_on : Close → List Pay → List Pay
  held_on (close.Done v) vars = []
  held_on (close.Failed c) vars = vars

  -- main where it has stopped
  abbrev pub main_stopped : (i : ℕ) → (t : Pay) → List Statement → (steps places : ℕ) → Close → Entry → Point TaskState
  main_stopped i t rest steps places end result = record (behind i rest t (pay.Num (pos (sum_to i))) steps places over
      (stage.Closed end) (pos (sum_to i) ∷ [])) {
        body = state rest (held_on end (pay.Ref 1 ∷ pay.Ref (last_place i) ∷ pay.Ref (last_place i) ∷ t
            ∷ pay.Num (pos (sum_to i)) ∷ [])) steps places over;
        writes = (first, entry.Value (value.Num (pos 0))) ∷ ([], result) ∷ [];
      }

  -- the node that is forked after i steps: with what it has still to do, what v holds, the promise that it holds, and
  -- what it has written
  abbrev pub node_at : (i : ℕ) → List Statement → (v : Pay) → (steps places : ℕ) → Due → PointStage
      → (holds : List Name) → List (Name × Entry) → Point TaskState
  node_at i rest v steps places due at holds writes = record {
    name = forked i;
    body = state rest (pay.Num (pos (suc i)) ∷ pay.Ref 1 ∷ pay.Ref 2 ∷ v ∷ []) steps places due;
    stage = at;
    references = to_task (forked i) ∷ to_promise (last_promise i) ∷ to_promise (promised i) ∷ [];
    holds = holds;
    made = 0;
    promises = [];
    children = [];
    writes = writes;
    prints = [];
    owed = [];
  }

  -- the same where it has stopped: it has set its promise, and ended with its number
  abbrev pub node_stopped : (i left places : ℕ) → Point TaskState
  node_stopped i left places =
      record (node_at i [] (pay.Num (pos (sum_to i))) left places over
      (stage.Closed (close.Done (value.Num (pos (suc i))))) []
      ((promised i, entry.Value (value.Num (pos (sum_to (suc i))))) ∷
      (forked i, entry.Value (value.Num (pos (suc i)))) ∷ [])) { body = state [] [] left places over }
