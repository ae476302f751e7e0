-- From each point of `main` of the generated script to the next: what it asks there, and what the ask makes of it.
use Rattle.std.proofs.Common.{ℕ, zero, suc, ◌≡◌, ◌≢◌, ℤ, pos, Bool, true, false, List, [], ◌∷◌, ◌++◌, length, None}
use Rattle.std.proofs.Common.{Some, Ok}
use Rattle.std.proofs.Common.{refl, sym, ap, ◌∙◌, subst, arith, append-nil, append_assoc}
use Rattle.std.specs.Prelude.{get_or, ◌+◌}
use Rattle.std.proofs.Math.Seq.{get_or-append_seam}
use Rattle.tj_base.specs.ForkOrder.{Name}
use Rattle.tj_base.specs.declared.cause.Cause.TheVariants as cause
use Rattle.tj_base.specs.declared.value.Pay.{Pay}
use Rattle.tj_base.specs.declared.value.Pay.TheVariants as pay
use Rattle.tj_body.specs.Names.{same}
use Rattle.tj_body.specs.Programs.{Program, program_of, root_task}
use Rattle.tj_body.specs.History.{start, to_task, to_promise, reference, value_at, hand_all, after_ask, after_fork}
use Rattle.tj_body.specs.History.{after_set, after_get}
use Rattle.tj_body.specs.RoundPoints.{IsOfRounds, PointsAsk, PointsRead, Becomes}
use Rattle.tj_body.specs.declared.ask.Answer.TheVariants as answer
use Rattle.tj_body.specs.declared.ask.Ask.TheVariants as ask
use Rattle.tj_body.specs.declared.point.Close.TheVariants as close
use Rattle.tj_body.specs.declared.point.Entry.TheVariants as entry
use Rattle.tj_body.specs.declared.point.Value.TheVariants as value
use Rattle.tj_body.specs.declared.point.Reference.{Reference}
use Rattle.tj_body.specs.declared.point.PointStage.TheVariants as stage
use Rattle.tj_body.specs.declared.point.Point.{Point}
use Rattle.tj_body.proofs.Counts.{same_self, same_is}
use Rattle.tj_syntax.specs.declared.expr.RefOf.TheVariants as ref
use Rattle.tj_syntax.specs.Trees as tree
use Rattle.tj_syntax.specs.Trees.{Statement}
use Rattle.tj_syntax.specs.View.{statements_of}
use Rattle.tj_eval.specs.Bodies.{script_places, script_awaits, script_left, script_asks, script_then}
use Rattle.tj_eval.specs.Statements.{TaskState, cell, done, place, listed, start as begin, task_of}
use Rattle.tj_modes.specs.Generated.{generated_script, main_task, steps_statements, step_statements, tail_statements}
use Rattle.tj_gen_laws.proofs.MainPoints.{behind, double, first, first_at, forking, last_at, last_place, last_promise}
use Rattle.tj_gen_laws.proofs.MainPoints.{left, main_stopped, more, node, promised, promising, refs, state, sum_to}

-- ---- the statements

abbrev pub fork_node : ℕ → Statement
fork_node i = tree.assign 3 (tree.answer (tree.fork 1
    (tree.value (tree.number (pos i)) ∷ tree.value (tree.variable 1) ∷ tree.own 2 ∷ [])))

abbrev pub new_q : Statement
new_q = tree.assign 2 (tree.answer tree.new)

abbrev pub p_is_q : Statement
p_is_q = tree.assign 1 (tree.result_of (tree.variable 2))

abbrev pub set_a : Statement
set_a = tree.set_cell 0 (tree.number (pos 0))

abbrev pub let_v : Statement
let_v = tree.let_new 4 (tree.answer (tree.get (ref.Var 1) None))

abbrev pub print_v : Statement
print_v = tree.print (tree.variable 4)

abbrev pub return_v : Statement
return_v = tree.return (tree.variable 4)

-- the statements of a block are those that it was made of
pub listed_all : (some : List Statement) → listed (statements_of some) ≡ some
listed_all [] = refl
listed_all (s ∷ rest) = ap (λ l. s ∷ l) (listed_all rest)

-- all steps and the end are the steps from the first one on
pub all_steps : (i j k : ℕ) → i + j ≡ k → steps_statements i ++ more i j ≡ more 0 k
all_steps zero j k e = ap (more 0) (omega arith)
all_steps (suc i) j k e =
    append_assoc (steps_statements i) (step_statements (suc i)) (more (suc i) j) ∙ all_steps i (suc j) k (omega arith)

pub all_of_main : (k : ℕ) → steps_statements k ++ tail_statements ≡ more 0 k
all_of_main k = all_steps k zero k (omega arith)

-- ---- what an ask makes of a point, by the references at its places

module _ {B : Type 0} (strict : Bool) where
  fork_made : (p : Point B) (b : B) (i j : ℕ) (r s : Reference) (kept : List Name) → reference p i ≡ r
      → reference p j ≡ s → hand_all p.holds (s ∷ []) ≡ Ok kept
      → after_ask strict (ask.Fork b (i ∷ j ∷ []) (j ∷ [])) p ≡ after_fork b (r ∷ s ∷ []) (s.name ∷ []) kept p
  fork_made p b i j r s kept d e h = rw (d, e, h) refl

  pub set_made : (p : Point B) (k : ℕ) (r : Reference) (v : Pay) → reference p k ≡ r
      → after_ask strict (ask.Set k v) p ≡ after_set r.sort r.name (value_at p.name p.references v) p
  set_made p k r v e = ap (λ (s : Reference). after_set s.sort s.name (value_at p.name p.references v) p) e

  pub get_made : (p : Point B) (k : ℕ) (r : Reference) → reference p k ≡ r
      → after_ask strict (ask.Get k) p ≡ after_get false r.sort r.name p
  get_made p k r e = ap (λ (s : Reference). after_get false s.sort s.name p) e

-- two names that differ aren't the same
pub not_same : (x y : Name) → x ≢ y → same x y ≡ false
not_same x y differ = by (same x y) refl where
  by : (b : Bool) → same x y ≡ b → b ≡ false
  by false e = refl
  by true e = absurd (differ (same_is x y e))

-- a promise is handed, and the one that is held before it stays
hand_second : (a q : Name) → same q a ≡ false → same q q ≡ true
    → hand_all (a ∷ q ∷ []) (to_promise q ∷ []) ≡ Ok (a ∷ [])
hand_second a q d e = rw (d, e) refl

-- the promise that a step makes isn't the one before the chain
promised_differs : (i : ℕ) → promised i ≢ first
promised_differs i e = let h : suc (suc (double i)) ≡ 1 = ap (λ l. get_or l 0 0) e in omega arith

-- ---- the body of main at its start

abbrev pub let_a : Statement
let_a = tree.let_new 0 (tree.answer tree.new)

abbrev pub let_p : Statement
let_p = tree.let_new 1 (tree.result_of (tree.variable 0))

abbrev pub let_q : Statement
let_q = tree.let_new 2 (tree.result_of (tree.number (pos 0)))

abbrev pub let_t : Statement
let_t = tree.let_new 3 (tree.result_of (tree.number (pos 0)))

abbrev pub zeros : List Pay
zeros = pay.Num (pos 0) ∷ pay.Num (pos 0) ∷ pay.Num (pos 0) ∷ pay.Num (pos 0) ∷ pay.Num (pos 0) ∷ []

-- with these statements behind its first four, where so many may begin
abbrev pub first_body : (size limit : ℕ) → List Statement → ℕ → TaskState
first_body size limit rest n = state size limit (let_a ∷ let_p ∷ let_q ∷ let_t ∷ rest) zeros n 1 begin

root_is : (size limit n : ℕ) → limit ≡ n
    → task_of (generated_script size) limit (main_task size) [] ≡ first_body size limit (more 0 size) n
root_is size limit n l =
    let rest : listed (statements_of (steps_statements size ++ tail_statements)) ≡ more 0 size =
    listed_all (steps_statements size ++ tail_statements) ∙ all_of_main size in
    λ i. first_body size limit (rest i) (l i)

-- ---- the steps

module _ (strict : Bool) (root : TaskState) where
  -- the program of this root
  abbrev pub program : Program TaskState
  program = program_of script_places script_awaits script_left script_asks script_then strict root

  -- the point is one of the rounds
  abbrev pub IsPoint : Point TaskState → Type 0
  IsPoint = IsOfRounds program

module _ (size limit : ℕ) (strict : Bool) (root : TaskState) where
  -- main behind its steps, before it gets the last promise, where n statements may begin after its print
  abbrev pub setting : (k n : ℕ) → Pay → (places : ℕ) → Point TaskState
  setting k n t places =
      behind size limit k (let_v ∷ print_v ∷ return_v ∷ []) t (pay.Num (pos 0)) (suc (suc n)) places done
      (stage.Answered answer.Done) []

  -- such a point is one of the rounds
  pub record HasSet (k n : ℕ) : Type 0 where
    pub t : Pay
    pub places : ℕ
    pub is : IsPoint strict root (setting k n t places)

  module _ (asks : PointsAsk (program strict root)) where
    fork_step : (i : ℕ) (rest : List Statement) (q t : Pay) (n places : ℕ)
        → IsPoint strict root (promising size limit i (fork_node (suc i) ∷ rest) q t (suc n) places)
        → IsPoint strict root (forking size limit i rest t n (places + 1))
    fork_step i rest q t n places is =
        let p = record (promising size limit i (fork_node (suc i) ∷ rest) q t (suc n) places) {
          body = (forking size limit i rest t n (places + 1)).body;
        } in
        subst (IsPoint strict root)
        (fork_made strict p (node size limit i).body (last_place i) (length (refs i)) (to_promise (last_promise i))
        (to_promise (promised i)) (first ∷ []) (last_at i (to_promise (promised i) ∷ []) (to_task []))
        (get_or-append_seam (refs i) (to_promise (promised i)) [] (to_task []))
        (hand_second first (promised i) (not_same (promised i) first (promised_differs i)) (same_self (promised i))))
        (asks (promising size limit i (fork_node (suc i) ∷ rest) q t (suc n) places) (answer.Local (length (refs i)))
        is refl)

    new_step : (i : ℕ) (rest : List Statement) (t : Pay) (n places : ℕ)
        → IsPoint strict root (forking size limit i (p_is_q ∷ new_q ∷ rest) t (suc (suc n)) places)
        → IsPoint strict root (promising size limit (suc i) rest (pay.Ref (length (refs i)))
        (pay.Ref (length (refs i ++ to_promise (promised i) ∷ []))) n (places + 1))
    new_step i rest t n places is =
        asks (forking size limit i (p_is_q ∷ new_q ∷ rest) t (suc (suc n)) places)
        (answer.Local (length (refs i ++ to_promise (promised i) ∷ []))) is refl

    set_step : (i : ℕ) (t : Pay) (n places : ℕ)
        → IsPoint strict root (forking size limit i (p_is_q ∷ tail_statements) t (suc (left zero n)) places)
        → HasSet (suc i) n
    set_step i t n places is =
        let at = length (refs i ++ to_promise (promised i) ∷ []) in
        let after = record (forking size limit i (p_is_q ∷ tail_statements) t (suc (left zero n)) places) {
          body = state size limit (let_v ∷ print_v ∷ return_v ∷ [])
              (pay.Ref 1 ∷ pay.Ref (length (refs i)) ∷ pay.Ref (length (refs i)) ∷ pay.Ref at ∷ pay.Num (pos 0) ∷ [])
              (suc (suc n)) (places + 1) done;
        } in
        record {
          t = pay.Ref at;
          places = places + 1;
          is = subst (IsPoint strict root)
              (set_made strict after 1 (to_promise first) (pay.Num (pos 0))
              (ap (λ l. get_or l 1 (to_task [])) (sym (append-nil (refs (suc i)))) ∙ first_at (suc i) [] (to_task [])))
              (asks (forking size limit i (p_is_q ∷ tail_statements) t (suc (left zero n)) places) (answer.Local at)
              is refl);
        }

    loop : (j i k n : ℕ) (q t : Pay) (places : ℕ) → suc i + j ≡ k
        → IsPoint strict root (promising size limit i (fork_node (suc i) ∷ p_is_q ∷ more (suc i) j) q t
        (suc (suc (left j n))) places)
        → HasSet k n
    loop zero i k n q t places e is =
        let same : suc i ≡ k = omega arith in
        subst (λ m. HasSet m n) same
        (set_step i t n (places + 1) (fork_step i (p_is_q ∷ more (suc i) zero) q t (suc (left zero n)) places is))
    loop (suc j) i k n q t places e is =
        loop j (suc i) k n (pay.Ref (length (refs i))) (pay.Ref (length (refs i ++ to_promise (promised i) ∷ [])))
        (places + 1 + 1) (omega arith)
        (new_step i (fork_node (suc (suc i)) ∷ p_is_q ∷ more (suc (suc i)) j) t (suc (suc (left j n))) (places + 1)
        (fork_step i (p_is_q ∷ more (suc i) (suc j)) q t (suc (left (suc j) n)) places is))

    -- main where it has asked for its first promise, before the statements of its steps
    abbrev made_first : List Statement → ℕ → Point TaskState
    made_first rest n = record {
      name = [];
      body = state size limit (let_p ∷ let_q ∷ let_t ∷ rest) zeros (suc (suc (suc n))) 1 (place (Some 0));
      stage = stage.Answered (answer.Local 1);
      references = refs 0;
      holds = first ∷ [];
      made = 1;
      promises = first ∷ [];
      children = [];
      writes = [];
      prints = [];
      owed = [];
    }

    begin_step : (rest : List Statement) (n : ℕ)
        → IsPoint strict root (start (root_task (first_body size limit rest (suc (suc (suc (suc n)))))))
        → IsPoint strict root (made_first rest n)
    begin_step rest n is =
        asks (start (root_task (first_body size limit rest (suc (suc (suc (suc n))))))) answer.Start is refl

    first_step : (rest : List Statement) (n : ℕ) → IsPoint strict root (made_first (new_q ∷ rest) (suc n))
        → IsPoint strict root (promising size limit 0 rest (pay.Num (pos 0)) (pay.Num (pos 0)) n 2)
    first_step rest n is = asks (made_first (new_q ∷ rest) (suc n)) (answer.Local 1) is refl

    -- main from its start on
    pub sets : (j n : ℕ) → size ≡ suc j → limit ≡ suc (suc (suc (suc (left size n))))
        → root ≡ task_of (generated_script size) limit (main_task size) []
        → IsPoint strict root (start (root_task root)) → HasSet size n
    sets j n e l r is =
        let same : root ≡ first_body size limit (more 0 size) (suc (suc (suc (suc (left size n))))) =
        r ∙ root_is size limit (suc (suc (suc (suc (left size n))))) l in
        let more_is : more 0 size ≡ new_q ∷ fork_node 1 ∷ p_is_q ∷ more 1 j = ap (more 0) e in
        let left_is : left size n ≡ suc (suc (suc (left j n))) = ap (λ k. left k n) e in
        let starts = subst (λ b. IsPoint strict root (start (root_task b))) same is in
        let begun = begin_step (more 0 size) (left size n) starts in
        loop j 0 size n (pay.Num (pos 0)) (pay.Num (pos 0)) 2 (omega arith)
        (first_step (fork_node 1 ∷ p_is_q ∷ more 1 j) (suc (suc (left j n)))
        (subst (λ (l : List Statement × ℕ). IsPoint strict root (made_first l.0 l.1))
        (λ i. (more_is i, left_is i)) begun))

    -- main from its last promise's get on
    pub get_step : (k n : ℕ) (s : HasSet k n) → IsPoint strict root (behind size limit k (print_v ∷ return_v ∷ []) s.t
        (pay.Num (pos 0)) (suc n) (s.places + 0) (cell (Some 4)) (stage.Waits (last_promise k) false) [])
    get_step k n s =
        let before = behind size limit k (let_v ∷ print_v ∷ return_v ∷ []) s.t (pay.Num (pos 0)) (suc (suc n)) s.places
        done (stage.Answered answer.Done) [] in
        let after = record before {
          body = state size limit (print_v ∷ return_v ∷ [])
              (pay.Ref 1 ∷ pay.Ref (last_place k) ∷ pay.Ref (last_place k) ∷ s.t ∷ pay.Num (pos 0) ∷ [])
              (suc n) (s.places + 0) (cell (Some 4));
        } in
        subst (IsPoint strict root)
        (get_made strict after (last_place k) (to_promise (last_promise k))
        (ap (λ l. get_or l (last_place k) (to_task [])) (sym (append-nil (refs k))) ∙ last_at k [] (to_task [])))
        (asks before answer.Done s.is refl)

    print_step : (k n : ℕ) (v : ℤ) (t : Pay) (places : ℕ)
        → IsPoint strict root (behind size limit k (print_v ∷ return_v ∷ []) t (pay.Num (pos 0)) (suc n) places
        (cell (Some 4)) (stage.Answered (answer.Num v)) [])
        → IsPoint strict root (behind size limit k (return_v ∷ []) t (pay.Num v) n (places + 0) done
        (stage.Answered answer.Done) (v ∷ []))
    print_step k n v t places is =
        asks (behind size limit k (print_v ∷ return_v ∷ []) t (pay.Num (pos 0)) (suc n) places (cell (Some 4))
        (stage.Answered (answer.Num v)) []) (answer.Num v) is refl

    -- main at its stop, where n statements may still begin at the last one
    pub ends : (k m : ℕ) (t : Pay) (places : ℕ)
        → IsPoint strict root (behind size limit k (return_v ∷ []) t (pay.Num (pos (sum_to k))) (suc m) places done
        (stage.Answered answer.Done) (pos (sum_to k) ∷ []))
        → IsPoint strict root (main_stopped size limit k t [] m (places + 0) (close.Done (value.Num (pos (sum_to k))))
        (entry.Value (value.Num (pos (sum_to k)))))
    ends k m t places is =
        asks (behind size limit k (return_v ∷ []) t (pay.Num (pos (sum_to k))) (suc m) places done
        (stage.Answered answer.Done) (pos (sum_to k) ∷ [])) answer.Done is refl

    pub fails : (k : ℕ) (t : Pay) (places : ℕ)
        → IsPoint strict root (behind size limit k (return_v ∷ []) t (pay.Num (pos (sum_to k))) 0 places done
        (stage.Answered answer.Done) (pos (sum_to k) ∷ []))
        → IsPoint strict root (main_stopped size limit k t [] 0 (places + 0) (close.Failed cause.Steps) entry.Broken)
    fails k t places is =
        asks (behind size limit k (return_v ∷ []) t (pay.Num (pos (sum_to k))) 0 places done
        (stage.Answered answer.Done) (pos (sum_to k) ∷ [])) answer.Done is refl

    -- main has printed, where n statements may begin after its print
    pub prints : (k n : ℕ) (s : HasSet k n) → PointsRead (program strict root)
        → Becomes (program strict root) (last_promise k) (entry.Value (value.Num (pos (sum_to k))))
        → IsPoint strict root (behind size limit k (return_v ∷ []) s.t (pay.Num (pos (sum_to k))) n
        (s.places + 0 + 0) done (stage.Answered answer.Done) (pos (sum_to k) ∷ []))
    prints k n s reads becomes =
        print_step k n (pos (sum_to k)) s.t (s.places + 0)
        (reads (behind size limit k (print_v ∷ return_v ∷ []) s.t (pay.Num (pos 0)) (suc n) (s.places + 0)
        (cell (Some 4)) (stage.Waits (last_promise k) false) []) (last_promise k) false
        (entry.Value (value.Num (pos (sum_to k))))
        (get_step k n s) refl becomes)
