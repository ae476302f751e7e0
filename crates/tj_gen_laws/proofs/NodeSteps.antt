-- From each point of a node of the generated script to the next. It gets the promise before its own, sets its own to
-- the value with its number added, and ends with its number.
use Rattle.std.proofs.Common.{ℕ, zero, suc, ◌≡◌, ◌≤◌, ◌<◌, pos, Bool, true, false, [], ◌∷◌, None, Some, Ok, refl, ap}
use Rattle.std.proofs.Common.{subst, arith, cond, ◌||◌}
use Rattle.std.specs.Prelude.{◌*◌, if◌then◌else◌, Err}
use Rattle.tj_base.specs.declared.value.Pay.TheVariants as pay
use Rattle.tj_base.specs.declared.cause.Trouble.TheVariants as trouble
use Rattle.tj_body.specs.History.{start, after_ask, after_failure}
use Rattle.tj_body.specs.RoundPoints.{PointsAsk, PointsRead, Becomes}
use Rattle.tj_body.specs.declared.ask.Answer.TheVariants as answer
use Rattle.tj_base.specs.declared.cause.Cause.TheVariants as cause
use Rattle.tj_body.specs.declared.ask.Ask.{Ask}
use Rattle.tj_body.specs.declared.ask.Ask.TheVariants as ask
use Rattle.tj_body.specs.declared.point.Entry.TheVariants as entry
use Rattle.tj_body.specs.declared.point.Value.TheVariants as value
use Rattle.tj_body.specs.declared.point.PointStage.TheVariants as stage
use Rattle.tj_body.proofs.Counts.{same_self}
use Rattle.tj_syntax.specs.declared.expr.Op.TheVariants as op
use Rattle.tj_syntax.specs.declared.expr.RefOf.TheVariants as ref
use Rattle.tj_syntax.specs.Trees as tree
use Rattle.tj_syntax.specs.Trees.{Statement}
use Rattle.tj_eval.specs.Expressions.{is_i64, with_number}
use Rattle.tj_eval.specs.Statements.{TaskState, asks as asks_for, cell, done, next, next_ask, next_from}
use Rattle.tj_eval.specs.Statements.{start as begin, then_effect}
use Rattle.tj_gen_laws.proofs.MainPoints.{last_promise, node, node_at, node_stopped, promised, sum_to}
use Rattle.tj_gen_laws.proofs.MainSteps.{IsPoint, program}

abbrev let_v : Statement
let_v = tree.let_new 3 (tree.answer (tree.get (ref.Var 1) None))

abbrev set_q : Statement
set_q = tree.set_cell 2 (tree.chain (tree.variable 3) (tree.pair op.Plus (tree.variable 0) tree.no_pairs))

abbrev return_i : Statement
return_i = tree.return (tree.variable 0)

-- the sums are numbers of 64 bits
sum_small : (i : ℕ) → i ≤ 4000 → sum_to i ≤ 4000 * i
sum_small zero h = omega arith
sum_small (suc i) h = let r = sum_small i (omega arith) in omega arith

sum_fits : (i : ℕ) → i ≤ 4000 → is_i64 (pos (sum_to i)) ≡ true
sum_fits i h = let r = sum_small i h in grind arith

module _ (size limit : ℕ) (strict : Bool) (root : TaskState) (asks : PointsAsk (program strict root))
    (reads : PointsRead (program strict root)) where
  get_step : (i n : ℕ) → limit ≡ suc n → IsPoint strict root (start (node size limit i))
      → IsPoint strict root (node_at size limit i (set_q ∷ return_i ∷ []) (pay.Num (pos 0)) n 3
      (cell (Some 3)) (stage.Waits (last_promise i) false) (promised i ∷ []) [])
  get_step i n l is =
      let begun = node_at size limit i (let_v ∷ set_q ∷ return_i ∷ []) (pay.Num (pos 0)) (suc n) 3 begin
      (stage.Answered answer.Start) (promised i ∷ []) [] in
      asks begun answer.Start
      (subst (λ k. IsPoint strict root (node_at size limit i (let_v ∷ set_q ∷ return_i ∷ [])
      (pay.Num (pos 0)) k 3 begin (stage.Answered answer.Start) (promised i ∷ []) [])) l is) refl

  set_step : (i n : ℕ) → i < 4000 → IsPoint strict root (node_at size limit i (set_q ∷ return_i ∷ [])
      (pay.Num (pos 0)) (suc n) 3 (cell (Some 3)) (stage.Answered (answer.Num (pos (sum_to i)))) (promised i ∷ []) [])
      → IsPoint strict root (node_at size limit i (return_i ∷ []) (pay.Num (pos (sum_to i))) n 3 done
      (stage.Answered answer.Done) [] ((promised i, entry.Value (value.Num (pos (sum_to (suc i))))) ∷ []))
  set_step i n h is =
      let sum = pos (sum_to (suc i)) in
      let before = node_at size limit i (set_q ∷ return_i ∷ []) (pay.Num (pos 0)) (suc n) 3 (cell (Some 3))
      (stage.Answered (answer.Num (pos (sum_to i)))) (promised i ∷ []) [] in
      let on = (node_at size limit i (return_i ∷ []) (pay.Num (pos (sum_to i))) n 3 (cell (Some 3))
      before.stage (promised i ∷ []) []).body in
      let after = record on { due = done } in
      let fits : is_i64 sum ≡ true = sum_fits (suc i) (omega arith) in
      let asked : next before.body (answer.Num (pos (sum_to i))) ≡ (ask.Set 2 (pay.Num sum), after) =
      ap (λ (b : Bool). next_from on (then_effect
      (with_number (if b then Ok (pay.Num sum) else Err trouble.Arith) (λ r. Ok (pay.Num r)))
      (λ v. asks_for (ask.Set 2 v) after)) (next_ask n)) fits in
      let set_it = asks before (answer.Num (pos (sum_to i))) is refl in
      let own = same_self (promised i) in
      subst (λ (b : Bool). IsPoint strict root
      (cond (b || false) (record before {
        body = after;
        stage = stage.Answered answer.Done;
        holds = cond b [] (promised i ∷ []);
        writes = (promised i, entry.Value (value.Num sum)) ∷ [];
      })
      (after_failure (cause.Owner (promised i)) (record before { body = after })))) own
      (subst (λ (x : Ask TaskState × TaskState). IsPoint strict root
      (after_ask strict x.0 (record before { body = x.1 }))) asked set_it)

  return_step : (i n : ℕ) → IsPoint strict root (node_at size limit i (return_i ∷ []) (pay.Num (pos (sum_to i)))
      (suc n) 3 done (stage.Answered answer.Done) []
      ((promised i, entry.Value (value.Num (pos (sum_to (suc i))))) ∷ []))
      → IsPoint strict root (node_stopped size limit i n 3)
  return_step i n is =
      asks (node_at size limit i (return_i ∷ []) (pay.Num (pos (sum_to i))) (suc n) 3 done
      (stage.Answered answer.Done) [] ((promised i, entry.Value (value.Num (pos (sum_to (suc i))))) ∷ []))
      answer.Done is refl

  -- a node comes to its stop once the promise before its own has its value
  pub node_stops : (i n : ℕ) → i < 4000 → limit ≡ suc (suc (suc n)) → IsPoint strict root (start (node size limit i))
      → Becomes (program strict root) (last_promise i) (entry.Value (value.Num (pos (sum_to i))))
      → IsPoint strict root (node_stopped size limit i n 3)
  node_stops i n h l is becomes =
      return_step i n (set_step i (suc n) h
      (reads (node_at size limit i (set_q ∷ return_i ∷ []) (pay.Num (pos 0)) (suc (suc n)) 3
      (cell (Some 3)) (stage.Waits (last_promise i) false) (promised i ∷ []) []) (last_promise i) false
      (entry.Value (value.Num (pos (sum_to i)))) (get_step i (suc (suc n)) l is) refl becomes))
