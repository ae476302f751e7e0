-- The laws of one ask, for a task as a body: each ask is tested, so they hold whatever the task asks.
use Rattle.std.proofs.Common.{◌≡◌, ◌≤◌, ◌<◌, ◌^◌, ℕ, zero, suc, ◌+◌, ◌-◌, ◌⊎◌, inl, inr, Bool, true, false}
use Rattle.std.proofs.Common.{nat_lt, nat_le, ◌&&◌, ◌||◌, cond, List, [], ◌∷◌, length, refl, arith, leb-true, ltb-true}
use Rattle.std.specs.Prelude.{Option, Some, None, min}
use Rattle.std.specs.List.{AllByRecursion}
use Rattle.std.specs.Cmp.{first_so, second_so}
use Rattle.tj_base.specs.declared.value.Pay.{Pay}
use Rattle.tj_base.specs.declared.value.Pay.TheVariants as pay
use Rattle.tj_base.specs.declared.cause.Trouble.TheVariants as trouble
use Rattle.tj_body.specs.Asks.{AwaitsNothing, awaited, new_places, most_passed, Ends, IsPaid, IsPlaced, Obeys}
use Rattle.tj_body.specs.Table.{are_below, is_paid}
use Rattle.tj_body.specs.declared.ask.Answer.{Answer}
use Rattle.tj_body.specs.declared.ask.Ask.{Ask}
use Rattle.tj_task.specs.Asked.{due_await, can_fork, fresh_body, ask_of, due_of, is_last, is_placed, given, fails}
use Rattle.tj_task.specs.Asked.{asked_within, told_of}
use Rattle.tj_task.specs.TaskBodies.{task_places, task_awaits, task_left, turn_of, asked, task_asks, task_then}
use Rattle.tj_task.specs.declared.body.Asked.{Asked}
use Rattle.tj_task.specs.declared.body.TaskBody.{TaskBody}
use Rattle.tj_task.specs.declared.turn.Told.{Told}
use Rattle.tj_task.specs.declared.turn.Turn.{Turn}
use Rattle.tj_task.specs.declared.turn.Turn.TheVariants as turn

below : (n : ℕ) (ks : List ℕ) → are_below n ks ≡ true → AllByRecursion (λ k. k < n) ks
below n [] e = tt
below n (k ∷ ks) e = let l = nat_lt k n in
    (ltb-true k n (first_so l (are_below n ks) e), below n ks (second_so l (are_below n ks) e))

paid : (n : ℕ) (v : Pay) → is_paid n v ≡ true → IsPaid n v
paid n (pay.Num i) e = tt
paid n (pay.Ref k) e = ltb-true k n e

pub either_so : {E : Type 0} (last : Bool) (left : ℕ) → (last ≡ true → E) → (last || nat_lt 0 left) ≡ true
    → E ⊎ (0 < left)
either_so true left e h = inl (e refl)
either_so false left e h = inr (ltb-true 0 left h)

module _ {T : Type 0} where
  pub awaits_after : (most : ℕ) (x : Turn T) → due_await (due_of x) ≡ awaited (ask_of most x)
  awaits_after most (turn.New t) = refl
  awaits_after most (turn.Fork c t) = refl
  awaits_after most (turn.ForkWith c pass hand t) = refl
  awaits_after most (turn.Set p v t) = refl
  awaits_after most (turn.Get p t) = refl
  awaits_after most (turn.Join c t) = refl
  awaits_after most (turn.GetOr p t) = refl
  awaits_after most (turn.JoinOr c t) = refl
  awaits_after most (turn.Emit i t) = refl
  awaits_after most (turn.End v) = refl
  awaits_after most (turn.Fail y) = refl

  pub ends_if : (most : ℕ) (x : Turn T) → is_last x ≡ true → Ends (ask_of most x)
  ends_if most (turn.End v) e = tt
  ends_if most (turn.Fail y) e = tt
  ends_if most x e = absurd (cc e)

  pub placed_if : (n most : ℕ) (x : Turn T) → is_placed n x ≡ true
      → IsPlaced task_places task_awaits task_left n (ask_of most x)
  placed_if n most (turn.New t) e = tt
  placed_if n most (turn.Fork c t) e = record {
    passed = tt;
    handed = tt;
    few = omega arith;
    fresh = record { has_places = refl; begins = refl; ends = omega arith };
  }
  placed_if n most (turn.ForkWith c pass hand t) e =
      let p = are_below n pass in let o = are_below n hand in let f = nat_le (length pass) most_passed in record {
        passed = below n pass (first_so p o (first_so (p && o) f e));
        handed = below n hand (second_so p o (first_so (p && o) f e));
        few = leb-true (length pass) most_passed (second_so (p && o) f e);
        fresh = record { has_places = refl; begins = refl; ends = omega arith };
      }
  placed_if n most (turn.Set p v t) e = let l = nat_lt p.place n in let y = is_paid n v in
      (ltb-true p.place n (first_so l y e), paid n v (second_so l y e))
  placed_if n most (turn.Get p t) e = ltb-true p.place n e
  placed_if n most (turn.Join c t) e = ltb-true c.place n e
  placed_if n most (turn.GetOr p t) e = ltb-true p.place n e
  placed_if n most (turn.JoinOr c t) e = ltb-true c.place n e
  placed_if n most (turn.Emit i t) e = tt
  placed_if n most (turn.End v) e = paid n v e
  placed_if n most (turn.Fail y) e = tt

  -- what an ask of a task with n places owes, where the task could ask so often before its last ask
  record Owes (left n : ℕ) (x : Asked T) : Type 0 where
    falls : AwaitsNothing (awaited x.ask) ⊎ (left - 1 < left)
    awaits : due_await x.due ≡ awaited x.ask
    placed : IsPlaced task_places task_awaits task_left n x.ask

  tested_owes : (left n most : ℕ) (x : Turn T) (within placed : Bool)
      → (within ≡ true → Ends (ask_of most x) ⊎ (0 < left))
      → (placed ≡ true → IsPlaced task_places task_awaits task_left n (ask_of most x))
      → Owes left n (cond within (cond placed (given most x) (fails trouble.Kind)) (fails trouble.Steps))
  tested_owes left n most x true true w p = record {
    falls = falls_so left (w refl);
    awaits = awaits_after most x;
    placed = p refl;
  }
    where
      falls_so : {E : Type 0} (l : ℕ) → E ⊎ (0 < l) → E ⊎ (l - 1 < l)
      falls_so l (inl e) = inl e
      falls_so l (inr h) = inr (omega (arith, h))
  tested_owes left n most x true false w p = record { falls = inl tt; awaits = refl; placed = tt }
  tested_owes left n most x false placed w p = record { falls = inl tt; awaits = refl; placed = tt }

  -- the laws of one ask
  pub task_obeys : (does : T → Told → Turn T) (b : TaskBody T) (a : Answer)
      → Obeys task_places task_awaits task_left (task_asks does) (task_then does) b a
  task_obeys does b a h = let n = b.places + new_places a in let x = turn_of does b.task (told_of b.due a) in
      let o = tested_owes b.left n b.most x (is_last x || nat_lt 0 b.left) (is_placed n x)
      (either_so (is_last x) b.left (ends_if b.most x)) (placed_if n b.most x) in record {
        falls = o.falls;
        awaits_answer = o.awaits;
        adds_places = refl;
        placed = o.placed;
      }
