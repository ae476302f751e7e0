-- What a task asks, against the laws of one ask.
use Rattle.std.proofs.Common.{◌≡◌, ◌<◌, ◌≤◌, ◌+◌, ◌⊎◌, inl, inr, ℕ, Bool, true, false, nat_lt, nat_le, ◌&&◌, ◌||◌, cond}
use Rattle.std.proofs.Common.{Option, Some, List, [], ◌∷◌, length, refl, ap, ◌∙◌, arith, lt-ltb, leb-false}
use Rattle.std.specs.List.{AllByRecursion}
use Rattle.tj_base.specs.declared.cause.Trouble.TheVariants as trouble
use Rattle.tj_base.specs.declared.value.Pay.{Pay}
use Rattle.tj_base.specs.declared.value.Pay.TheVariants as pay
use Rattle.tj_body.specs.Asks.{Ends, IsPaid, IsPlaced, most_passed, new_places}
use Rattle.tj_body.specs.Table.{are_below, is_paid}
use Rattle.tj_body.specs.declared.ask.Answer.{Answer}
use Rattle.tj_body.specs.declared.ask.Ask.TheVariants as ask
use Rattle.tj_task.specs.Asked.{ask_of, then_of, told_of, is_last, is_placed, given, fails, asked_within}
use Rattle.tj_task.specs.Inner.TaskLaws.{either_so, ends_if, placed_if}
use Rattle.tj_task.specs.TaskAsks.{HoldsOfTurns, GivesLawful, FailsUnlawful, FailsBeyond}
use Rattle.tj_task.specs.TaskBodies.{task_places, task_awaits, task_left, task_asks, task_then, turn_of, asked}
use Rattle.tj_task.specs.declared.body.Asked.{Asked}
use Rattle.tj_task.specs.declared.body.TaskBody.{TaskBody}
use Rattle.tj_task.specs.declared.turn.Told.{Told}
use Rattle.tj_task.specs.declared.turn.Turn.{Turn}
use Rattle.tj_task.specs.declared.turn.Turn.TheVariants as turn

both : (a b : Bool) → a ≡ true → b ≡ true → (a && b) ≡ true
both true true e f = refl
both true false e f = f
both false b e f = e

not_so : (b : Bool) → ¬ (b ≡ true) → b ≡ false
not_so true h = absurd (h refl)
not_so false h = refl

le_so : (m n : ℕ) → m ≤ n → nat_le m n ≡ true
le_so m n h = so (nat_le m n) (λ e. omega (arith, leb-false m n e, h))
  where
    so : (b : Bool) → ¬ (b ≡ false) → b ≡ true
    so true f = refl
    so false f = absurd (f refl)

below_so : (n : ℕ) (ks : List ℕ) → AllByRecursion (λ k. k < n) ks → are_below n ks ≡ true
below_so n [] h = refl
below_so n (k ∷ ks) h = both (nat_lt k n) (are_below n ks) (lt-ltb k n h.0) (below_so n ks h.1)

paid_so : (n : ℕ) (v : Pay) → IsPaid n v → is_paid n v ≡ true
paid_so n (pay.Num i) h = refl
paid_so n (pay.Ref k) h = lt-ltb k n h

module _ {T : Type 0} where
  -- what the laws of one ask allow is placed
  placed_so : (n most : ℕ) (x : Turn T) → IsPlaced task_places task_awaits task_left n (ask_of most x)
      → is_placed n x ≡ true
  placed_so n most (turn.New t) h = refl
  placed_so n most (turn.Fork c t) h = refl
  placed_so n most (turn.ForkWith c pass hand t) h =
      both (are_below n pass && are_below n hand) (nat_le (length pass) most_passed)
      (both (are_below n pass) (are_below n hand) (below_so n pass h.passed) (below_so n hand h.handed))
      (le_so (length pass) most_passed h.few)
  placed_so n most (turn.Set p v t) h =
      both (nat_lt p.place n) (is_paid n v) (lt-ltb p.place n h.0) (paid_so n v h.1)
  placed_so n most (turn.Get p t) h = lt-ltb p.place n h
  placed_so n most (turn.Join c t) h = lt-ltb c.place n h
  placed_so n most (turn.GetOr p t) h = lt-ltb p.place n h
  placed_so n most (turn.JoinOr c t) h = lt-ltb c.place n h
  placed_so n most (turn.Emit i t) h = refl
  placed_so n most (turn.End v) h = paid_so n v h
  placed_so n most (turn.Fail y) h = refl

  -- a last ask is the end or a failure
  last_so : (most : ℕ) (x : Turn T) → Ends (ask_of most x) → is_last x ≡ true
  last_so most (turn.End v) h = refl
  last_so most (turn.Fail y) h = refl
  last_so most (turn.New t) h = absurd h
  last_so most (turn.Fork c t) h = absurd h
  last_so most (turn.ForkWith c pass hand t) h = absurd h
  last_so most (turn.Set p v t) h = absurd h
  last_so most (turn.Get p t) h = absurd h
  last_so most (turn.Join c t) h = absurd h
  last_so most (turn.GetOr p t) h = absurd h
  last_so most (turn.JoinOr c t) h = absurd h
  last_so most (turn.Emit i t) h = absurd h

  -- an ask within the bound passes that test
  within_so : (most left : ℕ) (x : Turn T) → Ends (ask_of most x) ⊎ (0 < left) → (is_last x || nat_lt 0 left) ≡ true
  within_so most left x (inl h) = ap (λ l. l || nat_lt 0 left) (last_so most x h)
  within_so most left x (inr h) = first (is_last x) (nat_lt 0 left) (lt-ltb 0 left h)
    where
      first : (l b : Bool) → b ≡ true → (l || b) ≡ true
      first true b e = refl
      first false b e = e

  -- what is asked by what the two tests say
  abbrev tested : (most : ℕ) → Turn T → Bool → Bool → Asked T
  tested most x within placed = cond within (cond placed (given most x) (fails trouble.Kind)) (fails trouble.Steps)

  -- a turn that the laws allow, within the bound, is given
  given_so : (left n most : ℕ) (x : Turn T) → IsPlaced task_places task_awaits task_left n (ask_of most x)
      → Ends (ask_of most x) ⊎ (0 < left) → asked_within left n most x ≡ given most x
  given_so left n most x h w = ap (λ w. tested most x w (is_placed n x))
      (within_so most left x w) ∙ ap (λ p. tested most x true p) (placed_so n most x h)

  -- one that they don't allow fails, within the bound
  unlawful_so : (left n most : ℕ) (x : Turn T) → ¬ IsPlaced task_places task_awaits task_left n (ask_of most x)
      → Ends (ask_of most x) ⊎ (0 < left) → asked_within left n most x ≡ fails trouble.Kind
  unlawful_so left n most x h w =
      ap (λ w. tested most x w (is_placed n x)) (within_so most left x w)
      ∙ ap (λ p. tested most x true p) (not_so (is_placed n x) (λ e. h (placed_if n most x e)))

  -- and beyond the bound it fails
  beyond_so : (left n most : ℕ) (x : Turn T) → ¬ (Ends (ask_of most x) ⊎ (0 < left))
      → asked_within left n most x ≡ fails trouble.Steps
  beyond_so left n most x h =
      ap (λ w. tested most x w (is_placed n x))
      (not_so (is_last x || nat_lt 0 left) (λ e. h (either_so (is_last x) left (ends_if most x) e)))

  module _ (does : T → Told → Turn T) where
    -- the turn of a task that goes on
    asked_at : (b : TaskBody T) (a : Answer) (t : T) → b.task ≡ Some t → asked does b a
        ≡ asked_within b.left (b.places + new_places a) b.most (does t (told_of b.due a))
    asked_at b a t e =
        ap (λ o. asked_within b.left (b.places + new_places a) b.most (turn_of does o (told_of b.due a))) e

    -- a lawful ask within the bound is given unchanged
    pub lawful : HoldsOfTurns does (GivesLawful does)
    lawful b a t e h w =
        let q = asked_at b a t e ∙ given_so b.left (b.places + new_places a) b.most (does t (told_of b.due a)) h w in
        (ap (λ y. y.ask) q, ap (λ y. y.then) q)

    -- another one fails
    pub unlawful : HoldsOfTurns does (FailsUnlawful does)
    unlawful b a t e h w = ap (λ y. y.ask)
        (asked_at b a t e ∙ unlawful_so b.left (b.places + new_places a) b.most (does t (told_of b.due a)) h w)

    -- and so does one beyond the bound
    pub beyond : HoldsOfTurns does (FailsBeyond does)
    beyond b a t e h = ap (λ y. y.ask)
        (asked_at b a t e ∙ beyond_so b.left (b.places + new_places a) b.most (does t (told_of b.due a)) h)
