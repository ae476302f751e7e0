-- How a task runs on, ask by ask: what is left of its asks, and what is known of it at each of them.
use Rattle.tj_run.proofs.Prelude.{Bool, Finish, GoesOn, IsClosing, IsRunning, IsWaiting, Next, Program, Rec, View}
use Rattle.tj_run.proofs.Prelude.{arith, subst, suc, sym, ℕ, ⊎_elim, ◌<◌, ◌≡◌, ◌⊎◌}
use Rattle.tj_run.specs.Inner.Going.{Stops}
use Rattle.tj_run.specs.declared.next.Next.TheVariants as next

-- how many asks a task may still give before it stops, and one more
abbrev pub asks_left : {B : Type 0} → (B → ℕ) → Next → Rec B → ℕ
asks_left left next.Runs r = suc (left r.body)
asks_left left (next.Waits k spare) r = 0
asks_left left (next.Ends f) r = 0

-- an ask is one fewer
pub one_fewer : {B : Type 0} (left : B → ℕ) (before n : Next) (r r' : Rec B) → before ≡ next.Runs
    → Stops n ⊎ (left r'.body < left r.body)
    → asks_left left n r' < asks_left left before r
one_fewer left before n r r' e h = subst (λ z. asks_left left n r' < asks_left left z r) (sym e) (by n h)
  where
    by : (n : Next) → Stops n ⊎ (left r'.body < left r.body) → asks_left left n r' < suc (left r.body)
    by next.Runs h = ⊎_elim (λ s. absurd s) (λ l. omega arith) h
    by (next.Waits k spare) h = omega arith
    by (next.Ends f) h = omega arith

module _ {B : Type 0} (program : Program B) (n : Next) (r : Rec B) (v : View B) (h : GoesOn program n r v) where
  pub runs_here : n ≡ next.Runs → IsRunning program v r
  runs_here e = subst (λ z. GoesOn program z r v) e h

  pub waits_here : (k : ℕ) (spare : Bool) → n ≡ next.Waits k spare → IsWaiting program v r k spare
  waits_here k spare e = subst (λ z. GoesOn program z r v) e h

  pub ends_here : (f : Finish) → n ≡ next.Ends f → IsClosing program v r f
  ends_here f e = subst (λ z. GoesOn program z r v) e h
