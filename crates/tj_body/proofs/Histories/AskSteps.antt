-- Each ask is a step of a point.
use Rattle.std.proofs.Common.{◌≡◌, ℕ, Bool, true, false, not, ◌&&◌, List, map, Result, Ok, Err, cond, refl}
use Rattle.tj_base.specs.ForkOrder.{Name, before}
use Rattle.tj_base.specs.declared.cell.Sort.{Sort}
use Rattle.tj_base.specs.declared.cell.Sort.TheVariants as sort
use Rattle.tj_base.specs.declared.value.Pay.{Pay}
use Rattle.tj_base.specs.declared.cause.Cause.{Cause}
use Rattle.tj_base.specs.declared.cause.Cause.TheVariants as cause
use Rattle.tj_body.specs.Names.{has}
use Rattle.tj_body.specs.History.{value_at, reference, hand_all, cause_of, after_failure, after_try_fork, after_write}
use Rattle.tj_body.specs.History.{after_set, with_wait, after_get, after_join, after_ask}
use Rattle.tj_body.specs.Inner.AskSteps.{get_of, join_of, IsAskStep, fails, ends, makes, forks, sets, gets, joins, prints}
use Rattle.tj_body.specs.declared.ask.Ask.{Ask}
use Rattle.tj_body.specs.declared.ask.Ask.TheVariants as ask
use Rattle.tj_body.specs.declared.point.Point.{Point}

module _ {B : Type 0} (strict : Bool) (p : Point B) where
  forked : (b : B) (pass hand : List ℕ) (l : Result (List Name) Cause) → hand_all p.holds (map (reference p) hand) ≡ l
      → IsAskStep strict p (ask.Fork b pass hand)
      (after_try_fork b (map (reference p) pass) (map (λ k. (reference p k).name) hand) l p)
  forked b pass hand (Ok left) e = forks b pass hand left e
  forked b pass hand (Err c) e = fails (ask.Fork b pass hand) c

  set : (k : ℕ) (v : Pay) (s : Sort) → (reference p k).sort ≡ s
      → IsAskStep strict p (ask.Set k v) (after_set s (reference p k).name (value_at p.name p.references v) p)
  set k v sort.Task e = fails (ask.Set k v) cause.Kind
  set k v sort.Promise e = by_owned (has (reference p k).name p.holds) refl where
    by_owned : (b : Bool) → has (reference p k).name p.holds ≡ b
        → IsAskStep strict p (ask.Set k v) (cond b (after_write (reference p k).name (value_at p.name p.references v) p)
        (after_failure (cause.Owner (reference p k).name) p))
    by_owned true h = sets k v e h
    by_owned false h = fails (ask.Set k v) (cause.Owner (reference p k).name)

  got : (spare : Bool) (k : ℕ) (s : Sort) → (reference p k).sort ≡ s
      → IsAskStep strict p (get_of spare k) (after_get spare s (reference p k).name p)
  got spare k sort.Task e = fails (get_of spare k) cause.Kind
  got spare k sort.Promise e = gets spare k e

  joined : (spare : Bool) (k : ℕ) (s : Sort) → (reference p k).sort ≡ s
      → IsAskStep strict p (join_of spare k) (after_join strict spare s (reference p k).name p)
  joined spare k sort.Promise e = fails (join_of spare k) cause.Kind
  joined spare k sort.Task e = by_order (strict && not (before p.name (reference p k).name)) refl where
    by_order : (b : Bool) → (strict && not (before p.name (reference p k).name)) ≡ b
        → IsAskStep strict p (join_of spare k) (cond b (after_failure (cause.Order (reference p k).name) p)
        (with_wait spare (reference p k).name p))
    by_order true h = fails (join_of spare k) (cause.Order (reference p k).name)
    by_order false h = joins spare k e h

  -- each ask is a step
  pub is_ask_step : (a : Ask B) → IsAskStep strict p a (after_ask strict a p)
  is_ask_step ask.New = makes
  is_ask_step (ask.Fork b pass hand) = forked b pass hand (hand_all p.holds (map (reference p) hand)) refl
  is_ask_step (ask.Set k v) = set k v (reference p k).sort refl
  is_ask_step (ask.Get k) = got false k (reference p k).sort refl
  is_ask_step (ask.GetOr k) = got true k (reference p k).sort refl
  is_ask_step (ask.Join k) = joined false k (reference p k).sort refl
  is_ask_step (ask.JoinOr k) = joined true k (reference p k).sort refl
  is_ask_step (ask.Emit i) = prints i
  is_ask_step (ask.End v) = ends v
  is_ask_step (ask.Fail t) = fails (ask.Fail t) (cause_of t)
