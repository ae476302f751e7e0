-- What an ask does to a point.
use Rattle.std.specs.Prelude.{◌≡◌, ℕ, ℤ, Bool, true, false, not, ◌&&◌, List, map, Ok}
use Rattle.tj_base.specs.ForkOrder.{Name, before}
use Rattle.tj_base.specs.declared.cell.Sort.TheVariants as sort
use Rattle.tj_base.specs.declared.value.Pay.{Pay}
use Rattle.tj_base.specs.declared.cause.Cause.{Cause}
use Rattle.tj_body.specs.Names.{has}
use Rattle.tj_body.specs.History.{value_at, reference, hand_all, after_failure, after_end, after_new, after_fork}
use Rattle.tj_body.specs.History.{after_write, with_wait, after_emit}
use Rattle.tj_body.specs.declared.ask.Ask.{Ask}
use Rattle.tj_body.specs.declared.ask.Ask.TheVariants as ask
use Rattle.tj_body.specs.declared.point.Point.{Point}

module _ {B : Type 0} where
  -- the get of a place, where a broken cell is answered and where it isn't
  abbrev pub get_of : Bool → ℕ → Ask B
  get_of true k = ask.GetOr k
  get_of false k = ask.Get k

  -- the join of a place, likewise
  abbrev pub join_of : Bool → ℕ → Ask B
  join_of true k = ask.JoinOr k
  join_of false k = ask.Join k

  -- What an ask makes of a point p: its task fails or ends, makes a promise, forks a child, sets a promise that it
  -- owns, waits for a promise or for a task that it may join, or prints.
  pub data IsAskStep (strict : Bool) (p : Point B) : Ask B → Point B → Type 0 where
    fails : (ask : Ask B) (c : Cause) → IsAskStep strict p ask (after_failure c p)
    ends : (v : Pay) → IsAskStep strict p (ask.End v) (after_end (value_at p.name p.references v) p)
    makes : IsAskStep strict p ask.New (after_new p)
    forks : (b : B) (pass hand : List ℕ) (left : List Name) → hand_all p.holds (map (reference p) hand) ≡ Ok left
        → IsAskStep strict p (ask.Fork b pass hand)
        (after_fork b (map (reference p) pass) (map (λ k. (reference p k).name) hand) left p)
    sets : (k : ℕ) (v : Pay) → (reference p k).sort ≡ sort.Promise → has (reference p k).name p.holds ≡ true
        → IsAskStep strict p (ask.Set k v) (after_write (reference p k).name (value_at p.name p.references v) p)
    gets : (spare : Bool) (k : ℕ) → (reference p k).sort ≡ sort.Promise
        → IsAskStep strict p (get_of spare k) (with_wait spare (reference p k).name p)
    joins : (spare : Bool) (k : ℕ) → (reference p k).sort ≡ sort.Task
        → (strict && not (before p.name (reference p k).name)) ≡ false
        → IsAskStep strict p (join_of spare k) (with_wait spare (reference p k).name p)
    prints : (i : ℤ) → IsAskStep strict p (ask.Emit i) (after_emit i p)
