-- The act that an ask is: the join noted before the ask is taken, and the fork noted after it.
use Rattle.std.proofs.Common.{◌≡◌, Bool, true, false, cond, not, ◌&&◌, List, [], ◌∷◌, ◌++◌, map, length}
use Rattle.std.proofs.Common.{Option, Result, Ok, Err, refl, ap, ◌∙◌, append_assoc, arith}
use Rattle.std.proofs.lemmas.Option.{slice_get_past}
use Rattle.std.specs.Prelude.{slice_get, is_some}
use Rattle.tj_base.specs.ForkOrder.{Name, before}
use Rattle.tj_base.specs.declared.cause.Cause.{Cause}
use Rattle.tj_base.specs.declared.cause.Cause.TheVariants as cause
use Rattle.tj_base.specs.declared.cell.Sort.{Sort}
use Rattle.tj_base.specs.declared.cell.Sort.TheVariants as sort
use Rattle.tj_body.specs.Names.{has}
use Rattle.tj_body.specs.History.{Assignment, after_ask, after_failure, after_get, after_join, after_set}
use Rattle.tj_body.specs.History.{after_try_fork}
use Rattle.tj_body.specs.History.{after_write, hand_all, next_child, next_name, reference, value_at, with_wait}
use Rattle.tj_body.specs.declared.ask.Ask.{Ask}
use Rattle.tj_body.specs.declared.ask.Ask.TheVariants as ask
use Rattle.tj_body.specs.declared.point.Point.{Point}
use Rattle.tj_body.specs.declared.point.Reference.{Reference}
use Rattle.tj_body.specs.declared.point.Task.{Task}
use Rattle.tj_body.specs.declared.point.Value.{Value}
use Rattle.tj_mean.specs.Acts.{ask_acts, fork_acts, join_acts}
use Rattle.tj_mean.specs.Inner.NotedActs.{fork_noted, forked_since, if_task, join_noted, joined_by}
use Rattle.tj_mean.specs.declared.act.Act.{Act}
use Rattle.tj_mean.specs.declared.act.Act.TheVariants as act
use Rattle.tj_mean.proofs.Lists.Ends.{get_last}

-- a join of a task is noted, and one of a promise isn't
joins_noted : (V : Assignment) (s : Sort) (q : Name) (after : List Act) → after ≡ []
    → join_noted V (if_task s q) ++ after ≡ join_acts V s q
joins_noted V sort.Task q after e = ap (λ l. act.Join q (is_some (V q)) ∷ l) e
joins_noted V sort.Promise q after e = e

module _ {B : Type 0} where
  -- where no child was added no fork is noted
  none_noted : (p p' : Point B) → p'.children ≡ p.children → forked_since (length p.children) p' ≡ []
  none_noted p p' e =
      ap (λ (l : List (Task B)). fork_noted (slice_get l (length p.children))) e
      ∙ ap (λ (o : Option (Task B)). fork_noted o)
      (slice_get_past p.children (length p.children) (omega arith))

  -- a fork is noted where it is made
  tries_noted : (b : B) (passed : List Reference) (handed : List Name) (o : Result (List Name) Cause) (p : Point B)
      → forked_since (length p.children) (after_try_fork b passed handed o p) ≡ fork_acts (next_name p) o
  tries_noted b passed handed (Ok left) p =
      ap (λ (o : Option (Task B)). fork_noted o) (get_last p.children (next_child b passed handed p))
  tries_noted b passed handed (Err c) p = none_noted p (after_failure c p) refl

  -- the other asks leave the children as they are
  set_keeps : (s : Sort) (q : Name) (v : Value) (p : Point B) → (after_set s q v p).children ≡ p.children
  set_keeps sort.Task q v p = refl
  set_keeps sort.Promise q v p = by (has q p.holds) where
    by : (b : Bool) → (cond b (after_write q v p) (after_failure (cause.Owner q) p)).children ≡ p.children
    by true = refl
    by false = refl

  get_keeps : (spare : Bool) (s : Sort) (q : Name) (p : Point B) → (after_get spare s q p).children ≡ p.children
  get_keeps spare sort.Task q p = refl
  get_keeps spare sort.Promise q p = refl

  join_keeps : (strict spare : Bool) (s : Sort) (q : Name) (p : Point B)
      → (after_join strict spare s q p).children ≡ p.children
  join_keeps strict spare sort.Promise q p = refl
  join_keeps strict spare sort.Task q p = by (strict && not (before p.name q)) where
    by : (b : Bool) → (cond b (after_failure (cause.Order q) p) (with_wait spare q p)).children ≡ p.children
    by true = refl
    by false = refl

  -- so what is noted is the act that the ask is
  pub asks_noted : (strict : Bool) (V : Assignment) (a : Ask B) (p : Point B)
      → join_noted V (joined_by p a) ++ forked_since (length p.children) (after_ask strict a p) ≡ ask_acts V a p
  asks_noted strict V ask.New p = none_noted p (after_ask strict ask.New p) refl
  asks_noted strict V (ask.Fork b pass hand) p =
      tries_noted b (map (reference p) pass) (map (λ k. (reference p k).name) hand)
      (hand_all p.holds (map (reference p) hand)) p
  asks_noted strict V (ask.Set k v) p =
      none_noted p (after_ask strict (ask.Set k v) p)
      (set_keeps (reference p k).sort (reference p k).name (value_at p.name p.references v) p)
  asks_noted strict V (ask.Get k) p =
      none_noted p (after_ask strict (ask.Get k) p) (get_keeps false (reference p k).sort (reference p k).name p)
  asks_noted strict V (ask.Join k) p =
      joins_noted V (reference p k).sort (reference p k).name _
      (none_noted p (after_ask strict (ask.Join k) p)
      (join_keeps strict false (reference p k).sort (reference p k).name p))
  asks_noted strict V (ask.GetOr k) p =
      none_noted p (after_ask strict (ask.GetOr k) p) (get_keeps true (reference p k).sort (reference p k).name p)
  asks_noted strict V (ask.JoinOr k) p =
      joins_noted V (reference p k).sort (reference p k).name _
      (none_noted p (after_ask strict (ask.JoinOr k) p)
      (join_keeps strict true (reference p k).sort (reference p k).name p))
  asks_noted strict V (ask.Emit i) p = none_noted p (after_ask strict (ask.Emit i) p) refl
  asks_noted strict V (ask.End v) p = none_noted p (after_ask strict (ask.End v) p) refl
  asks_noted strict V (ask.Fail t) p = none_noted p (after_ask strict (ask.Fail t) p) refl

  -- the act doesn't depend on the body
  pub other_body : (V : Assignment) (a : Ask B) (p : Point B) (b : B)
      → ask_acts V a (record p { body = b }) ≡ ask_acts V a p
  other_body V ask.New p b = refl
  other_body V a p b = refl

  -- what is noted at an ask is added to the acts so far
  pub acts_noted : (strict : Bool) (V : Assignment) (p : Point B) (b : B) (a q : Ask B) (joined : Option Name)
      (children : List (Task B)) (p' : Point B) (old with_join : List Act) → q ≡ a
      → joined ≡ joined_by (record p { body = b }) q → children ≡ p.children
      → p' ≡ after_ask strict q (record p { body = b }) → with_join ≡ old ++ join_noted V joined
      → with_join ++ forked_since (length children) p' ≡ old ++ ask_acts V a p
  acts_noted strict V p b a q joined children p' old with_join asked by_join there taken noted =
      let next : Point B = record p { body = b } in
      let forked = forked_since (length children) p' in
      ap (λ l. l ++ forked) noted ∙ append_assoc old (join_noted V joined) forked
      ∙ ap (λ j. old ++ (join_noted V j ++ forked)) by_join
      ∙ ap (λ z. old ++ (join_noted V (joined_by next q) ++ forked_since (length children) z)) taken
      ∙ ap (λ (l : List (Task B)). old ++ (join_noted V (joined_by next q)
      ++ forked_since (length l) (after_ask strict q next))) there
      ∙ ap (λ l. old ++ l) (asks_noted strict V q next)
      ∙ ap (λ z. old ++ ask_acts V z next) asked
      ∙ ap (λ l. old ++ l) (other_body V a p b)
