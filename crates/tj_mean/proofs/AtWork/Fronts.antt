-- What a task does next doesn't hang on what was taken from its point.
use Rattle.std.proofs.Common.{◌≡◌, ◌∙◌, refl, sym, ap, Bool, true, false, cond, not, ◌&&◌, List, [], ◌∷◌, ◌++◌, map}
use Rattle.std.proofs.Common.{append_assoc, Option, Some, None}
use Rattle.std.specs.Prelude.{Result, Ok, Err}
use Rattle.tj_base.specs.ForkOrder.{Name, before}
use Rattle.tj_base.specs.declared.cell.Sort.{Sort}
use Rattle.tj_base.specs.declared.cell.Sort.TheVariants as sort
use Rattle.tj_base.specs.declared.cause.Cause.{Cause}
use Rattle.tj_base.specs.declared.cause.Cause.TheVariants as cause
use Rattle.tj_body.specs.Names.{has, in_order}
use Rattle.tj_body.specs.Programs.{Rules}
use Rattle.tj_body.specs.History.{Assignment, after_close, after_failure, after_try_fork, after_fork, next_child, after_set}
use Rattle.tj_body.specs.History.{after_write, after_get, with_wait, after_join, after_ask, after_read, after_look, after_stage}
use Rattle.tj_body.specs.History.{after_step, with_entry, reference, hand_all, value_at, cause_of}
use Rattle.tj_body.specs.declared.ask.Ask.{Ask}
use Rattle.tj_body.specs.declared.ask.Ask.TheVariants as ask
use Rattle.tj_body.specs.declared.point.Reference.{Reference}
use Rattle.tj_body.specs.declared.point.Value.{Value}
use Rattle.tj_body.specs.declared.point.Value.TheVariants as value
use Rattle.tj_body.specs.declared.point.Entry.{Entry}
use Rattle.tj_body.specs.declared.point.Entry.TheVariants as entry
use Rattle.tj_body.specs.declared.point.Close.{Close}
use Rattle.tj_body.specs.declared.point.Close.TheVariants as close
use Rattle.tj_body.specs.declared.point.PointStage.{PointStage}
use Rattle.tj_body.specs.declared.point.PointStage.TheVariants as stage
use Rattle.tj_body.specs.declared.point.Task.{Task}
use Rattle.tj_body.specs.declared.point.Point.{Point}

-- the point with what was taken from it put back in front
abbrev pub with_front : {B : Type 0} → List (Task B) → List (Name × Entry) → Point B → Point B
with_front children writes p = record p { children = children ++ p.children; writes = writes ++ p.writes }

module _ {B : Type 0} (ks : List (Task B)) (ws : List (Name × Entry)) where
  abbrev front : Point B → Point B
  front p = with_front ks ws p

  front-close : (e : Close) (r : Entry) (p : Point B) → after_close e r (front p) ≡ front (after_close e r p)
  front-close e r p = ap (λ w. record (front (after_close e r p)) { writes = w })
      (append_assoc ws p.writes ((p.name, r) ∷ map (with_entry entry.Broken) (in_order p.holds)))

  front-failure : (c : Cause) (p : Point B) → after_failure c (front p) ≡ front (after_failure c p)
  front-failure c p = front-close (close.Failed c) entry.Broken p

  front-fork : (b : B) (passed : List Reference) (handed : List Name) (left : Result (List Name) Cause) (p : Point B)
      → after_try_fork b passed handed left (front p) ≡ front (after_try_fork b passed handed left p)
  front-fork b passed handed (Ok left) p = ap (λ c. record (front (after_fork b passed handed left p)) { children = c })
      (append_assoc ks p.children (next_child b passed handed p ∷ []))
  front-fork b passed handed (Err c) p = front-failure c p

  front-set : (s : Sort) (is_owned : Bool) (q : Name) (v : Value) (p : Point B) → has q p.holds ≡ is_owned
      → after_set s q v (front p) ≡ front (after_set s q v p)
  front-set sort.Task is_owned q v p e = front-failure cause.Kind p
  front-set sort.Promise true q v p e =
      ap (λ b. cond b (after_write q v (front p)) (after_failure (cause.Owner q) (front p))) e
      ∙ ap (λ w. record (front (after_write q v p)) { writes = w }) (append_assoc ws p.writes ((q, entry.Value v) ∷ []))
      ∙ sym (ap (λ b. front (cond b (after_write q v p) (after_failure (cause.Owner q) p))) e)
  front-set sort.Promise false q v p e =
      ap (λ b. cond b (after_write q v (front p)) (after_failure (cause.Owner q) (front p))) e
      ∙ front-failure (cause.Owner q) p
      ∙ sym (ap (λ b. front (cond b (after_write q v p) (after_failure (cause.Owner q) p))) e)

  front-get : (spare : Bool) (s : Sort) (q : Name) (p : Point B)
      → after_get spare s q (front p) ≡ front (after_get spare s q p)
  front-get spare sort.Task q p = front-failure cause.Kind p
  front-get spare sort.Promise q p = refl

  front-refused : (refused spare : Bool) (q : Name) (p : Point B)
      → cond refused (after_failure (cause.Order q) (front p)) (with_wait spare q (front p))
      ≡ front (cond refused (after_failure (cause.Order q) p) (with_wait spare q p))
  front-refused true spare q p = front-failure (cause.Order q) p
  front-refused false spare q p = refl

  front-join : (strict spare : Bool) (s : Sort) (q : Name) (p : Point B)
      → after_join strict spare s q (front p) ≡ front (after_join strict spare s q p)
  front-join strict spare sort.Task q p = front-refused (strict && not (before p.name q)) spare q p
  front-join strict spare sort.Promise q p = front-failure cause.Kind p

  -- an ask
  pub front-ask : (strict : Bool) (a : Ask B) (p : Point B)
      → after_ask strict a (front p) ≡ front (after_ask strict a p)
  front-ask strict (ask.Fork b pass hand) p = front-fork b (map (reference p) pass)
      (map (λ k. (reference p k).name) hand) (hand_all p.holds (map (reference p) hand)) p
  front-ask strict (ask.Set k v) p =
      front-set (reference p k).sort (has (reference p k).name p.holds) (reference p k).name
      (value_at p.name p.references v) p refl
  front-ask strict (ask.Get k) p = front-get false (reference p k).sort (reference p k).name p
  front-ask strict (ask.Join k) p = front-join strict false (reference p k).sort (reference p k).name p
  front-ask strict (ask.GetOr k) p = front-get true (reference p k).sort (reference p k).name p
  front-ask strict (ask.JoinOr k) p = front-join strict true (reference p k).sort (reference p k).name p
  front-ask strict (ask.End v) p = front-close (close.Done (value_at p.name p.references v))
      (entry.Value (value_at p.name p.references v)) p
  front-ask strict (ask.Fail t) p = front-failure (cause_of t) p
  front-ask strict a p = refl

  -- an answer
  pub front-read : (spare : Bool) (q : Name) (e : Entry) (p : Point B)
      → after_read spare q e (front p) ≡ front (after_read spare q e p)
  front-read true q entry.Broken p = refl
  front-read false q entry.Broken p = front-failure (cause.Broken q) p
  front-read spare q (entry.Value (value.Num i)) p = refl
  front-read spare q (entry.Value (value.Ref r)) p = refl

  front-look : (spare : Bool) (q : Name) (e : Option Entry) (p : Point B)
      → after_look spare q e (front p) ≡ front (after_look spare q e p)
  front-look spare q None p = refl
  front-look spare q (Some e) p = front-read spare q e p

  front-stage : (rules : Rules B) (V : Assignment) (s : PointStage) (p : Point B)
      → after_stage rules V s (front p) ≡ front (after_stage rules V s p)
  front-stage rules V (stage.Answered a) p = front-ask rules.strict (rules.asks p.body a)
      (record p { body = rules.then p.body a })
  front-stage rules V (stage.Waits q spare) p = front-look spare q (V q) p
  front-stage rules V (stage.Closed e) p = refl

  -- a step
  pub front-step : (rules : Rules B) (V : Assignment) (p : Point B)
      → after_step rules V (front p) ≡ front (after_step rules V p)
  front-step rules V p = front-stage rules V p.stage p
