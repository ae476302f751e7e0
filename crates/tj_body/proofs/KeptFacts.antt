-- What each ask keeps holds in all rounds.
use Rattle.std.proofs.Common.{◌≡◌, ℕ, zero, suc, ◌*◌, Bool, true, false, inl, inr}
use Rattle.std.proofs.Common.{Option, Some, None, sym, subst, ⊎_elim}
use Rattle.tj_base.specs.ForkOrder.{Name}
use Rattle.tj_body.specs.Programs.{Rules, Program, root_task}
use Rattle.tj_body.specs.History.{Assignment, after_read, after_look, after_stage, point_after, history}
use Rattle.tj_body.specs.Rounds.{family, given, tasks}
use Rattle.tj_body.specs.Points.{IsIn}
use Rattle.tj_body.specs.KeptFacts.{HoldsOfFork, IsKeptByAsks, HoldsAt, HoldsInRounds}
use Rattle.tj_body.specs.Inner.AskSteps.{IsAskStep, fails, ends, makes, forks, sets, gets, joins, prints}
use Rattle.tj_body.specs.declared.ask.Ask.{Ask}
use Rattle.tj_body.specs.declared.point.Value.TheVariants as value
use Rattle.tj_body.specs.declared.point.Entry.{Entry}
use Rattle.tj_body.specs.declared.point.Entry.TheVariants as entry
use Rattle.tj_body.specs.declared.point.PointStage.{PointStage}
use Rattle.tj_body.specs.declared.point.PointStage.TheVariants as stage
use Rattle.tj_body.specs.declared.point.Task.{Task}
use Rattle.tj_body.specs.declared.point.Point.{Point}
use Rattle.tj_body.proofs.Histories.AskSteps.{is_ask_step}
use Rattle.tj_body.proofs.Lists.{in_either, from_flat_map}

module _ {B : Type 0} (P : B → Type 0) where
  keeps : (strict : Bool) (p : Point B) (a : Ask B) (q : Point B) → IsAskStep strict p a q → HoldsAt P p
      → HoldsOfFork P a → HoldsAt P q
  keeps strict p _ _ (fails a c) h k = h
  keeps strict p _ _ (ends v) h k = h
  keeps strict p _ _ makes h k = h
  keeps strict p _ _ (forks b pass hand l e) h k = (
    h.0,
    λ c i. ⊎_elim (λ j. h.1 c j)
        (λ j. ⊎_elim (λ (f : c ≡ _). subst (λ (z : Task B). P z.body) (sym f) k) (λ n. absurd n) j)
        (in_either c p.children _ i),
  )
  keeps strict p _ _ (sets k v s o) h f = h
  keeps strict p _ _ (gets spare k s) h f = h
  keeps strict p _ _ (joins spare k s o) h f = h
  keeps strict p _ _ (prints i) h k = h

  reads : (spare : Bool) (q : Name) (x : Entry) (p : Point B) → HoldsAt P p → HoldsAt P (after_read spare q x p)
  reads true q entry.Broken p h = h
  reads false q entry.Broken p h = h
  reads spare q (entry.Value (value.Num i)) p h = h
  reads spare q (entry.Value (value.Ref r)) p h = h

  looks : (spare : Bool) (q : Name) (o : Option Entry) (p : Point B) → HoldsAt P p → HoldsAt P (after_look spare q o p)
  looks spare q None p h = h
  looks spare q (Some x) p h = reads spare q x p h

  module _ (rules : Rules B) (kept : IsKeptByAsks P rules) (V : Assignment) where
    steps : (st : PointStage) (p : Point B) → HoldsAt P p → HoldsAt P (after_stage rules V st p)
    steps (stage.Answered a) p h = let k = kept p.body a h.0 in let q = record p { body = rules.then p.body a } in
        keeps rules.strict q (rules.asks p.body a) _ (is_ask_step rules.strict q (rules.asks p.body a)) (k.0, h.1) k.1
    steps (stage.Waits q spare) p h = looks spare q (V q) p h
    steps (stage.Closed e) p h = h

    points : (t : Task B) → P t.body → (k : ℕ) → HoldsAt P (point_after rules V k t)
    points t h zero = (h, λ c i. absurd i)
    points t h (suc k) = let p = point_after rules V k t in steps p.stage p (points t h k)

    families : (d : ℕ) (t u : Task B) → P t.body → IsIn u (family rules V d t) → P u.body
    families zero t u h (inl e) = subst (λ (z : Task B). P z.body) (sym e) h
    families zero t u h (inr i) = absurd i
    families (suc d) t u h (inl e) = subst (λ (z : Task B). P z.body) (sym e) h
    families (suc d) t u h (inr i) = let r = from_flat_map (family rules V d) u (history rules V t).children i in
        families d r.0 u ((points t h (2 * suc (rules.left t.body))).1 r.0 r.1) r.2

  -- what each ask keeps, and the root has, holds in all rounds
  pub holds_in_rounds : (program : Program B) → IsKeptByAsks P program.rules → P program.root → HoldsInRounds P program
  holds_in_rounds program kept h t s =
      let b = of_task s.0 s.1 in (
        b,
        λ p q. subst (HoldsAt P) (sym q.1.1) (points program.rules kept (given program q.0)
            t b q.1.0),
      ) where
        of_task : (n : ℕ) → IsIn t (tasks program n) → P t.body
        of_task zero i = absurd i
        of_task (suc n) i = families program.rules kept (given program n) (suc n) (root_task program.root) t h i
