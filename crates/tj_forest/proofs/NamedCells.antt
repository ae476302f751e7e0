-- A cell that a failure names is one that the task has a reference to.
use Rattle.std.proofs.Common.{◌≡◌, ℕ, zero, suc, ◌&&◌, Bool, true, false, not, cond, List, [], ◌∷◌, map}
use Rattle.std.proofs.Common.{Option, Some, None, Result, Ok, Err, refl, sym, subst, inl, inr}
use Rattle.tj_base.specs.ForkOrder.{Name, before}
use Rattle.tj_base.specs.declared.cause.Cause.{Cause}
use Rattle.tj_base.specs.declared.cause.Cause.TheVariants as cause
use Rattle.tj_base.specs.declared.cause.Trouble.{Trouble}
use Rattle.tj_base.specs.declared.cause.Trouble.TheVariants as trouble
use Rattle.tj_base.specs.declared.cell.Sort.{Sort}
use Rattle.tj_base.specs.declared.cell.Sort.TheVariants as sort
use Rattle.tj_body.specs.History.{Assignment, after_ask, after_failure, after_get, after_join, after_look, after_set}
use Rattle.tj_body.specs.History.{after_stage, after_try_fork, after_write, cause_of, hand_all, hand_one, point_after}
use Rattle.tj_body.specs.History.{reference, value_at, with_wait}
use Rattle.tj_body.specs.Names.{has, without}
use Rattle.tj_body.specs.Points.{IsIn, IsProper}
use Rattle.tj_body.specs.Programs.{AreLawful, Program, Rules, root_task}
use Rattle.tj_body.specs.RoundPoints.{IsNamed}
use Rattle.tj_body.specs.Rounds.{given, tasks}
use Rattle.tj_body.specs.declared.ask.Ask.{Ask}
use Rattle.tj_body.specs.declared.ask.Ask.TheVariants as ask
use Rattle.tj_body.specs.declared.point.Close.TheVariants as close
use Rattle.tj_body.specs.declared.point.Entry.{Entry}
use Rattle.tj_body.specs.declared.point.Entry.TheVariants as entry
use Rattle.tj_body.specs.declared.point.Point.{Point}
use Rattle.tj_body.specs.declared.point.PointStage.{PointStage}
use Rattle.tj_body.specs.declared.point.PointStage.TheVariants as stage
use Rattle.tj_body.specs.declared.point.Reference.{Reference}
use Rattle.tj_body.specs.declared.point.Task.{Task}
use Rattle.tj_body.specs.declared.point.Value.{Value}
use Rattle.tj_body.specs.declared.point.Value.TheVariants as value
use Rattle.tj_body.proofs.Lists.{in_map}
use Rattle.tj_body.proofs.References.{AllNamed, HasNamed, at_place, has_named}

module _ (Named : Sort → Name → Type 0) where
  -- the cell of a failure for want of an owner, or against the order
  abbrev pub CauseNamed : Cause → Type 0
  CauseNamed cause.Arith = Unit {0}
  CauseNamed cause.Kind = Unit {0}
  CauseNamed cause.Steps = Unit {0}
  CauseNamed (cause.Owner q) = Named sort.Promise q
  CauseNamed (cause.Broken q) = Unit {0}
  CauseNamed (cause.Order q) = (s : Sort) × Named s q

  -- the same where a task has failed
  abbrev pub FailsNamed : PointStage → Type 0
  FailsNamed (stage.Answered a) = Unit {0}
  FailsNamed (stage.Waits q spare) = Unit {0}
  FailsNamed (stage.Closed (close.Done v)) = Unit {0}
  FailsNamed (stage.Closed (close.Failed c)) = CauseNamed c

  of_hands : (holds : List Name) (rs : List Reference) (c : Cause) → AllNamed Named rs → hand_all holds rs ≡ Err c
      → CauseNamed c
  of_hands holds [] c all e = absurd (cc)
  of_hands holds (r ∷ rs) c all e =
      by r.sort (has r.name holds) (hand_all (without r.name holds) rs) (all r (inl refl))
      (of_hands (without r.name holds) rs c (λ x i. all x (inr i))) e where
        by : (s : Sort) (b : Bool) (rest : Result (List Name) Cause) → Named s r.name → (rest ≡ Err c → CauseNamed c)
            → hand_one s b r.name rest ≡ Err c → CauseNamed c
        by sort.Task b rest named on e = subst CauseNamed (same cause.Kind c e) tt where
          same : (a c : Cause) → ◌≡◌ {A = Result (List Name) Cause} (Err a) (Err c) → a ≡ c
          same a c e = cc
        by sort.Promise true rest named on e = on e
        by sort.Promise false rest named on e =
            subst CauseNamed (same (cause.Owner r.name) c e) named where
              same : (a c : Cause) → ◌≡◌ {A = Result (List Name) Cause} (Err a) (Err c) → a ≡ c
              same a c e = cc

  of_trouble : (t : Trouble) → CauseNamed (cause_of t)
  of_trouble trouble.Arith = tt
  of_trouble trouble.Kind = tt
  of_trouble trouble.Steps = tt

  module _ {B : Type 0} where
    placed : (p : Point B) → HasNamed Named p → (k : ℕ) → Named (reference p k).sort (reference p k).name
    placed p h k = at_place Named p.name p.references k h.0 h.1

    all_placed : (p : Point B) → HasNamed Named p → (l : List ℕ) → AllNamed Named (map (reference p) l)
    all_placed p h l r i =
        let k = in_map (reference p) r l i in
        subst (λ (z : Reference). Named z.sort z.name) (sym k.2) (placed p h k.0)

    of_fork : (b : B) (pass : List Reference) (hand : List Name) (l : Result (List Name) Cause) (p : Point B)
        → ((c : Cause) → l ≡ Err c → CauseNamed c) → FailsNamed (after_try_fork b pass hand l p).stage
    of_fork b pass hand (Ok left) p none = tt
    of_fork b pass hand (Err c) p none = none c refl

    of_set : (s : Sort) (x : Name) (v : Value) (p : Point B) → Named s x → FailsNamed (after_set s x v p).stage
    of_set sort.Task x v p named = tt
    of_set sort.Promise x v p named = by (has x p.holds) where
      by : (b : Bool) → FailsNamed (cond b (after_write x v p) (after_failure (cause.Owner x) p)).stage
      by true = tt
      by false = named

    of_get : (spare : Bool) (s : Sort) (x : Name) (p : Point B) → FailsNamed (after_get spare s x p).stage
    of_get spare sort.Task x p = tt
    of_get spare sort.Promise x p = tt

    of_join : (strict spare : Bool) (s : Sort) (x : Name) (p : Point B) → Named s x
        → FailsNamed (after_join strict spare s x p).stage
    of_join strict spare sort.Promise x p named = tt
    of_join strict spare sort.Task x p named = by (strict && not (before p.name x)) where
      by : (b : Bool) → FailsNamed (cond b (after_failure (cause.Order x) p) (with_wait spare x p)).stage
      by true = (sort.Task, named)
      by false = tt

    of_ask : (strict : Bool) (a : Ask B) (p : Point B) → HasNamed Named p → FailsNamed (after_ask strict a p).stage
    of_ask strict ask.New p h = tt
    of_ask strict (ask.Fork b pass hand) p h =
        of_fork b (map (reference p) pass) (map (λ k. (reference p k).name) hand)
        (hand_all p.holds (map (reference p) hand)) p
        (λ c e. of_hands p.holds (map (reference p) hand) c (all_placed p h hand) e)
    of_ask strict (ask.Set k v) p h =
        of_set (reference p k).sort (reference p k).name (value_at p.name p.references v) p (placed p h k)
    of_ask strict (ask.Get k) p h = of_get false (reference p k).sort (reference p k).name p
    of_ask strict (ask.Join k) p h = of_join strict false (reference p k).sort (reference p k).name p (placed p h k)
    of_ask strict (ask.GetOr k) p h = of_get true (reference p k).sort (reference p k).name p
    of_ask strict (ask.JoinOr k) p h = of_join strict true (reference p k).sort (reference p k).name p (placed p h k)
    of_ask strict (ask.Emit i) p h = tt
    of_ask strict (ask.End v) p h = tt
    of_ask strict (ask.Fail t) p h = of_trouble t

    of_look : (spare : Bool) (x : Name) (o : Option Entry) (p : Point B) → FailsNamed p.stage
        → FailsNamed (after_look spare x o p).stage
    of_look spare x None p h = h
    of_look true x (Some entry.Broken) p h = tt
    of_look false x (Some entry.Broken) p h = tt
    of_look spare x (Some (entry.Value (value.Num i))) p h = tt
    of_look spare x (Some (entry.Value (value.Ref r))) p h = tt

    goes : (rules : Rules B) (V : Assignment) (st : PointStage) (p : Point B) → HasNamed Named p → FailsNamed p.stage
        → FailsNamed (after_stage rules V st p).stage
    goes rules V (stage.Answered a) p h f =
        of_ask rules.strict (rules.asks p.body a) (record p { body = rules.then p.body a }) h
    goes rules V (stage.Waits q spare) p h f = of_look spare q (V q) p f
    goes rules V (stage.Closed e) p h f = f

module _ {B : Type 0} (program : Program B) (obeys : AreLawful program.rules)
    (proper : IsProper program.rules (root_task program.root)) where
  -- the cell that a failure names is named
  pub fails_named : (n : ℕ) (t : Task B) → IsIn t (tasks program (suc n)) → (k : ℕ)
      → FailsNamed (IsNamed program) (point_after program.rules (given program n) k t).stage
  fails_named n t i zero = tt
  fails_named n t i (suc k) =
      let p = point_after program.rules (given program n) k t in
      goes (IsNamed program) program.rules (given program n) p.stage p (has_named program obeys proper n t i k)
      (fails_named n t i k)
