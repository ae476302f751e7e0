-- A task that has ended has written what became of its result, and holds nothing, at each of its points.
use Rattle.std.proofs.Common.{◌≡◌, ℕ, zero, suc, Bool, true, false, inl, List, [], ◌∷◌, ◌++◌, map, Option, Some, None}
use Rattle.std.proofs.Common.{refl}
use Rattle.tj_base.specs.ForkOrder.{Name}
use Rattle.tj_body.specs.Names.{in_order}
use Rattle.tj_body.specs.Programs.{Rules}
use Rattle.tj_body.specs.History.{Assignment, with_entry, after_read, after_look, after_stage, point_after}
use Rattle.tj_body.specs.Points.{IsIn}
use Rattle.tj_body.specs.Inner.AskSteps.{IsAskStep, fails, ends, makes, forks, sets, gets, joins, prints}
use Rattle.tj_body.specs.declared.ask.Ask.{Ask}
use Rattle.tj_body.specs.declared.point.Value.TheVariants as value
use Rattle.tj_body.specs.declared.point.Entry.{Entry}
use Rattle.tj_body.specs.declared.point.Entry.TheVariants as entry
use Rattle.tj_body.specs.declared.point.Close.{Close}
use Rattle.tj_body.specs.declared.point.Close.TheVariants as close
use Rattle.tj_body.specs.declared.point.PointStage.{PointStage}
use Rattle.tj_body.specs.declared.point.PointStage.TheVariants as stage
use Rattle.tj_body.specs.declared.point.Task.{Task}
use Rattle.tj_body.specs.declared.point.Point.{Point}
use Rattle.tj_body.proofs.Histories.AskSteps.{is_ask_step}
use Rattle.tj_body.proofs.Lists.{in_right}

-- what becomes of the result of a task that has closed like this
abbrev pub result_of : Close → Entry
result_of (close.Done v) = entry.Value v
result_of (close.Failed c) = entry.Broken

-- what a task with this name has done that has closed like this
pub record HasClosed (e : Close) (x : Name) (writes : List (Name × Entry)) (holds : List Name) : Type 0 where
  pub wrote : IsIn (x, result_of e) writes
  pub empty : holds ≡ []

-- the same of a stage, where it is a close
abbrev pub HasClosedIn : PointStage → Name → List (Name × Entry) → List Name → Type 0
HasClosedIn (stage.Closed e) x writes holds = HasClosed e x writes holds
HasClosedIn st x writes holds = Unit {0}

module _ {B : Type 0} where
  -- the task has done it, if it has ended
  abbrev pub ClosesWhole : Point B → Type 0
  ClosesWhole p = HasClosedIn p.stage p.name p.writes p.holds

  -- a close does it
  closes : (e : Close) (p : Point B) → HasClosed e p.name
      (p.writes ++ (p.name, result_of e) ∷ map (with_entry entry.Broken) (in_order p.holds)) []
  closes e p = record { wrote = in_right (p.name, result_of e) p.writes _ (inl refl); empty = refl }

  ask_steps : (strict : Bool) (p : Point B) (a : Ask B) (p' : Point B) → IsAskStep strict p a p' → ClosesWhole p'
  ask_steps strict p _ _ (fails a c) = closes _ p
  ask_steps strict p _ _ (ends v) = closes _ p
  ask_steps strict p _ _ makes = tt
  ask_steps strict p _ _ (forks b pass hand l e) = tt
  ask_steps strict p _ _ (sets k v s o) = tt
  ask_steps strict p _ _ (gets spare k s) = tt
  ask_steps strict p _ _ (joins spare k s o) = tt
  ask_steps strict p _ _ (prints i) = tt

  reads : (spare : Bool) (c : Name) (x : Entry) (p : Point B) → ClosesWhole (after_read spare c x p)
  reads true c entry.Broken p = tt
  reads false c entry.Broken p = closes _ p
  reads spare c (entry.Value (value.Num i)) p = tt
  reads spare c (entry.Value (value.Ref r)) p = tt

  looks : (spare : Bool) (c : Name) (o : Option Entry) (p : Point B) → ClosesWhole p
      → ClosesWhole (after_look spare c o p)
  looks spare c None p g = g
  looks spare c (Some x) p g = reads spare c x p

  module _ (rules : Rules B) (V : Assignment) where
    goes : (st : PointStage) (p : Point B) → ClosesWhole p → ClosesWhole (after_stage rules V st p)
    goes (stage.Answered a) p g =
        let ask = rules.asks p.body a in let next : Point B = record p { body = rules.then p.body a } in
        ask_steps rules.strict next ask _ (is_ask_step rules.strict next ask)
    goes (stage.Waits c spare) p g = looks spare c (V c) p g
    goes (stage.Closed x) p g = g

    pub closes_whole : (t : Task B) (k : ℕ) → ClosesWhole (point_after rules V k t)
    closes_whole t zero = tt
    closes_whole t (suc k) = let p = point_after rules V k t in goes p.stage p (closes_whole t k)
