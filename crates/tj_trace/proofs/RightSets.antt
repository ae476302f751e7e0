-- At each point of a task's history what it has set was set where it stood at a statement that sets a promise.
use Rattle.tj_trace.proofs.LoggedRules.{rules}
use Rattle.tj_trace.proofs.Prelude.{Ask, Assignment, Bool, Entry, IsIn, List, Logged, Name, None, Option}
use Rattle.tj_trace.proofs.Prelude.{Point, PointStage, Some, Statement, Task, [], after_ask, after_look, after_read}
use Rattle.tj_trace.proofs.Prelude.{after_stage, ap, ask_as, false, history, inl, inr, logged, logged_left, logged_then}
use Rattle.tj_trace.proofs.Prelude.{placed_then, point_after, refl, slice_get, subst, suc, sym, true, within, zero, ℕ}
use Rattle.tj_trace.proofs.Prelude.{⊎_elim, ◌*◌, ◌++◌, ◌∙◌, ◌∷◌, ◌≡◌}
use Rattle.std.proofs.Common.{append-nil}
use Rattle.tj_body.specs.Inner.AskSteps.{IsAskStep, fails, ends, makes, forks, sets, gets, joins, prints}
use Rattle.tj_body.proofs.Histories.AskSteps.{is_ask_step}
use Rattle.tj_eval.specs.Bodies.{script_asks}
use Rattle.tj_eval.specs.Stands.{Stand, placed, placed_asks}
use Rattle.tj_eval.specs.Statements.{TaskState}
use Rattle.tj_mean.proofs.Lists.Elements.{in_snoc}
use Rattle.tj_trace.specs.Logs.{set_by, set_here}
use Rattle.tj_trace.specs.RightLines.{IsSet}
use Rattle.tj_trace.specs.declared.logged.PlaceSet.{PlaceSet}
use Rattle.tj_trace.proofs.Asked.{IsAskOf, IsThere, is_asked}
use Rattle.tj_trace.proofs.HasLines.{not_none}
use Rattle.tj_trace.proofs.RightPoints.{IsNew, IsRightPoint, IsRightStage, IsRun, right_point}
use Rattle.tj_trace.proofs.SetsThere.{sets_at, sets_of_point}
use Rattle.tj_body.specs.declared.ask.Ask.TheVariants as ask
use Rattle.tj_body.specs.declared.point.Value.TheVariants as value
use Rattle.tj_body.specs.declared.point.Entry.TheVariants as entry
use Rattle.tj_body.specs.declared.point.PointStage.TheVariants as stage
use Rattle.tj_syntax.specs.Trees as tree

-- what an ask sets stays the same where the tasks that it forks are seen otherwise
same_place : {B C : Type 0} (f : B → C) (a : Ask B) → set_by (ask_as f a) ≡ set_by a
same_place f ask.New = refl
same_place f a = refl

-- a statement that asks to set a promise sets one
sets_one : (s : Statement) (f k : ℕ) (q : Ask TaskState) → IsAskOf s f q → set_by q ≡ Some k → IsSet s
sets_one s f k (ask.Set j v) h e = h
sets_one s f k ask.New h e = absurd (not_none k e)
sets_one s f k q h e = absurd (not_none k e)

module _ (all : List Statement) where
  -- a statement with this number sets a promise
  abbrev pub SetsAt : ℕ → Type 0
  SetsAt n = (s : Statement) × (slice_get all n ≡ Some s) × IsSet s

  -- each note tells such a number
  abbrev pub AreSets : List PlaceSet → Type 0
  AreSets ns = (n : PlaceSet) → IsIn n ns → SetsAt n.at

  -- one note more
  set_more : (ns : List PlaceSet) (m : PlaceSet) → AreSets ns → SetsAt m.at → AreSets (ns ++ m ∷ [])
  set_more ns m g s n i = ⊎_elim (g n) (λ e. subst (λ (z : PlaceSet). SetsAt z.at) (sym e) s) (in_snoc ns n m i)

  -- what an ask sets is noted where the task stands
  ask_right : (strict : Bool) (p : Point Logged) (a : Ask Logged) (q : Point Logged) → IsAskStep strict p a q
      → p.body.set_due ≡ set_by a → AreSets p.body.sets
      → ((k : ℕ) → set_by a ≡ Some k → SetsAt p.body.placed.stand.at) → AreSets (sets_of_point q)
  ask_right strict p _ _ (fails a c) e g s = g
  ask_right strict p _ _ (ends v) e g s = g
  ask_right strict p _ _ makes e g s = g
  ask_right strict p _ _ (forks b pass hand left o) e g s = g
  ask_right strict p _ _ (sets k v sort o) e g s =
      let z = p.body.placed.stand in
      subst (λ o. AreSets (p.body.sets ++ set_here o z)) (sym e)
      (set_more p.body.sets (record { place = k; at = z.at }) g (s k refl))
  ask_right strict p _ _ (gets spare k sort) e g s = g
  ask_right strict p _ _ (joins spare k sort o) e g s = g
  ask_right strict p _ _ (prints i) e g s =
      subst (λ o. AreSets (p.body.sets ++ set_here o p.body.placed.stand)) (sym e)
      (subst AreSets (sym (append-nil p.body.sets)) g)

  -- a read sets nothing
  look_right : (spare : Bool) (x : Name) (o : Option Entry) (p : Point Logged) → sets_of_point p ≡ p.body.sets
      → AreSets (sets_of_point p) → AreSets (sets_of_point (after_look spare x o p))
  look_right spare x None p e g = g
  look_right spare x (Some y) p e g = read spare y (subst AreSets e g) where
    read : (b : Bool) (y : Entry) → AreSets p.body.sets → AreSets (sets_of_point (after_read b x y p))
    read true entry.Broken h = h
    read false entry.Broken h = h
    read b (entry.Value (value.Num i)) h = h
    read b (entry.Value (value.Ref r)) h = h

  -- a task that asks to set a promise stands at a statement that sets one
  stands_there : (z : Stand) (q : Ask TaskState) (k : ℕ) → IsThere all z q → set_by q ≡ Some k → SetsAt z.at
  stands_there z q k (inl s) e = (s.0, s.1, sets_one s.0 z.called k q s.2 e)
  stands_there z q k (inr f) e =
      let h : None ≡ Some k = sym (ap (λ (a : Ask TaskState). set_by a) f.1) ∙ e in absurd (not_none k h)

  module _ (script : List tree.Task) (d : ℕ) (strict : Bool) where
    -- each step
    step_right : (V : Assignment) (s : PointStage) (p : Point Logged) → p.stage ≡ s → IsRightPoint script d all p
        → AreSets (sets_of_point p) → AreSets (sets_of_point (after_stage (rules strict) V s p))
    step_right V (stage.Answered a) p e h g =
        let x = p.body.placed in
        let k = is_asked all x a h.run.named (subst (λ s. IsRightStage script d all s x) e h.stage) in
        let q = record p { body = logged_then p.body a } in
        let b = ask_as logged (placed_asks x a) in
        let asks = script_asks x.task a in
        let same = same_place logged (placed_asks x a) in
        ask_right strict q b (after_ask strict b q) (is_ask_step strict q b) (sym same)
        (subst (λ s. AreSets (sets_at s p.body)) e g)
        (λ n f. stands_there (placed_then x a).stand asks n k.there
        (sym (same_place (placed (placed_then x a).stand.called) asks) ∙ sym same ∙ f))
    step_right V (stage.Waits x spare) p e h g = look_right spare x (V x) p (ap (λ s. sets_at s p.body) e) g
    step_right V (stage.Closed c) p e h g = g

    right_until : (V : Assignment) (t : Task Logged) → IsRun script d all t.body.placed → t.body.makers ≡ []
        → t.body.sets ≡ [] → (k : ℕ) → AreSets (sets_of_point (point_after (rules strict) V k t))
    right_until V t r e f zero = λ n i. absurd (subst (IsIn n) f i)
    right_until V t r e f (suc k) =
        let p = point_after (rules strict) V k t in
        step_right V p.stage p refl (right_point script d all strict V t r e k) (right_until V t r e f k)

-- where a task stood as it set what it set
pub right_sets : (script : List tree.Task) (strict : Bool) (V : Assignment) (t : Task Logged) (n : IsNew script t)
    → AreSets (within n.right.task.body) (sets_of_point (history (rules strict) V t))
right_sets script strict V t n =
    right_until (within n.right.task.body) script t.body.placed.stand.decl strict V t
    (record { named = n.right.named; same = n.same; decl = refl }) n.fresh n.unset (2 * suc (logged_left t.body))
