-- A history only grows, step by step, and under a larger assignment.
use Rattle.std.proofs.Common.{◌≡◌, ℕ, zero, suc, Bool, true, false, ◌⊎◌, inl, inr, ⊎_elim, List}
use Rattle.std.proofs.Common.{◌++◌}
use Rattle.std.proofs.Common.{Option, Some, None, refl, sym, ap, ◌∙◌, subst}
use Rattle.tj_base.specs.ForkOrder.{Name}
use Rattle.tj_body.specs.Programs.{Rules}
use Rattle.tj_body.specs.History.{Assignment, start, after_read}
use Rattle.tj_body.specs.History.{after_look, after_ask, after_stage, after_step, point_after}
use Rattle.tj_body.specs.Points.{Begins, IsWithin, Extends}
use Rattle.tj_body.specs.Inner.AskSteps.{IsAskStep, fails, ends, makes, forks, sets, gets, joins, prints}
use Rattle.tj_body.specs.declared.ask.Ask.{Ask}
use Rattle.tj_body.specs.declared.point.Value.TheVariants as value
use Rattle.tj_body.specs.declared.point.Entry.{Entry}
use Rattle.tj_body.specs.declared.point.Entry.TheVariants as entry
use Rattle.tj_body.specs.declared.point.Close.{Close}
use Rattle.tj_body.specs.declared.point.PointStage.{PointStage}
use Rattle.tj_body.specs.declared.point.PointStage.TheVariants as stage
use Rattle.tj_body.specs.declared.point.Task.{Task}
use Rattle.tj_body.specs.declared.point.Point.{Point}
use Rattle.tj_body.proofs.Histories.AskSteps.{is_ask_step}
use Rattle.tj_body.proofs.Lists.{begins_self, begins_more, begins_trans}

module _ {B : Type 0} where
  -- p' goes on from p: it is of the same task, and has what p has
  abbrev pub GoesOn : Point B → Point B → Type 0
  GoesOn p p' = Begins p.children p'.children × Begins p.writes p'.writes × Begins p.promises p'.promises
      × Begins p.prints p'.prints × Begins p.references p'.references × (p'.name ≡ p.name)

  -- what goes on from a point extends it
  pub extends : (p p' : Point B) → GoesOn p p' → Extends p p'
  extends p p' h = (h.0, h.1, h.2, h.3, h.4)

  -- a point goes on from itself
  pub goes_on_self : (p : Point B) → GoesOn p p
  goes_on_self p = (
    begins_self p.children,
    begins_self p.writes,
    begins_self p.promises,
    begins_self p.prints,
    begins_self p.references,
    refl,
  )

  -- and from what an earlier one goes on from
  pub goes_on_trans : (p q r : Point B) → GoesOn p q → GoesOn q r → GoesOn p r
  goes_on_trans p q r a b = (
    begins_trans p.children q.children r.children a.0 b.0,
    begins_trans p.writes q.writes r.writes a.1 b.1,
    begins_trans p.promises q.promises r.promises a.2 b.2,
    begins_trans p.prints q.prints r.prints a.3 b.3,
    begins_trans p.references q.references r.references a.4 b.4,
    b.5 ∙ a.5,
  )

  writes_more : (p : Point B) (w : List (Name × Entry)) → GoesOn p (record p { writes = p.writes ++ w })
  writes_more p w = (
    begins_self p.children,
    begins_more p.writes w,
    begins_self p.promises,
    begins_self p.prints,
    begins_self p.references,
    refl,
  )

  -- and so does an answer
  pub reads : (spare : Bool) (q : Name) (e : Entry) (p : Point B) → GoesOn p (after_read spare q e p)
  reads true q entry.Broken p = goes_on_self p
  reads false q entry.Broken p = writes_more p _
  reads spare q (entry.Value (value.Num i)) p = goes_on_self p
  reads spare q (entry.Value (value.Ref r)) p = (
    begins_self p.children,
    begins_self p.writes,
    begins_self p.promises,
    begins_self p.prints,
    begins_more p.references _,
    refl,
  )

  looks : (q : Name) (spare : Bool) (o : Option Entry) (p : Point B) → GoesOn p (after_look spare q o p)
  looks q spare None p = goes_on_self p
  looks q spare (Some e) p = reads spare q e p

  -- an ask only adds
  ask_steps : (strict : Bool) (p : Point B) (a : Ask B) (p' : Point B) → IsAskStep strict p a p' → GoesOn p p'
  ask_steps strict p _ _ (fails a c) = writes_more p _
  ask_steps strict p _ _ (ends v) = writes_more p _
  ask_steps strict p _ _ makes = (
    begins_self p.children,
    begins_self p.writes,
    begins_more p.promises _,
    begins_self p.prints,
    begins_more p.references _,
    refl,
  )
  ask_steps strict p _ _ (forks b pass hand l e) = (
    begins_more p.children _,
    begins_self p.writes,
    begins_self p.promises,
    begins_self p.prints,
    begins_more p.references _,
    refl,
  )
  ask_steps strict p _ _ (sets k v s o) = writes_more p _
  ask_steps strict p _ _ (gets spare k s) = goes_on_self p
  ask_steps strict p _ _ (joins spare k s o) = goes_on_self p
  ask_steps strict p _ _ (prints i) = (
    begins_self p.children,
    begins_self p.writes,
    begins_self p.promises,
    begins_more p.prints _,
    begins_self p.references,
    refl,
  )

  pub takes : (strict : Bool) (a : Ask B) (p : Point B) → GoesOn p (after_ask strict a p)
  takes strict a p = ask_steps strict p a (after_ask strict a p) (is_ask_step strict p a)

  module _ (rules : Rules B) where
    -- a step only adds, whatever the stage
    pub goes : (V : Assignment) (st : PointStage) (p : Point B) → GoesOn p (after_stage rules V st p)
    goes V (stage.Answered a) p = takes rules.strict (rules.asks p.body a) (record p { body = rules.then p.body a })
    goes V (stage.Waits q spare) p = looks q spare (V q) p
    goes V (stage.Closed e) p = goes_on_self p

    -- a step only adds
    pub grows : (V : Assignment) (p : Point B) → GoesOn p (after_step rules V p)
    grows V p = goes V p.stage p

    -- each point goes on from the start
    pub from_start : (V : Assignment) (k : ℕ) (t : Task B) → GoesOn (start t) (point_after rules V k t)
    from_start V zero t = goes_on_self (start t)
    from_start V (suc k) t =
        goes_on_trans (start t) (point_after rules V k t) (point_after rules V (suc k) t)
        (from_start V k t) (grows V (point_after rules V k t))

    -- the task waits for a cell without an entry
    abbrev pub IsWaiting : Assignment → Point B → Type 0
    IsWaiting V p = (q : Name) × (spare : Bool) × (p.stage ≡ stage.Waits q spare) × (V q ≡ None)

    -- what waits stays
    pub waiting_stays : (V : Assignment) (p : Point B) → IsWaiting V p → after_step rules V p ≡ p
    waiting_stays V p w = ap (λ z. after_stage rules V z p) w.2 ∙ ap (λ z. after_look w.1 w.0 z p) w.3

    -- a step under a larger assignment is the same, or there was none
    pub same_or_waiting : (V W : Assignment) → IsWithin V W → (st : PointStage) (p : Point B) → p.stage ≡ st
        → (after_stage rules V st p ≡ after_stage rules W st p) ⊎ IsWaiting V p
    same_or_waiting V W h (stage.Answered a) p g = inl refl
    same_or_waiting V W h (stage.Closed e) p g = inl refl
    same_or_waiting V W h (stage.Waits q spare) p g = by_entry (V q) refl where
      by_entry : (o : Option Entry) → V q ≡ o
          → (after_look spare q (V q) p ≡ after_look spare q (W q) p) ⊎ IsWaiting V p
      by_entry None e = inr (q, spare, g, e)
      by_entry (Some x) e = inl (ap (λ z. after_look spare q z p) (e ∙ sym (h q x e)))

    module _ (V W : Assignment) (h : IsWithin V W) (t : Task B) where
      -- p is q, or p waits under V and q goes on from it
      abbrev Keeps : Point B → Point B → Type 0
      Keeps p q = (p ≡ q) ⊎ (IsWaiting V p × GoesOn p q)

      abbrev under_V : Point B → Point B
      under_V p = after_step rules V p

      abbrev under_W : Point B → Point B
      under_W p = after_step rules W p

      one : (p q : Point B) → Keeps p q → Keeps (under_V p) (under_W q)
      one p q (inl e) =
          ⊎_elim (λ (s : under_V p ≡ under_W p). inl (s ∙ ap under_W e))
          (λ (s : IsWaiting V p). let y = sym (waiting_stays V p s) in
          inr (
            subst (IsWaiting V) y s,
            subst (λ z. GoesOn z (under_W q)) y (subst (λ z. GoesOn p (under_W z)) e (grows W p)),
          ))
          (same_or_waiting V W h p.stage p refl)
      one p q (inr s) =
          let y = sym (waiting_stays V p s.0) in
          inr (
            subst (IsWaiting V) y s.0,
            subst (λ z. GoesOn z (under_W q)) y (goes_on_trans p q (under_W q) s.1 (grows W q)),
          )

      -- after as many steps the same, or the smaller assignment has stopped it earlier
      pub monotone : (k : ℕ) → Keeps (point_after rules V k t) (point_after rules W k t)
      monotone zero = inl refl
      monotone (suc k) = one (point_after rules V k t) (point_after rules W k t) (monotone k)

      -- after as many steps the larger assignment has come as far or further
      pub more : (k : ℕ) → GoesOn (point_after rules V k t) (point_after rules W k t)
      more k =
          let p = point_after rules V k t in
          ⊎_elim (λ e. subst (GoesOn p) e (goes_on_self p)) (λ s. s.1) (monotone k)

      -- a history that has ended is the same
      pub ended_same : (k : ℕ) (e : Close) → (point_after rules V k t).stage ≡ stage.Closed e
          → point_after rules V k t ≡ point_after rules W k t
      ended_same k e c =
          ⊎_elim (λ x. x)
          (λ s. let y : stage.Closed e ≡ stage.Waits s.0.0 s.0.1 = sym c ∙ s.0.2 in absurd (cc))
          (monotone k)

      next_point : (k j : ℕ) → point_after rules W j t ≡ point_after rules V k t
          → (i : ℕ) × (point_after rules W i t ≡ under_V (point_after rules V k t))
      next_point k j e =
          let p = point_after rules V k t in
          ⊎_elim (λ s. (suc j, ap under_W e ∙ sym s)) (λ w. (j, e ∙ sym (waiting_stays V p w)))
          (same_or_waiting V W h p.stage p refl)

      -- a point under V is a point under W
      pub still_point : (k : ℕ) → (j : ℕ) × (point_after rules W j t ≡ point_after rules V k t)
      still_point zero = (zero, refl)
      still_point (suc k) = let r = still_point k in next_point k r.0 r.1
