-- A name belongs to one line at most: as a cell that its task kept, or as the result of a task that failed.
use Rattle.std.proofs.Common.{◌≡◌, ℕ, zero, suc, ◌*◌, ◌≤◌, Bool, true, false, List, [], ◌∷◌, map, Option, Some, None}
use Rattle.std.proofs.Common.{refl, sym, ap, subst, ◌∙◌, inl, inr, arith}
use Rattle.tj_base.specs.ForkOrder.{Name}
use Rattle.tj_base.specs.declared.cause.Cause.{Cause}
use Rattle.tj_base.specs.declared.cause.Cause.TheVariants as cause
use Rattle.tj_body.specs.History.{Assignment, after_ask, after_close, after_look, after_read, after_stage, history}
use Rattle.tj_body.specs.History.{point_after, value_at, with_entry}
use Rattle.tj_body.specs.Inner.AskSteps.{IsAskStep, fails, ends, makes, forks, sets, gets, joins, prints}
use Rattle.tj_body.specs.Names.{in_order}
use Rattle.tj_body.specs.Points.{IsIn}
use Rattle.tj_body.specs.Programs.{Rules}
use Rattle.tj_body.specs.Rounds.{given, last_round, tasks}
use Rattle.tj_body.specs.declared.ask.Ask.{Ask}
use Rattle.tj_body.specs.declared.point.Close.{Close}
use Rattle.tj_body.specs.declared.point.Close.TheVariants as close
use Rattle.tj_body.specs.declared.point.Entry.{Entry}
use Rattle.tj_body.specs.declared.point.Entry.TheVariants as entry
use Rattle.tj_body.specs.declared.point.Point.{Point}
use Rattle.tj_body.specs.declared.point.PointStage.{PointStage}
use Rattle.tj_body.specs.declared.point.PointStage.TheVariants as stage
use Rattle.tj_body.specs.declared.point.Task.{Task}
use Rattle.tj_body.specs.declared.point.Value.TheVariants as value
use Rattle.tj_body.proofs.Counts.{total_one}
use Rattle.tj_body.proofs.Histories.AskSteps.{is_ask_step}
use Rattle.tj_body.proofs.Lists.{in_right}
use Rattle.tj_body.proofs.Rounds.Families.{same_name, uses}
use Rattle.tj_body.proofs.Rounds.Rises.{once_in_round, tasks_within, wrote_of_in}
use Rattle.tj_eval.specs.Stands.{PlacedState}
use Rattle.tj_mean.specs.Outcomes.{ending_of}
use Rattle.tj_mean.specs.declared.outcome.Ending.{Ending}
use Rattle.tj_mean.specs.declared.outcome.Ending.TheVariants as ending
use Rattle.tj_trace.specs.Logs.{Logged, logged_left, logged_program}
use Rattle.tj_trace.specs.Lookups.{kept_by}
use Rattle.tj_trace.specs.Traces.{AreTraced, line_of}
use Rattle.tj_trace.specs.declared.line.TraceLine.{TraceLine}
use Rattle.tj_trace.proofs.HasLines.{HasLine, line_is, line_name, of_line, some_is}
use Rattle.tj_forest.proofs.Origins.{closed_of, kept_used}

module _ {B : Type 0} where
  -- a task that has ended has written its result
  abbrev pub ResultAt : PointStage → Point B → Type 0
  ResultAt (stage.Answered a) p = Unit {0}
  ResultAt (stage.Waits x spare) p = Unit {0}
  ResultAt (stage.Closed c) p = (e : Entry) × IsIn (p.name, e) p.writes

  abbrev pub HasResult : Point B → Type 0
  HasResult p = ResultAt p.stage p

  closes : (e : Close) (r : Entry) (p : Point B) → HasResult (after_close e r p)
  closes e r p =
      (r, in_right (p.name, r) p.writes ((p.name, r) ∷ map (with_entry entry.Broken) (in_order p.holds)) (inl refl))

  keeps : (strict : Bool) (p : Point B) (a : Ask B) (q : Point B) → IsAskStep strict p a q → HasResult q
  keeps strict p _ _ (fails a c) = closes (close.Failed c) entry.Broken p
  keeps strict p _ _ (ends v) =
      let r = value_at p.name p.references v in closes (close.Done r) (entry.Value r) p
  keeps strict p _ _ makes = tt
  keeps strict p _ _ (forks b pass hand l e) = tt
  keeps strict p _ _ (sets k v s o) = tt
  keeps strict p _ _ (gets spare k s) = tt
  keeps strict p _ _ (joins spare k s o) = tt
  keeps strict p _ _ (prints i) = tt

  reads : (spare : Bool) (q : Name) (x : Entry) (p : Point B) → HasResult (after_read spare q x p)
  reads true q entry.Broken p = tt
  reads false q entry.Broken p = closes (close.Failed (cause.Broken q)) entry.Broken p
  reads spare q (entry.Value (value.Num i)) p = tt
  reads spare q (entry.Value (value.Ref r)) p = tt

  looks : (spare : Bool) (q : Name) (o : Option Entry) (p : Point B) → HasResult p → HasResult (after_look spare q o p)
  looks spare q None p h = h
  looks spare q (Some x) p h = reads spare q x p

  module _ (rules : Rules B) (V : Assignment) where
    steps : (s : PointStage) (p : Point B) → p.stage ≡ s → HasResult p → HasResult (after_stage rules V s p)
    steps (stage.Answered a) p at h =
        let q = record p { body = rules.then p.body a } in
        keeps rules.strict q (rules.asks p.body a) (after_ask rules.strict (rules.asks p.body a) q)
        (is_ask_step rules.strict q (rules.asks p.body a))
    steps (stage.Waits x spare) p at h = looks spare x (V x) p h
    steps (stage.Closed c) p at h = h

    has_result : (t : Task B) (k : ℕ) → HasResult (point_after rules V k t)
    has_result t zero = tt
    has_result t (suc k) = let p = point_after rules V k t in steps p.stage p refl (has_result t k)

module _ {B : Type 0} where
  -- a task that hasn't ended owes nothing
  abbrev pub OwesAt : PointStage → Point B → Type 0
  OwesAt (stage.Answered a) p = p.owed ≡ []
  OwesAt (stage.Waits x spare) p = p.owed ≡ []
  OwesAt (stage.Closed c) p = Unit {0}

  abbrev Owes : Point B → Type 0
  Owes p = OwesAt p.stage p

  asks_on : (strict : Bool) (p : Point B) (a : Ask B) (q : Point B) → IsAskStep strict p a q → p.owed ≡ [] → Owes q
  asks_on strict p _ _ (fails a c) h = tt
  asks_on strict p _ _ (ends v) h = tt
  asks_on strict p _ _ makes h = h
  asks_on strict p _ _ (forks b pass hand l e) h = h
  asks_on strict p _ _ (sets k v s o) h = h
  asks_on strict p _ _ (gets spare k s) h = h
  asks_on strict p _ _ (joins spare k s o) h = h
  asks_on strict p _ _ (prints i) h = h

  reads_on : (spare : Bool) (q : Name) (x : Entry) (p : Point B) → p.owed ≡ [] → Owes (after_read spare q x p)
  reads_on true q entry.Broken p h = h
  reads_on false q entry.Broken p h = tt
  reads_on spare q (entry.Value (value.Num i)) p h = h
  reads_on spare q (entry.Value (value.Ref r)) p h = h

  looks_on : (spare : Bool) (q : Name) (o : Option Entry) (p : Point B) → p.owed ≡ [] → Owes p
      → Owes (after_look spare q o p)
  looks_on spare q None p none h = h
  looks_on spare q (Some x) p none h = reads_on spare q x p none

  module _ (rules : Rules B) (V : Assignment) where
    goes_on : (s : PointStage) (p : Point B) → p.stage ≡ s → Owes p → Owes (after_stage rules V s p)
    goes_on (stage.Answered a) p at h =
        let q = record p { body = rules.then p.body a } in
        asks_on rules.strict q (rules.asks p.body a) (after_ask rules.strict (rules.asks p.body a) q)
        (is_ask_step rules.strict q (rules.asks p.body a)) (subst (λ s. OwesAt s p) at h)
    goes_on (stage.Waits x spare) p at h = looks_on spare x (V x) p (subst (λ s. OwesAt s p) at h) h
    goes_on (stage.Closed c) p at h = h

    owes_none : (t : Task B) (k : ℕ) → Owes (point_after rules V k t)
    owes_none t zero = refl
    owes_none t (suc k) = let p = point_after rules V k t in goes_on p.stage p refl (owes_none t k)

-- what a task told so has become
waits_in : {A : Type 0} (z : PointStage) (q : Name) → ending_of z ≡ Some (ending.Waits q)
    → ((spare : Bool) → z ≡ stage.Waits q spare → A) → A
waits_in (stage.Answered a) q e on = absurd (cc)
waits_in (stage.Closed (close.Done v)) q e on = absurd (cc)
waits_in (stage.Closed (close.Failed c)) q e on = absurd (cc)
waits_in (stage.Waits x spare) q e on = on spare (same x q e) where
  same : (x q : Name) → ◌≡◌ {A = Option Ending} (Some (ending.Waits x)) (Some (ending.Waits q))
      → stage.Waits x spare ≡ stage.Waits q spare
  same x q e = cc

-- the line's task kept the cell, or it failed and the cell is its result
pub data Claims (l : TraceLine) (x : Name) : Type 0 where
  kept : IsIn x (kept_by l) → Claims l x
  result : (c : Cause) → x ≡ l.line.name → l.line.ending ≡ ending.Failed c → Claims l x

module _ (strict : Bool) (root : PlacedState) (N : ℕ) (lines : List TraceLine)
    (traced : AreTraced (logged_program strict root) N lines) where
  claimed : (t : Task Logged) (l : TraceLine) (x : Name) → HasLine strict root N t l → Claims l x
      → 1 ≤ uses (logged_program strict root).rules (given (logged_program strict root) (last_round N)) x t
  claimed t l x h (kept i) = kept_used strict root N lines traced t l x h i
  claimed t l x h (result c named is) = by (has_result rules V t (2 * suc (logged_left t.body))) where
    rules : Rules Logged
    rules = (logged_program strict root).rules

    V : Assignment
    V = given (logged_program strict root) (last_round N)

    p : Point Logged
    p = history rules V t

    stopped : ending_of p.stage ≡ Some (ending.Failed c)
    stopped =
        let k = line_is p l h.is in
        k.1 ∙ ap (λ z. Some z) (ap (λ (z : TraceLine). z.line.ending) k.2 ∙ is)

    by : HasResult p → 1 ≤ uses rules V x t
    by r =
        let e = subst (λ s. ResultAt s p) (closed_of p.stage c stopped) r in
        let same : p.name ≡ x = same_name rules V t ∙ sym (line_name strict root N t l h) ∙ sym named in
        let w = wrote_of_in x e.0 p.writes (subst (λ y. IsIn (y, e.0) p.writes) same e.1) in
        omega arith

  -- a task that waits owes nothing
  pub waits_owe_none : (l : TraceLine) → IsIn l lines → (q : Name) → l.line.ending ≡ ending.Waits q → l.line.owes ≡ []
  waits_owe_none l i q is =
      let rules = (logged_program strict root).rules in
      let V = given (logged_program strict root) (last_round N) in
      let t = of_line strict root N lines traced l i in
      let p = history rules V t.0 in
      let k = line_is p l t.1.is in
      let stopped : ending_of p.stage ≡ Some (ending.Waits q) =
      k.1 ∙ ap (λ z. Some z) (ap (λ (z : TraceLine). z.line.ending) k.2 ∙ is) in
      ap (λ (z : TraceLine). z.line.owes) (sym k.2)
      ∙ waits_in p.stage q stopped (λ spare s.
      subst (λ z. OwesAt z p) s (owes_none rules V t.0 (2 * suc (logged_left t.0.body))))

  -- two lines that claim a name are one
  pub one_claims : (l m : TraceLine) → IsIn l lines → IsIn m lines → (x : Name) → Claims l x → Claims m x → l ≡ m
  one_claims l m i j x a b =
      let program = logged_program strict root in
      let n = last_round N in
      let t = of_line strict root N lines traced l i in
      let u = of_line strict root N lines traced m j in
      let up : n ≤ suc n = omega arith in
      let same : t.0 ≡ u.0 = total_one (uses program.rules (given program n) x) (tasks program (suc n))
      (once_in_round program n x) t.0 u.0 (tasks_within program n (suc n) up t.0 t.1.there)
      (tasks_within program n (suc n) up u.0 u.1.there) (claimed t.0 l x t.1 a) (claimed u.0 m x u.1 b) in
      some_is l m (sym t.1.is ∙ ap (λ z. line_of (history program.rules (given program n) z)) same ∙ u.1.is)
